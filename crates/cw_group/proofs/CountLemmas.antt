-- How many members a group has behind each change.
use Rattle.std.proofs.Common.{◌≡◌, ℕ, ◌≤◌, ◌+◌, ◌==◌, Bool, true, false, cond, List, [], ◌∷◌, length, map, refl, arith, nat_lt}
use Rattle.std.proofs.lemmas.List.{length-map}
use Rattle.cw_assign.specs.declared.share.Share.{Share}
use Rattle.cw_group.specs.declared.member.Member.{Member}
use Rattle.cw_group.specs.Members.{unjoined, with_member, with_shares}

pub length-with : (member : Member) (ms : List Member) → length (with_member member ms) ≤ length ms + 1
length-with member [] = omega arith
length-with member (m ∷ ms) = pick (nat_lt member.worker m.worker) (member.worker == m.worker) (length-with member ms) where
  pick : (a b : Bool) → length (with_member member ms) ≤ length ms + 1
      → length (cond a (member ∷ m ∷ ms) (cond b (member ∷ ms) (m ∷ with_member member ms))) ≤ length (m ∷ ms) + 1
  pick true b rest = omega arith
  pick false true rest = omega arith
  pick false false rest = omega (arith, rest)

pub length-shares : (ms : List Member) (ss : List Share) → length (with_shares ms ss) ≡ length ms
length-shares [] ss = refl
length-shares (m ∷ ms) [] = refl
length-shares (m ∷ ms) (s ∷ ss) = omega (arith, length-shares ms ss)

pub length-opened : (b : Bool) (ms : List Member) → length (cond b ms (map unjoined ms)) ≡ length ms
length-opened true ms = refl
length-opened false ms = length-map ms unjoined
