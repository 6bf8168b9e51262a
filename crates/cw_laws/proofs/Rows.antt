-- What stays where workers' rows change.
use Rattle.std.proofs.Common.{◌≡◌, ℕ, true, false, List, refl}
use Rattle.std.proofs.lemmas.Bool.{false_from_ne_true}
use Rattle.cw_types.specs.declared.ids.Item.{Item}
use Rattle.cw_assign.specs.Items.{has}
use Rattle.cw_model.specs.declared.row.Row.{Row}
use Rattle.cw_model.specs.State.{Cluster}
use Rattle.cw_model.specs.Lookups.{row_of, is_member, held}
use Rattle.cw_model.specs.Safe.{IsDisjoint}
use Rattle.cw_model.specs.FactsGroup.{GroupFacts, AreAmong, Claims, IsAsTold}

-- a row says the same of its membership
pub record SameMember (r q : Row) : Type 0 where
  pub incarnation : q.incarnation ≡ r.incarnation
  pub phase : q.phase ≡ r.phase
  pub assigned : q.assigned ≡ r.assigned
  pub revoked : q.revoked ≡ r.revoked

pub same_member : (r : Row) → SameMember r r
same_member r = record { incarnation = refl; phase = refl; assigned = refl; revoked = refl }

-- t's rows say the same of membership, and none holds more
pub record StaysMember (s t : Cluster) : Type 0 where
  pub rows : (w : ℕ) → SameMember (row_of w s) (row_of w t)
  pub held : (w : ℕ) → AreAmong (held w t) (held w s)

-- the state t with the group of s
abbrev grouped : Cluster → Cluster → Cluster
grouped s t = record t { group = s.group; delay = s.delay }

members-stay : (s t : Cluster) → StaysMember s t → (w : ℕ) → is_member w (grouped s t) ≡ is_member w s
members-stay s t same w = rw (same.rows w).incarnation refl

claims-stay : (s t : Cluster) → StaysMember s t → (w : ℕ) (claim : List Item) → Claims (grouped s t) w claim → Claims s w claim
claims-stay s t same w claim c = record { member = c.member; there = c.there; current = rw (← members-stay s t same w) c.current; is_claim = c.is_claim }

pub disjoint-stays : (s t : Cluster) → StaysMember s t → IsDisjoint s → IsDisjoint (grouped s t)
disjoint-stays s t same f v w x ne a b hold =
    let gone : has (held w s) x ≡ false = f v w x ne (rw (← members-stay s t same v) a) (rw (← members-stay s t same w) b) (same.held v x hold) in
    false_from_ne_true (has (held w t) x) (λ holds. let both : has (held w s) x ≡ true = same.held w x holds in cc)

pub group-stays : (s t : Cluster) → StaysMember s t → GroupFacts s → GroupFacts (grouped s t)
group-stays s t same f = record {
  rising = f.rising;
  apart = f.apart;
  held = λ w claim c x hold. f.held w claim (claims-stay s t same w claim c) x (same.held w x hold);
  assigned = λ w claim c. rw (same.rows w).assigned (f.assigned w claim (claims-stay s t same w claim c));
  known = λ w member there. rw (members-stay s t same w) (f.known w member there);
  no_repeat = f.no_repeat;
  in_order = f.in_order;
  all_joined = f.all_joined;
  waiting = λ unplanned w member there joined. rw (same.rows w).phase (f.waiting unplanned w member there joined);
  within = f.within;
  once = f.once;
  told = λ planned w leader current stable.
      let told : IsAsTold s w leader = f.told planned w leader (rw (← members-stay s t same w) current) (rw (← (same.rows w).phase) stable) in
      record { member = told.member; there = told.there; lowest = told.lowest; assigned = rw (same.rows w).assigned told.assigned; revoked = rw (same.rows w).revoked told.revoked };
  all_given = f.all_given;
  round = f.round;
}
