use Rattle.std.proofs.Common.{◌≡◌, ℕ, zero, suc, ◌-◌, ◌<◌, List, [], ◌∷◌, length, take, drop, Bool, true, false, ◌&&◌, cond, leb, refl, arith}
use Rattle.std.specs.List.{list_all}
use Rattle.std.specs.Str.{IsAscii, IsUtf8}
use Rattle.std.proofs.lemmas.Bool.Decides.{nat_tests}
use Rattle.std.proofs.lemmas.Str.{IsAscii-take, IsAscii-drop, IsUtf8-from_ascii}
use Rattle.matchit.specs.Params.{walk, part_of, wild_from, wild_stop, after_token}
use Rattle.cw_types.specs.Name.{is_name_byte}
use Rattle.cw_route.specs.Parts.{EachIsText}

both : (a b : Bool) → (a && b) ≡ true → (a ≡ true) × (b ≡ true)
both true b e = (refl, e)
both false b e = cc

plain_byte : (c : ℕ) → is_name_byte c ≡ true → c < 128
plain_byte c h = grind (arith, nat_tests)

pub plain_ascii : (path : List ℕ) → list_all is_name_byte path ≡ true → IsAscii path
plain_ascii [] h i = omega arith
plain_ascii (c ∷ cs) h zero = plain_byte c (both _ _ h).0
plain_ascii (c ∷ cs) h (suc i) = plain_ascii cs (both _ _ h).1 i

part_cond : (b : Bool) (path : List ℕ) (start end : ℕ) → IsAscii path → IsUtf8 (cond b (take (end - start) (drop start path)) [])
part_cond true path start end h = IsUtf8-from_ascii _ (IsAscii-take (drop start path) (end - start) (IsAscii-drop path start h))
part_cond false path start end h = IsUtf8-from_ascii [] (λ i. omega arith)

part_text : (path : List ℕ) (start end : ℕ) → IsAscii path → IsUtf8 (part_of path start end)
part_text path start end h = part_cond (leb start end && leb end (length path)) path start end h

pub walk_text : (pattern text path : List ℕ) (names : List (ℕ × ℕ)) (token at : ℕ) → IsAscii path → EachIsText (walk pattern text path names token at)
walk_text pattern text path [] token at h = tt
walk_text pattern text path (name ∷ rest) token at h =
    let from = wild_from (drop token pattern) (length path) token at in
    let stop = wild_stop pattern from.0 path from.1 in
    (part_text path from.1 stop h, walk_text pattern text path rest (after_token from.0) stop h)
