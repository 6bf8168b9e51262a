-- A connector's tasks, one after the other, and how many members an object has.
use Rattle.std.proofs.Common.{◌≡◌, ◌+◌, ℕ, suc, zero-add, String, true, ◌<◌, drop, get_or, List, [], ◌∷◌, ◌++◌, length, refl, ap, ◌∙◌, arith}
use Rattle.std.specs.declared.alloc.Global.{Global}
use Rattle.std.specs.Bool.{if◌then◌else◌}
use Rattle.std.specs.List.{list_any}
use Rattle.std.proofs.Math.Seq.{drop-cons}
use Rattle.std.proofs.lemmas.List.FromFn.{map-range_with_len_more}
use Rattle.serde_json.specs.View.{members_view}
use Rattle.serde_json.specs.declared.value.Value.{Value}
use Rattle.cw_types.specs.Same.{same_part}
use Rattle.cw_types.specs.declared.ids.PartKey.{PartKey}
use Rattle.cw_rest.specs.Bodies.{member_count}
use Rattle.cw_rest.specs.Offsets.{has_repeat}
use Rattle.cw_rest.specs.Pages.{tasks_of}

-- one task more
pub tasks_more : (name : List ℕ) (n : ℕ) → tasks_of name (n + 1) ≡ tasks_of name n ++ (record { connector = name; index = n }) ∷ []
tasks_more name n = map-range_with_len_more (λ (index : ℕ). record { connector = name; index = index }) 0 n n (zero-add n)

-- an object has as many members as its list
pub count_members : (ms : List (String Global × Value)) → member_count (members_view ms) ≡ length ms
count_members [] = refl
count_members (m ∷ ms) = ap (λ (n : ℕ). n + 1) (count_members ms) ∙ plus_one (length ms)
  where
    plus_one : (n : ℕ) → n + 1 ≡ suc n
    plus_one n = omega arith

-- whether a part stands twice from a place on, by what stands there
pub repeat_at : (parts : List PartKey) (place : ℕ) (part : PartKey) → place < length parts → get_or parts place part ≡ part
    → has_repeat (drop place parts) ≡ (if list_any (same_part part) (drop (place + 1) parts) then true else has_repeat (drop (place + 1) parts))
repeat_at parts place part within is =
    ap has_repeat (drop-cons parts place part within ∙ ap (λ (p : PartKey). p ∷ drop (suc place) parts) is)
    ∙ ap (λ (n : ℕ). if list_any (same_part part) (drop n parts) then true else has_repeat (drop n parts)) on
  where
    on : suc place ≡ place + 1
    on = omega arith
