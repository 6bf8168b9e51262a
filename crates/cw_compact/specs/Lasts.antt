-- Which records of a log stay by their keys, as Kafka's compacted topics have it: behind a point all do, and before it
-- the last one of each key.
use Rattle.std.specs.Prelude.{◌≡◌, ℕ, ◌+◌, ◌||◌, Bool, List, Vec, Option, Some, None, option_map, max, nat_le}
use Rattle.std.specs.BTreeMap.{BTreeMap, get_by}
use Rattle.std.specs.Cmp.Lexicographic.{slice_cmp}
use Rattle.std.specs.Ordering.{nat_cmp}
use Rattle.std.specs.declared.alloc.Global.{Global}
use Rattle.cw_bytes.specs.declared.applied.Applied.{Applied}
use Rattle.cw_bytes.specs.Frames.{next_after, is_last, last_of_key}

-- whether a record stays, where these stand before the point
abbrev pub stays : List Applied → Applied → Bool
stays before r = nat_le (next_after before) r.offset || is_last before r

-- ---- what is kept of them

-- the offset that a table has at a key
abbrev pub offset_at : BTreeMap (Vec ℕ Global) ℕ → List ℕ → Option ℕ
offset_at table key = get_by (λ k. slice_cmp nat_cmp key k.items) table

-- the higher one of offsets
abbrev pub higher : Option ℕ → ℕ → Option ℕ
higher None offset = Some offset
higher (Some most) offset = Some (max most offset)

-- one above the highest offset, 0 where there is none
abbrev pub end_at : Option ℕ → ℕ
end_at None = 0
end_at (Some highest) = highest + 1

-- the table has the offset of the last record of each key
pub record AreLasts (offsets : BTreeMap (Vec ℕ Global) ℕ) (highest : Option ℕ) (records : List Applied) : Type 0 where
  pub offsets_are : (key : List ℕ) → offset_at offsets key ≡ option_map (λ r. r.offset) (last_of_key key records)
  pub end : end_at highest ≡ next_after records
