-- Parts in the order of their partitions' texts, which is the order of a list of offsets.
use Rattle.std.specs.Prelude.{ℕ, Bool, List, [], if◌then◌else◌}
use Rattle.std.specs.List.{fold}
use Rattle.std.specs.declared.cmp.Ordering.{Ordering}
use Rattle.std.specs.Ordering.{on}
use Rattle.std.specs.Cmp.{IsTotalOrder, on_total}
use Rattle.std.specs.Cmp.Lexicographic.{nat_list_cmp_total}
use Rattle.std.specs.BTreeSet.{insert_key}
use Rattle.serde_json.specs.Written.{compact_text}
use Rattle.cw_types.specs.Order.{name_cmp}
use Rattle.cw_types.specs.declared.ids.PartKey.{PartKey}
use Rattle.cw_rest.specs.Offsets.{is_of_type, partition_of}
use Rattle.cw_reply.specs.declared.placed.Placed.{Placed}

-- the text of a part's partition
abbrev pub partition_text : PartKey → List ℕ
partition_text part = compact_text (partition_of part)

-- a part with it
abbrev pub placed_of : PartKey → Placed
placed_of part = record { text = partition_text part; part = part }

-- two of them in the order of their texts
abbrev pub placed_cmp : Placed → Placed → Ordering
placed_cmp = on (λ placed. placed.text) name_cmp

-- it is a total order
pub placed_total : IsTotalOrder placed_cmp
placed_total = on_total (λ placed. placed.text) nat_list_cmp_total

-- a part is put into its place, where it is one of a connector's type
abbrev pub with_part : (is_source : Bool) → List Placed → PartKey → List Placed
with_part is_source placed part =
    if is_of_type is_source part then insert_key placed_cmp placed (placed_of part) else placed

-- the parts of a type, each in its place
abbrev pub in_order : (is_source : Bool) → List PartKey → List Placed
in_order is_source parts = fold (with_part is_source) [] parts
