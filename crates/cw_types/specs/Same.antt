-- When two producers, parts or transactions are the same: by kind, by the bytes of their names, and by their numbers.
use Rattle.std.specs.Prelude.{ℕ, Bool, true, false, ◌&&◌, ◌==◌, List, Option, Some, None}
use Rattle.std.specs.Str.{bytes_eq}
use Rattle.std.specs.declared.cmp.Ordering.{Ordering}
use Rattle.cw_types.specs.declared.ids.Tid.{Tid}
use Rattle.cw_types.specs.declared.ids.Tid.TheVariants.{Lead, Task, Raw as RawId}
use Rattle.cw_types.specs.declared.ids.Tag.{Tag}
use Rattle.cw_types.specs.declared.ids.PartKey.{PartKey}
use Rattle.cw_types.specs.declared.ids.PartKey.TheVariants.{Raw, File, Seq, Sink}
use Rattle.cw_types.specs.contracts.ids.TidOrd.TheImpl as tid_ord
use Rattle.cw_types.specs.contracts.ids.TagOrd.TheImpl as tag_ord
use Rattle.cw_types.specs.PartOrder.{part_cmp}
use Rattle.cw_types.specs.contracts.ids.TidPartialEq.TheImpl as tid_partial_eq
use Rattle.cw_types.specs.contracts.ids.TagPartialEq.TheImpl as tag_partial_eq
use Rattle.cw_types.specs.contracts.ids.PartKeyPartialEq.TheImpl as part_partial_eq

-- one producer id (KIP-98, KIP-618)
abbrev pub same_tid : Tid → Tid → Bool
same_tid Lead Lead = true
same_tid (Task a) (Task b) = bytes_eq a.connector b.connector && (a.index == b.index)
same_tid (RawId a) (RawId b) = a == b
same_tid _ _ = false

-- one transaction
abbrev pub same_tag : Tag → Tag → Bool
same_tag a b = same_tid a.tid b.tid && (a.epoch.0 == b.epoch.0) && (a.number == b.number)

-- one part
abbrev pub same_part : PartKey → PartKey → Bool
same_part (Raw a) (Raw b) = a == b
same_part (File a f) (File b g) = bytes_eq a b && bytes_eq f g
same_part (Seq a i) (Seq b j) = bytes_eq a b && (i == j)
same_part (Sink a t) (Sink b u) = bytes_eq a b && bytes_eq t u
same_part _ _ = false

-- the connector of a part, which a part of a script hasn't
abbrev pub connector_of : PartKey → Option (List ℕ)
connector_of (Raw a) = None
connector_of (File a f) = Some a
connector_of (Seq a i) = Some a
connector_of (Sink a t) = Some a

-- the orders of ids and parts as keys of a table
abbrev pub tid_order : Tid → Tid → Ordering
tid_order = tid_ord.cmp-value.it

abbrev pub tag_order : Tag → Tag → Ordering
tag_order = tag_ord.cmp-value.it

abbrev pub part_order : PartKey → PartKey → Ordering
part_order = part_cmp

-- their tests as keys of a table by hashes
abbrev pub tid_eq : Tid → Tid → Bool
tid_eq = tid_partial_eq.eq-value.it

abbrev pub tag_eq : Tag → Tag → Bool
tag_eq = tag_partial_eq.eq-value.it

abbrev pub part_eq : PartKey → PartKey → Bool
part_eq = part_partial_eq.eq-value.it
