use Rattle.std.proofs.Common.{◌≡◌, take}
use Rattle.std.specs.List.{filter}
use Rattle.std.specs.BTreeSet.{contains}
use Rattle.cw_types.specs.declared.ids.Tag.{Tag}
use Rattle.cw_types.specs.Same.{tag_order}
use Rattle.cw_offset.specs.Log.{has_records}
use Rattle.cw_offset.specs.Compaction.{is_filled}
use Rattle.cw_compact.proofs.offsets.filled_in.Given as goal

abbrev pub invariant-loop-entry : goal.invariant-loop-entry
invariant-loop-entry l = (tag : Tag) → contains tag_order l.filled tag ≡ has_records tag (filter is_filled (take l.entry-index l.log))
