-- Which entries of the offset log stay, by the transactions that have records. Internal: no public contract cites this.
use Rattle.std.specs.Prelude.{Bool, ◌==◌, not, length}
use Rattle.std.specs.BTreeSet.{BTreeSet, contains}
use Rattle.cw_types.specs.declared.ids.Tag.{Tag}
use Rattle.cw_types.specs.Same.{tag_order}
use Rattle.cw_offset.specs.declared.body.OffsetEntry.{OffsetEntry}
use Rattle.cw_offset.specs.declared.body.OffsetEntry.TheVariants.{Records, Mark}

-- an entry stays that has records, or marks one of these transactions
abbrev pub stays_by : BTreeSet Tag → OffsetEntry → Bool
stays_by filled (Records tag records) = not (length records == 0)
stays_by filled (Mark mark) = contains tag_order filled mark.tag
