-- What was read from a body may be written again.
use Rattle.std.proofs.Common.{List, [], ◌∷◌}
use Rattle.std.specs.List.{AllByRecursion}
use Rattle.cw_offset.specs.declared.body.OffsetEntry.{OffsetEntry}
use Rattle.cw_offset.specs.declared.body.OffsetEntry.TheVariants.{Records, Mark}
use Rattle.cw_offset.specs.Body.{IsEntry as IsOffsetEntry, HasRecords}
use Rattle.cw_txn.specs.declared.entry.Entry.{Entry}
use Rattle.cw_txn.specs.declared.entry.Entry.TheVariants.{Bump, Commit, Set}
use Rattle.cw_txn.specs.Body.{IsEntry, IsShort, AreEntries, AreShort}

pub has_records : (entry : OffsetEntry) → IsOffsetEntry entry → HasRecords entry
has_records (Records tag records) is = is.1
has_records (Mark mark) is = tt

is_short : (entry : Entry) → IsEntry entry → IsShort entry
is_short (Bump tid) is = tt
is_short (Commit tag generation spans) is = is.2.0
is_short (Set tid epoch list) is = is.2.0

each_short : (entries : List Entry) → AllByRecursion IsEntry entries → AllByRecursion IsShort entries
each_short [] all = tt
each_short (entry ∷ entries) all = (is_short entry all.0, each_short entries all.1)

pub are_short : (entries : List Entry) → AreEntries entries → AreShort entries
are_short entries are = record {
  some = are.some;
  few = are.list.0;
  each = each_short entries are.list.1;
}
