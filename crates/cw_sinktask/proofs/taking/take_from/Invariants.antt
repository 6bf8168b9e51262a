use Rattle.std.proofs.Common.{◌≡◌, ◌++◌, take}
use Rattle.cw_model.specs.Polls.{most_records, records_from}
use Rattle.cw_sinktask.specs.Gathered.{values_of, place_behind}
use Rattle.cw_sinktask.proofs.Taken.{left}
use Rattle.cw_sinktask.proofs.taking.take_from.Given as goal

-- what was taken, and what is left to be taken from here on, are the records in question
abbrev pub invariant-loop-count : goal.invariant-loop-count
invariant-loop-count l = record {
  lines : l.lines.items ++ values_of (left l.topic l.log.entries l.count l.to) ≡
      values_of (take most_records (records_from l.topic l.from l.log.entries));
  to : place_behind l.to (left l.topic l.log.entries l.count l.to) ≡
      place_behind l.from (take most_records (records_from l.topic l.from l.log.entries));
}
