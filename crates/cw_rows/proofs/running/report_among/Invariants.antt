use Rattle.std.proofs.Common.{◌≡◌, take}
use Rattle.std.specs.List.{fold}
use Rattle.cw_assign.specs.Items.{same_item}
use Rattle.cw_model.specs.Lookups.{no_instance}
use Rattle.cw_rows.specs.Crew.{change_at}
use Rattle.cw_rows.specs.Statuses.{reporting}
use Rattle.cw_rows.proofs.running.report_among.Given as goal

abbrev pub invariant-loop-number : goal.invariant-loop-number
invariant-loop-number l = l.instances.items ≡ fold (change_at (λ i. same_item i.item l.item) (reporting l.state) no_instance)
    l.initial.instances.items (take l.number-index l.numbers)
