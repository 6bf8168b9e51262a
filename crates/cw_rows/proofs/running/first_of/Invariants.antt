use Rattle.std.proofs.Common.{◌≡◌, drop, map, get_or}
use Rattle.std.specs.List.{find}
use Rattle.cw_assign.specs.Items.{same_item}
use Rattle.cw_model.specs.Lookups.{no_instance}
use Rattle.cw_rows.proofs.running.first_of.Given as goal

abbrev pub invariant-loop-number : goal.invariant-loop-number
invariant-loop-number l =
    find (λ i. same_item i.item l.item) (map (λ n. get_or l.instances n no_instance) l.numbers) ≡
    find (λ i. same_item i.item l.item) (map (λ n. get_or l.instances n no_instance) (drop l.number-index l.numbers))
