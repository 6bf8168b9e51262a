use Rattle.std.proofs.Common.{◌≡◌, take, map, get_or}
use Rattle.cw_model.specs.Lookups.{no_instance}
use Rattle.cw_rows.proofs.crew.items_of.Given as goal

abbrev pub invariant-loop-number : goal.invariant-loop-number
invariant-loop-number l = l.items.items ≡ map (λ n. (get_or l.instances n no_instance).item) (take l.number-index l.numbers)
