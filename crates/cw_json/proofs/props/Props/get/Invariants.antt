use Rattle.std.proofs.Common.{◌≡◌, drop}
use Rattle.cw_json.specs.Pairs.{value_in}
use Rattle.cw_json.proofs.props.Props.get.Given as goal

abbrev pub invariant-loop-name : goal.invariant-loop-name
invariant-loop-name l = value_in (drop l.name-index l.name-items) l.key ≡ value_in l.self l.key
