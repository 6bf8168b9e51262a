use Rattle.std.proofs.Common.{◌≡◌, take}
use Rattle.cw_json.proofs.props.Props.copy.Given as goal

-- the pairs so far are the first of all
abbrev pub invariant-loop-key : goal.invariant-loop-key
invariant-loop-key l = l.pairs.items ≡ take l.key-index l.self
