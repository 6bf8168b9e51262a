use Rattle.std.proofs.Common.{All, take}
use Rattle.cw_types.specs.Name.{IsName}
use Rattle.cw_ops.proofs.laws.feeds_are_named.Given as goal

abbrev pub invariant-loop-name : goal.invariant-loop-name
invariant-loop-name l = All IsName (take l.name-index l.feeds)
