use Rattle.std.proofs.Common.{All, take}
use Rattle.cw_types.specs.Name.{IsName}
use Rattle.cw_connect.proofs.opening.are_names.Given as goal

-- those that were looked at are names
abbrev pub invariant-loop-name : goal.invariant-loop-name
invariant-loop-name l = All IsName (take l.name-index l.names)
