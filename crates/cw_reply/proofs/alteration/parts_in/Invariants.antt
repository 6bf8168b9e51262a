use Rattle.std.proofs.Common.{◌≡◌, ◌++◌, map, drop}
use Rattle.std.specs.List.{filter_map}
use Rattle.cw_rest.specs.Offsets as offsets
use Rattle.cw_reply.specs.Alterations.{alteration_in}
use Rattle.cw_reply.proofs.alteration.parts_in.Given as goal

abbrev pub invariant-loop-alteration : goal.invariant-loop-alteration
invariant-loop-alteration l = l.parts.items ++ filter_map (offsets.part_of l.connector) (map alteration_in (drop l.alteration-index l.list)) ≡ filter_map (offsets.part_of l.connector) (map alteration_in l.list)
