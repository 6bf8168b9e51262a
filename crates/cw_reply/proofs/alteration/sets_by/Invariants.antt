use Rattle.std.proofs.Common.{◌≡◌, ◌++◌, map, drop, option_map}
use Rattle.cw_rest.specs.Offsets as offsets
use Rattle.cw_reply.specs.Alterations.{alteration_in}
use Rattle.cw_reply.proofs.alteration.sets_by.Given as goal

abbrev pub invariant-loop-alteration : goal.invariant-loop-alteration
invariant-loop-alteration l = option_map (λ rest. l.sets.items ++ rest) (offsets.sets_by l.is_source l.connector (map alteration_in (drop l.alteration-index l.list))) ≡ offsets.sets_by l.is_source l.connector (map alteration_in l.list)
