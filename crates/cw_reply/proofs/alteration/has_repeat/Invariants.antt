use Rattle.std.proofs.Common.{◌≡◌, drop}
use Rattle.cw_rest.specs.Offsets as offsets
use Rattle.cw_reply.proofs.alteration.has_repeat.Given as goal

abbrev pub invariant-loop-place : goal.invariant-loop-place
invariant-loop-place l = offsets.has_repeat (drop l.place l.parts) ≡ offsets.has_repeat l.parts
