use Rattle.std.proofs.Common.{◌≡◌, List, take}
use Rattle.cw_bytes.specs.declared.applied.Applied.{Applied}
use Rattle.cw_compact.specs.Bodies.{AreBodiesOf, bodies_in}
use Rattle.cw_compact.proofs.bodies.read_frames.Given as goal

abbrev pub invariant-loop-body : goal.invariant-loop-body
invariant-loop-body l = record {
  found : AreBodiesOf l.frames.items (bodies_in (take l.body-index l.bodies));
  only : (frames : List (List Applied)) → AreBodiesOf frames (bodies_in l.bodies) → l.frames.items ≡ take l.body-index frames;
}
