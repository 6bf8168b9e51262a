use Rattle.std.proofs.Common.{length, ◌-◌, ◌≡◌, ◌≤◌, ◌++◌, take}
use Rattle.std.specs.Option.{option_map}
use Rattle.cw_io.proofs.traits.write_all.Given as goal

abbrev pub invariant-loop-at : goal.invariant-loop-at
invariant-loop-at g l = record {
  within : l.at ≤ length l.bytes;
  added : g.O.Sink.held l.output ≡ option_map (λ before. before ++ take l.at l.bytes) (g.O.Sink.held l.fn.output);
  later : g.O.Sink.faults l.fn.output ≤ g.O.Sink.faults l.output;
}

abbrev pub decreases-loop-at : goal.decreases-loop-at
decreases-loop-at g l = length l.bytes - l.at
