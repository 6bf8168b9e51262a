use Rattle.std.proofs.Common.{[], take}
use Rattle.cw_bytes.specs.Frames.{EachFrom}
use Rattle.cw_open.proofs.StampLemmas.{HasStamps}
use Rattle.cw_open.proofs.stamps.first_configs_not_stamped.Given as goal

abbrev pub invariant-loop-at : goal.invariant-loop-at
invariant-loop-at l = EachFrom (HasStamps l.entries) [] (take l.at l.frames)
