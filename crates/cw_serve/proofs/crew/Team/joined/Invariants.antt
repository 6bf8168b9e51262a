use Rattle.std.proofs.Common.{◌≡◌, ◌+◌, ◌≤◌, vec_len, vec_capacity}
use Rattle.cw_serve.proofs.crew.Team.joined.Given as goal

abbrev pub invariant-loop-handle : goal.invariant-loop-handle
invariant-loop-handle g l =
    (vec_len l.running + vec_len l.done ≡ vec_len l.fn.self.running + vec_len l.fn.self.done)
    × (vec_len l.running + vec_len l.done ≤ vec_capacity l.done)

abbrev pub decreases-loop-handle : goal.decreases-loop-handle
decreases-loop-handle g l = vec_len l.running
