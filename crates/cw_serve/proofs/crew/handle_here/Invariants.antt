use Rattle.std.proofs.Common.{◌≡◌, ◌+◌, ◌≤◌, vec_len, vec_capacity}
use Rattle.cw_serve.proofs.crew.handle_here.Given as goal

abbrev pub invariant-loop-handler : goal.invariant-loop-handler
invariant-loop-handler g l =
    (vec_len l.waiting + vec_len l.done ≡ vec_len l.fn.waiting + vec_len l.fn.done)
    × (vec_len l.waiting + vec_len l.done ≤ vec_capacity l.done)

abbrev pub decreases-loop-handler : goal.decreases-loop-handler
decreases-loop-handler g l = vec_len l.waiting
