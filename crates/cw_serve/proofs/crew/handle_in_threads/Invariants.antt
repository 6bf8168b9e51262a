use Rattle.std.proofs.Common.{◌≡◌, ◌+◌, ◌≤◌, vec_len}
use Rattle.cw_serve.proofs.crew.handle_in_threads.Given as goal

abbrev pub invariant-loop-handler : goal.invariant-loop-handler
invariant-loop-handler g l =
    (vec_len l.waiting + (vec_len l.team.running + vec_len l.team.done) ≡
    vec_len l.fn.waiting + (vec_len l.fn.team.running + vec_len l.fn.team.done))
    × (vec_len l.waiting + (vec_len l.team.running + vec_len l.team.done) ≤ l.team.size)

abbrev pub decreases-loop-handler : goal.decreases-loop-handler
decreases-loop-handler g l = vec_len l.waiting
