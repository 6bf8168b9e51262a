use Rattle.std.proofs.Common.{◌≡◌, ◌+◌, ◌≤◌, [], vec_len, vec_capacity}
use Rattle.cw_serve.proofs.beginning.split.Given as goal

abbrev pub invariant-loop : goal.invariant-loop
invariant-loop g l =
    (l.rest.parts + l.counter ≡ l.handlers + 1) × (l.rest.amount ≡ 0)
    × (l.acceptor.parts + l.counter ≡ 1024) × (l.acceptor.pushed ≡ []) × (l.acceptor.taken ≡ [])
    × (vec_len l.made ≡ l.counter) × (l.counter ≤ l.handlers) × (l.handlers ≤ vec_capacity l.made)
