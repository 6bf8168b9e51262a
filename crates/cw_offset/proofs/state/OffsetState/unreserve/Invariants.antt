use Rattle.std.proofs.Common.{◌≡◌, []}
use Rattle.cw_offset.proofs.state.OffsetState.unreserve.Given as goal

abbrev pub invariant-loop-call : goal.invariant-loop-call
invariant-loop-call l = l.self ≡ record l.fn.self { reserved = [] }
