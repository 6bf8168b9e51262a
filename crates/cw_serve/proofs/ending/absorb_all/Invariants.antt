use Rattle.std.proofs.Common.{◌≡◌, ◌+◌, ◌≤◌, ◌<◌, vec_len, vec_capacity}
use Rattle.std.specs.List.{flat_map}
use Rattle.cw_serve.specs.Talking.{AreTalks, entries_in}
use Rattle.cw_serve.proofs.ending.absorb_all.Given as goal

abbrev pub invariant-loop-handler : goal.invariant-loop-handler
invariant-loop-handler g l =
    (l.acceptor.parts + vec_len l.done ≡ l.fn.acceptor.parts + vec_len l.fn.done) × (l.acceptor.pushed ≡ l.fn.acceptor.pushed)
    × (l.fn.acceptor.parts ≤ l.acceptor.parts)
    × (vec_len l.books + vec_len l.done ≡ vec_len l.fn.books + vec_len l.fn.done)
    × (vec_len l.books + vec_len l.done < vec_capacity l.books)
    × (AreTalks g.L.Link l.fn.acceptor.taken (entries_in (flat_map (λ k. k.receipts.items) l.fn.books.items)) →
    AreTalks g.L.Link l.acceptor.taken (entries_in (flat_map (λ k. k.receipts.items) l.books.items)))

abbrev pub decreases-loop-handler : goal.decreases-loop-handler
decreases-loop-handler g l = vec_len l.done
