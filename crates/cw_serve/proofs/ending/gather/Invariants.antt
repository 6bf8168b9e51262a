use Rattle.std.proofs.Common.{◌≡◌, ◌+◌, ◌≤◌, ◌++◌, All, vec_len, vec_capacity, length}
use Rattle.std.specs.List.{flat_map}
use Rattle.std.specs.List.Sorted.{IsPermutation}
use Rattle.cw_serve.proofs.ending.gather.Given as goal

abbrev pub invariant-loop-kept : goal.invariant-loop-kept
invariant-loop-kept g l =
    (l.rest.parts + vec_len l.books ≡ g.J.Ledger.parts)
    × (l.rest.amount ≡ vec_len l.room)
    × (l.book.total ≡ length l.world.state.journal)
    × (l.book.total ≤ vec_capacity l.room)
    × All (λ r. r.name ≡ g.J.Begun.start.name) l.room.items
    × IsPermutation (flat_map (λ k. k.receipts.items) l.fn.books.items)
    (l.room.items ++ flat_map (λ k. k.receipts.items) l.books.items)

abbrev pub decreases-loop-kept : goal.decreases-loop-kept
decreases-loop-kept g l = vec_len l.books
