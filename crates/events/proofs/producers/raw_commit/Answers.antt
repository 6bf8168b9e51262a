use Rattle.std.proofs.Common.{ℕ, ◌<◌, ◌^◌, ◌∷◌, [], arith}
use Rattle.std.specs.List.{IsDistinct}
use Rattle.std.proofs.lemmas.List.Elements.{All-from_recursion}
use Rattle.events.proofs.producers.raw_commit.Goals as goal

pub raw_commit-requires : goal.raw_commit-requires
unfolding IsDistinct
raw_commit-requires c = record {
  some = omega arith;
  few = omega arith;
  distinct = (tt, tt);
  producer = c.in_ok-n.ensures;
  parts = All-from_recursion (λ (pair : ℕ × ℕ). pair.0 < 2 ^ 32)
      ((c.in_ok-short.field-0, c.in_ok-long-2.field-0) ∷ []) (c.in_ok-short.ensures, tt);
  ends = All-from_recursion (λ (pair : ℕ × ℕ). pair.1 < 2 ^ 64)
      ((c.in_ok-short.field-0, c.in_ok-long-2.field-0) ∷ []) (c.in_ok-long-2.ensures, tt);
}
