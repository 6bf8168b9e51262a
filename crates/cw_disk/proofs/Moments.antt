-- How a run of calls goes on: which images it adds to those that were possible before.
use Rattle.std.proofs.Common.{◌⊎◌, ◌≤◌, inl, inr, ⊎_elim, ℕ, List, arith}
use Rattle.cw_disk.specs.Disk.{Elapses, AddsOf}

module _ {D I : Type 0} (moment : D → ℕ) (left_since : D → ℕ → I → Type 0) where
  -- no call
  pub adds_none : (disk : D) (P : I → Type 0) → AddsOf moment left_since disk disk P
  adds_none disk P = record { later = omega arith; before = λ t image le left. inl left }

  pub adds_weaker : (old new : D) (P Q : I → Type 0) → AddsOf moment left_since old new P → ((image : I) → P image → Q image) → AddsOf moment left_since old new Q
  adds_weaker old new P Q run weaker = record { later = run.later; before = λ t image le left. ⊎_elim (λ was. inl was) (λ p. inr (weaker image p)) (run.before t image le left) }

  -- a run after a run
  pub adds_then : (old mid new : D) (P : I → Type 0) → AddsOf moment left_since old mid P → AddsOf moment left_since mid new P → AddsOf moment left_since old new P
  adds_then old mid new P first second = record {
    later = omega (arith, first.later, second.later);
    before = λ t image le left. ⊎_elim (first.before t image le) (λ p. inr p) (second.before t image (omega (arith, le, first.later)) left);
  }

module _ {D : Type 0} (moment : D → ℕ) (left_since : D → ℕ → List ℕ → Type 0) (may_leave : D → List ℕ → Type 0) where
  -- one call, after which each image has P
  pub adds_call : (old new : D) (P : List ℕ → Type 0) → Elapses (moment old) (moment new) (left_since old) (left_since new) (may_leave new) → ((image : List ℕ) → may_leave new image → P image) → AddsOf moment left_since old new P
  adds_call old new P time here = record { later = time.later; before = λ t image le left. ⊎_elim (λ was. inl was) (λ now. inr (here image now)) (time.nothing_else t image le left) }

  -- one call that leaves no new image
  pub adds_nothing : ((disk : D) (t : ℕ) (image : List ℕ) → t ≤ moment disk → may_leave disk image → left_since disk t image) → (old new : D) (P : List ℕ → Type 0)
      → Elapses (moment old) (moment new) (left_since old) (left_since new) (may_leave new) → ((image : List ℕ) → may_leave new image → may_leave old image) → AddsOf moment left_since old new P
  adds_nothing counts_now old new P time fewer = record { later = time.later; before = λ t image le left. ⊎_elim (λ was. inl was) (λ now. inl (counts_now old t image le (fewer image now))) (time.nothing_else t image le left) }

  -- what a stop may leave now it might have left before, or it has P
  pub adds_left : ((disk : D) (t : ℕ) (image : List ℕ) → t ≤ moment disk → may_leave disk image → left_since disk t image) → ((disk : D) (image : List ℕ) → left_since disk (moment disk) image → may_leave disk image)
      → (old new : D) (P : List ℕ → Type 0) → AddsOf moment left_since old new P → (image : List ℕ) → may_leave new image → may_leave old image ⊎ P image
  adds_left counts_now only_now old new P run image left = ⊎_elim (λ was. inl (only_now old image was)) (λ p. inr p) (run.before (moment old) image (omega arith) (counts_now new (moment old) image run.later left))
