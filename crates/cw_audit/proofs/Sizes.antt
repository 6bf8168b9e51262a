-- The lines of the five logs, written one behind the other.
use Rattle.std.proofs.Common.{◌≡◌, ℕ, List, [], ◌++◌, ap, ◌∙◌}

pub five-lines : (t0 t1 t2 t3 t4 t5 m1 m2 m3 m4 m5 : List ℕ) → t0 ≡ [] → t1 ≡ t0 ++ m1 → t2 ≡ t1 ++ m2 → t3 ≡ t2 ++ m3 → t4 ≡ t3 ++ m4 → t5 ≡ t4 ++ m5 →
    t5 ≡ m1 ++ m2 ++ m3 ++ m4 ++ m5
five-lines t0 t1 t2 t3 t4 t5 m1 m2 m3 m4 m5 none e1 e2 e3 e4 e5 =
    e5 ∙ ap (λ (l : List ℕ). l ++ m5) (e4 ∙ ap (λ (l : List ℕ). l ++ m4) (e3 ∙ ap (λ (l : List ℕ). l ++ m3)
    (e2 ∙ ap (λ (l : List ℕ). l ++ m2) (e1 ∙ ap (λ (l : List ℕ). l ++ m1) none))))
