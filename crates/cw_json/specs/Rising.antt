-- Properties have each key once, and their keys rise by bytes. The order is this project's own.
use Rattle.std.specs.Prelude.{◌≡◌, ℕ, List, [], ◌∷◌}
use Rattle.std.specs.declared.cmp.Ordering.TheVariants.{Less}
use Rattle.std.specs.List.{AllByRecursion}
use Rattle.std.specs.Ordering.{nat_cmp}
use Rattle.std.specs.Cmp.Lexicographic.{slice_cmp}

-- each key is below those after it
abbrev pub IsRising : List (List ℕ × List ℕ) → Type 0
IsRising [] = Unit {0}
IsRising (p ∷ ps) = AllByRecursion (λ q. slice_cmp nat_cmp p.0 q.0 ≡ Less) ps × IsRising ps
