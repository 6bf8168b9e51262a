-- A disk in memory that never fails: a stop leaves what a read gives. This project's own.
use Rattle.std.specs.Prelude.{◌≡◌, ◌⊎◌, ℕ, List, [], ◌∷◌, drop, length, Some}
use mathlib.Core.Logic.{inl, inr}
use Rattle.cw_gen.specs.declared.steady_disk.Content.{Content}

-- a stop at one of these moments might have left it
abbrev pub HadLeft : List Content → List ℕ → Type 0
HadLeft [] image = ⊥
HadLeft (held ∷ past) image = (image ≡ held.bytes.items) ⊎ HadLeft past image

-- or at one from t on, up to this one
abbrev pub LeftSince : List Content → Content → ℕ → List ℕ → Type 0
LeftSince past held t image = (image ≡ held.bytes.items) ⊎ HadLeft (drop t past) image

none_left : (past : List Content) (image : List ℕ) → HadLeft (drop (length past) past) image → ⊥
none_left [] image had = had
none_left (held ∷ past) image had = none_left past image had

-- what a read gives is left
pub as_it_reads : (held : Content) (file : List ℕ) → Some held.bytes.items ≡ Some file → file ≡ held.bytes.items
as_it_reads held file is = same held.bytes.items file is
  where
    same : (a b : List ℕ) → Some a ≡ Some b → b ≡ a
    same a b e = cc

-- since this moment nothing else is
pub only_this : (past : List Content) (held : Content) (image : List ℕ) → LeftSince past held (length past) image →
    image ≡ held.bytes.items
only_this past held image (inl now) = now
only_this past held image (inr had) = absurd (none_left past image had)
