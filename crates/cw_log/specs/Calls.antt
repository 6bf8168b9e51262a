-- What a step of a log does to its disk.
use Rattle.std.specs.Prelude.{◌≡◌, ◌≤◌, ◌⊎◌, ◌+◌, ℕ, List, ◌∷◌, ◌++◌, take, drop, length, Option, Some, None}
use Rattle.cw_log.specs.declared.window.Window.{Window}

-- the file as it was up to its closed gate, or the gate as whatever a torn byte is, with the whole tail behind it
abbrev pub IsGated : ℕ → List ℕ → List ℕ → List ℕ → Type 0
IsGated gate file tail image = (take (gate + 1) image ≡ file) ⊎ ((byte : ℕ) × (image ≡ take gate file ++ byte ∷ tail))

-- these five bytes show what the bytes begin with, as far as they go
abbrev pub Shows : List ℕ → List ℕ → Type 0
Shows five bytes = take (length bytes) five ≡ take 5 bytes

-- a window shows a part of the file
pub record IsWindow (file : List ℕ) (window : Window) : Type 0 where
  pub wide : 5 ≤ length window.bytes.items
  pub filled : window.filled ≤ length window.bytes.items
  pub shows : take window.filled window.bytes.items ≡ take window.filled (drop window.start file)

-- what a log holds in memory of its file, if anything, is a window on it
abbrev pub IsAhead : Option (List ℕ) → Option Window → Type 0
IsAhead told None = Unit {0}
IsAhead told (Some window) = ((file : List ℕ) → told ≡ Some file → IsWindow file window) ×
    (window.filled ≤ length window.bytes.items)
