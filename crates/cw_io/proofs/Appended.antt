-- Lines of which a part was put into a file.
use Rattle.std.proofs.Common.{◌≡◌, ◌⊎◌, ℕ, ◌/◌, List, [], ◌∷◌, ◌++◌, length, drop, sym, ap, subst, ◌∙◌, append_assoc}
use Rattle.std.proofs.lemmas.List.{take-append-drop}
use Rattle.cw_io.specs.Shelf.{Files}
use Rattle.cw_io.specs.Outlet.{appended, line_bytes, half_of, IsAppendedInPart}

-- the first half of a line is a first part of the line and its end
pub half_in_part : (name line : List ℕ) {inside before after : Files} → inside ≡ before
    → (after ≡ inside) ⊎ (after ≡ appended name (half_of line) inside) → IsAppendedInPart name (line_bytes line) before after
half_in_part name line {after = after} same left = record {
  part = half_of line;
  rest = drop (length line / 2) line ++ 10 ∷ [];
  split = sym (ap (λ bytes. bytes ++ 10 ∷ []) (take-append-drop (length line / 2) line)) ∙ append_assoc (half_of line) (drop (length line / 2) line) (10 ∷ []);
  left = subst (λ (files : Files). (after ≡ files) ⊎ (after ≡ appended name (half_of line) files)) same left;
}
