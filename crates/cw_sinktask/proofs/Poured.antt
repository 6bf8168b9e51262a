-- Lines that were put into a file, one behind the other.
use Rattle.std.proofs.Common.{◌≡◌, ℕ, suc, ◌+◌, ◌<◌, List, [], ◌∷◌, ◌++◌, length, take, drop, get_or, add-one, take-suc, drop-cons, take-append-drop, sym, ◌∙◌, ap}
use Rattle.std.proofs.lemmas.List.Sums.{fold_push}
use Rattle.cw_io.specs.Shelf.{Files}
use Rattle.cw_io.specs.Outlet.{appended, line_bytes, IsAppendedInPart}
use Rattle.cw_edges.specs.Poured.{poured, IsPouredInPart}

module _ (file : List ℕ) (lines : List (List ℕ)) (k : ℕ) (line : List ℕ) (within : k < length lines) (is : line ≡ get_or lines k line) where
  -- one line more
  pub one-more : (held : Files) → poured file (take (k + 1) lines) held ≡ appended file (line_bytes line) (poured file (take k lines) held)
  one-more held =
      ap (λ (n : ℕ). poured file (take n lines) held) (add-one k) ∙
      ap (λ (l : List (List ℕ)). poured file l held) (take-suc lines k line within ∙ ap (λ (x : List ℕ). take k lines ++ x ∷ []) (sym is)) ∙
      fold_push (λ (files : Files) (x : List ℕ). appended file (line_bytes x) files) held (take k lines) line

  -- where a line was put in part
  pub in-part : (held left : Files) → IsAppendedInPart file (line_bytes line) (poured file (take k lines) held) left → IsPouredInPart file lines held left
  in-part held left part = record {
    whole = take k lines;
    line = line;
    rest = drop (suc k) lines;
    split = sym (take-append-drop k lines) ∙ ap (λ (l : List (List ℕ)). take k lines ++ l) (drop-cons lines k line within ∙ ap (λ (x : List ℕ). x ∷ drop (suc k) lines) (sym is));
    part = part;
  }
