-- Rows put into a table one after the other are those of the things that were listed, rising by their texts.
use Rattle.std.proofs.Common.{◌≡◌, ℕ, List, [], ◌∷◌, ◌++◌, map, refl, sym, ap, ◌∙◌}
use Rattle.std.specs.List.{fold, flat_map}
use Rattle.std.specs.Map.{values_of}
use Rattle.std.specs.BTreeMap.{insert_entry}
use Rattle.std.specs.Ordering.{match_ordering}
use Rattle.std.specs.declared.cmp.Ordering.{Ordering}
use Rattle.std.specs.declared.cmp.Ordering.TheVariants.{Less, Equal, Greater}
use Rattle.std.proofs.lemmas.List.Sums.{fold-append}
use Rattle.std.proofs.lemmas.Map.Lookups.{exact_bytes}
use Rattle.cw_types.specs.Order.{name_cmp}
use Rattle.cw_audit.specs.Rising.{placed, rising_by}
use Rattle.cw_audit.specs.Rows.{with_rows, row_of, lines_in}

module _ {A : Type 0} (text line : A → List ℕ) where
  -- one row more
  at-order : (x y : A) (ys : List A) (r : Ordering) → (r ≡ Equal → text x ≡ text y) →
      insert_entry name_cmp (map (row_of text line) ys) (text x) (line x) ≡ map (row_of text line) (placed text x ys) →
      match_ordering r ((text x, line x) ∷ (text y, line y) ∷ map (row_of text line) ys) ((text y, line x) ∷ map (row_of text line) ys)
      ((text y, line y) ∷ insert_entry name_cmp (map (row_of text line) ys) (text x) (line x))
      ≡ map (row_of text line) (match_ordering r (x ∷ y ∷ ys) (x ∷ ys) (y ∷ placed text x ys))
  at-order x y ys Less same below = refl
  at-order x y ys Equal same below = ap (λ (t : List ℕ). (t, line x) ∷ map (row_of text line) ys) (sym (same refl))
  at-order x y ys Greater same below = ap (λ (l : List (List ℕ × List ℕ)). (text y, line y) ∷ l) below

  row-placed : (x : A) (ys : List A) → insert_entry name_cmp (map (row_of text line) ys) (text x) (line x) ≡ map (row_of text line) (placed text x ys)
  row-placed x [] = refl
  row-placed x (y ∷ ys) = at-order x y ys (name_cmp (text x) (text y)) (exact_bytes (text x) (text y)) (row-placed x ys)

  rows-placed : (xs ys : List A) → with_rows text line xs (map (row_of text line) ys) ≡ map (row_of text line) (fold (λ list x. placed text x list) ys xs)
  rows-placed [] ys = refl
  rows-placed (x ∷ xs) ys = ap (with_rows text line xs) (row-placed x ys) ∙ rows-placed xs (placed text x ys)

  values-rows : (ys : List A) → values_of (map (row_of text line) ys) ≡ map line ys
  values-rows [] = refl
  values-rows (y ∷ ys) = ap (λ (l : List (List ℕ)). line y ∷ l) (values-rows ys)

  lines-map : (ys : List A) → flat_map (λ (l : List ℕ). l) (map line ys) ≡ flat_map line ys
  lines-map [] = refl
  lines-map (y ∷ ys) = ap (λ (l : List ℕ). line y ++ l) (lines-map ys)

  -- the lines of what was put in
  pub lines-risen : (xs : List A) → lines_in (with_rows text line xs []) ≡ flat_map line (rising_by text xs)
  lines-risen xs = ap lines_in (rows-placed xs []) ∙ ap (flat_map (λ (l : List ℕ). l)) (values-rows (rising_by text xs)) ∙ lines-map (rising_by text xs)

  -- some things behind others
  pub rows-append : (xs ys : List A) (rows : List (List ℕ × List ℕ)) → with_rows text line (xs ++ ys) rows ≡ with_rows text line ys (with_rows text line xs rows)
  rows-append xs ys rows = fold-append (λ rows x. insert_entry name_cmp rows (text x) (line x)) rows xs ys
