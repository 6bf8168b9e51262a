-- The config states of the workers, behind each record.
use Rattle.std.proofs.Common.{◌≡◌, ℕ, zero, suc, ◌+◌, ◌<◌, ◌==◌, Bool, true, false, List, [], ◌∷◌, ◌++◌, length, map, Option, Some, slice_get, slice_set, slice_index_or, refl, ap, sym, ◌∙◌, subst, arith}
use Rattle.std.specs.Prelude.{replicate, option_map, Result, Ok, Err, OnOk, OnErr, MatchResult}
use Rattle.std.specs.List.{filter_map}
use Rattle.std.proofs.lemmas.List.{append-nil}
use Rattle.std.proofs.lemmas.List.Elements.{filter_map-append}
use Rattle.std.proofs.lemmas.Bool.Decides.{nat_tests}
use Rattle.logbook.specs.Pages.{Book}
use Rattle.cw_config.specs.declared.records.ConfigRecord.{ConfigRecord}
use Rattle.cw_board.specs.declared.posted.Posted.{Posted}
use Rattle.cw_board.specs.declared.shelf.Shelf.{Shelf}
use Rattle.cw_board.specs.Books.{Begun}
use Rattle.cw_board.specs.Records.{posted, config_for, configs_of}
use Rattle.cw_board.proofs.Configs.{applied_adds}
use Rattle.cw_config.specs.Acceptance.{applied}
use Rattle.cw_bytes.specs.declared.applied.Applied.{Applied}
use Rattle.cw_board.specs.Shelving.{Shelved, AreShelved, IsOfBoard, added, add_at}

-- the records of each state
abbrev pub records : List Shelf → List (List ConfigRecord)
records shelves = map (λ (shelf : Shelf). shelf.config) shelves

-- ---- one state changes

pub set_added : (shelves : List Shelf) (w : ℕ) (old new : Shelf) (more : List ConfigRecord) → w < length shelves → old ≡ slice_index_or shelves w old
    → new.config ≡ old.config ++ more → records (slice_set shelves w new) ≡ add_at w more (records shelves)
set_added [] w old new more low is e = absurd (omega arith)
set_added (s ∷ shelves) zero old new more low is e = cc (is, e)
set_added (s ∷ shelves) (suc w) old new more low is e = ap (λ rest. s.config ∷ rest) (set_added shelves w old new more (omega arith) is e)

pub set_same : (shelves : List Shelf) (w : ℕ) (old new : Shelf) → w < length shelves → old ≡ slice_index_or shelves w old
    → new.config ≡ old.config → records (slice_set shelves w new) ≡ records shelves
set_same [] w old new low is e = absurd (omega arith)
set_same (s ∷ shelves) zero old new low is e = cc (is, e)
set_same (s ∷ shelves) (suc w) old new low is e = ap (λ rest. s.config ∷ rest) (set_same shelves w old new (omega arith) is e)

pub both_ends : {A B : Type 0} (P P' Q Q' : Type 0) (r : Result A B) → (P → P') → (Q → Q') → OnOk r P → OnErr r Q → MatchResult r (λ _. P') (λ _. Q')
both_ends P P' Q Q' (Ok a) f g p q = f p
both_ends P P' Q Q' (Err e) f g p q = g q

-- ---- no record yet

replicate-snoc : (n : ℕ) → replicate n [] ++ [] ∷ [] ≡ replicate {A = List ConfigRecord} (n + 1) []
replicate-snoc zero = refl
replicate-snoc (suc n) =
    let e : suc n + 1 ≡ suc (n + 1) = omega arith in
    rw e (ap (λ rest. [] ∷ rest) (replicate-snoc n))

records-snoc : (shelves : List Shelf) (s : Shelf) → records (shelves ++ s ∷ []) ≡ records shelves ++ s.config ∷ []
records-snoc [] s = refl
records-snoc (t ∷ shelves) s = ap (λ rest. t.config ∷ rest) (records-snoc shelves s)

pub empty_more : (shelves : List Shelf) (s : Shelf) (n : ℕ) → records shelves ≡ replicate n [] → s.config ≡ [] → records (shelves ++ s ∷ []) ≡ replicate (n + 1) []
empty_more shelves s n is e = records-snoc shelves s ∙ (cc (is, e) ∙ replicate-snoc n)

length-empty : (n : ℕ) → length (replicate {A = List ConfigRecord} n []) ≡ n
length-empty zero = refl
length-empty (suc n) = ap suc (length-empty n)

get-empty : (n w : ℕ) → w < n → slice_get (replicate {A = List ConfigRecord} n []) w ≡ Some []
get-empty zero w low = absurd (omega arith)
get-empty (suc n) zero low = refl
get-empty (suc n) (suc w) low = get-empty n w (omega arith)

pub empty_board : (book : Book) (workers : ℕ) → IsOfBoard book workers (record { book = book; log = []; shelved = replicate workers [] })
empty_board book workers = record {
  book_is = refl;
  shelved = record { count = length-empty workers; each = λ w low. get-empty workers w low };
}

-- what is published first
pub opened : (book opening : Book) (workers count : ℕ) (s : Shelved) (front begun : Begun) → s ≡ record { book = front.book; log = front.log; shelved = replicate count [] }
    → front ≡ begun → begun ≡ record { book = opening; log = [] } → opening ≡ book → count ≡ workers → IsOfBoard book workers s × (s.log ≡ [])
opened book opening workers count s front begun is again begins named counted =
    let front_is : front ≡ record { book = book; log = [] } = again ∙ (begins ∙ ap (λ (b : Book). record { book = b; log = [] }) named) in
    let first : s ≡ record { book = book; log = []; shelved = replicate workers [] } =
    is ∙ (ap (λ (f : Begun). record { book = f.book; log = f.log; shelved = replicate count [] }) front_is ∙ ap (λ (n : ℕ). record { book = book; log = []; shelved = replicate n [] }) counted) in
    (subst (λ (t : Shelved). IsOfBoard book workers t) (sym first) (empty_board book workers), ap (λ (t : Shelved). t.log) first)

-- ---- one record more

length-add_at : (w : ℕ) (more : List ConfigRecord) (xss : List (List ConfigRecord)) → length (add_at w more xss) ≡ length xss
length-add_at w more [] = refl
length-add_at zero more (xs ∷ xss) = refl
length-add_at (suc w) more (xs ∷ xss) = ap suc (length-add_at w more xss)

get-add_at : (w : ℕ) (more : List ConfigRecord) (xss : List (List ConfigRecord)) → slice_get (add_at w more xss) w ≡ option_map (λ xs. xs ++ more) (slice_get xss w)
get-add_at w more [] = refl
get-add_at zero more (xs ∷ xss) = refl
get-add_at (suc w) more (xs ∷ xss) = get-add_at w more xss

other-add_at : (k w : ℕ) (more : List ConfigRecord) (xss : List (List ConfigRecord)) → (k ≡ w → ⊥) → slice_get (add_at k more xss) w ≡ slice_get xss w
other-add_at k w more [] apart = refl
other-add_at zero zero more (xs ∷ xss) apart = absurd (apart refl)
other-add_at zero (suc w) more (xs ∷ xss) apart = refl
other-add_at (suc k) zero more (xs ∷ xss) apart = refl
other-add_at (suc k) (suc w) more (xs ∷ xss) apart = other-add_at k w more xss (λ e. apart (ap suc e))

module _ (log : List Posted) (p : Posted) where
  configs-snoc : (w : ℕ) → configs_of w (log ++ p ∷ []) ≡ configs_of w log ++ filter_map (config_for w) (p ∷ [])
  configs-snoc w = filter_map-append (config_for w) log (p ∷ [])

  here : (w : ℕ) → (p.worker == w) ≡ true → configs_of w (log ++ p ∷ []) ≡ configs_of w log ++ added p.applied
  here w is = rw (configs-snoc w, is) refl

  elsewhere : (w : ℕ) → (p.worker == w) ≡ false → configs_of w (log ++ p ∷ []) ≡ configs_of w log
  elsewhere w is = rw (configs-snoc w, is) (append-nil (configs_of w log))

  module _ (workers : ℕ) (shelved : List (List ConfigRecord)) (was : AreShelved workers log shelved) where
    each : (w : ℕ) → w < workers → (b : Bool) → (p.worker == w) ≡ b → slice_get (add_at p.worker (added p.applied) shelved) w ≡ Some (configs_of w (log ++ p ∷ []))
    each w low true is =
        let same : p.worker ≡ w = grind (arith, nat_tests) in
        let more = added p.applied in
        let there : slice_get (add_at w more shelved) w ≡ Some (configs_of w log ++ more) = get-add_at w more shelved ∙ ap (option_map (λ xs. xs ++ more)) (was.each w low) in
        subst (λ (k : ℕ). slice_get (add_at k more shelved) w ≡ Some (configs_of w (log ++ p ∷ []))) (sym same) (there ∙ ap (λ xs. Some xs) (sym (here w is)))
    each w low false is =
        let apart : p.worker ≡ w → ⊥ = λ e. grind (arith, nat_tests) in
        other-add_at p.worker w (added p.applied) shelved apart ∙ (was.each w low ∙ ap (λ xs. Some xs) (sym (elsewhere w is)))

    pub shelved_more : AreShelved workers (log ++ p ∷ []) (add_at p.worker (added p.applied) shelved)
    shelved_more = record {
      count = length-add_at p.worker (added p.applied) shelved ∙ was.count;
      each = λ w low. each w low (p.worker == w) refl;
    }

-- one record put is one record more in a config state
pub put_one : (log : List Posted) (w : ℕ) (state next : List ConfigRecord) (a : Applied) (key : List ℕ) (value : Option (List ℕ)) → key ≡ a.key → value ≡ a.value
    → applied state a.offset a.stamp key value ≡ Some next → state ≡ configs_of w log → next ≡ configs_of w (log ++ posted w (a ∷ []))
put_one log w state next a key value is_key is_value takes is =
    let self : (w == w) ≡ true = grind (arith, nat_tests) in
    (applied_adds state next a key value is_key is_value takes).0 ∙ (ap (λ s. s ++ added a) is ∙ sym (here log (record { worker = w; applied = a }) w self))
