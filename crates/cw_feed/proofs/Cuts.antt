-- The lines that a cut takes.
use Rattle.std.proofs.Common.{◌≡◌, ℕ, zero, suc, ◌+◌, ◌-◌, ◌<◌, ◌≤◌, List, [], ◌∷◌, length, take, drop, Bool, cond, refl, sym, ap, subst, ◌∙◌, arith, ◌⊎◌, inl, inr}
use Rattle.std.proofs.lemmas.Bool.{le-leb, lt-leb, lt-ltb, le-ltb, cases_lt}
use Rattle.std.proofs.lemmas.List.{length-take, length-drop, take_rest, drop_all}
use Rattle.cw_feed.specs.declared.cut.CutAnswer.TheVariants.{Cut, AtEnd, LineTooLong}
use Rattle.cw_feed.specs.Cut.{lengths_behind, line_lengths, LineEndsIn, NoLineEndsIn, fitting, longest_line, most_bytes, cut_of_rest, cut_of_feed}
use Rattle.cw_feed.proofs.Lines.{line_lengths-ends, longer_than_view, no_more_lines}

pub fitting-fits : (room n : ℕ) (lengths : List ℕ) → n ≤ room → fitting room (n ∷ lengths) ≡ n + fitting (room - n) lengths
unfolding fitting
fitting-fits room n lengths fits = rw (le-leb n room fits) refl

pub fitting-long : (room n : ℕ) (lengths : List ℕ) → room < n → fitting room (n ∷ lengths) ≡ 0
unfolding fitting
fitting-long room n lengths long = rw (lt-leb n room long) refl

pub fitting-none : (room : ℕ) → fitting room [] ≡ 0
unfolding fitting
fitting-none room = refl

-- one line more
pub fitting-more : (most to line left : ℕ) (lengths : List ℕ) → to + line ≤ most
    → fitting (most - to) (take (suc left) (line ∷ lengths)) ≡ line + fitting (most - (to + line)) (take left lengths)
fitting-more most to line left lengths fits =
    fitting-fits (most - to) line (take left lengths) (omega arith) ∙ ap (λ room. line + fitting room (take left lengths)) (omega arith)

-- no line more
pub fitting-no_more : (room left : ℕ) (lengths : List ℕ) → ((n : ℕ) (more : List ℕ) → lengths ≡ n ∷ more → room < n) → fitting room (take left lengths) ≡ 0
fitting-no_more room zero lengths long = fitting-none room
fitting-no_more room (suc left) [] long = fitting-none room
fitting-no_more room (suc left) (n ∷ lengths) long = fitting-long room n (take left lengths) (long n lengths refl)

-- a step of the walk over the lines in view
pub cut_goes_on : (most to line left : ℕ) (rest : List ℕ) → to ≤ length (take most rest) → LineEndsIn (drop to (take most rest)) line
    → fitting (most - to) (take (suc left) (line_lengths (drop to rest))) ≡ line + fitting (most - (to + line)) (take left (line_lengths (drop (to + line) rest)))
cut_goes_on most to line left rest within ends =
    let inside : line ≤ length (drop to (take most rest)) = ends.within in
    ap (λ lengths. fitting (most - to) (take (suc left) lengths)) (line_lengths-ends most to line rest within ends)
    ∙ fitting-more most to line left (line_lengths (drop (to + line) rest)) (omega (arith, length-drop to (take most rest), length-take most rest))

-- its end before all lines are taken
pub cut_stops : (most to left : ℕ) (rest : List ℕ) → to ≤ length (take most rest) → NoLineEndsIn (drop to (take most rest))
    → fitting (most - to) (take left (line_lengths (drop to rest))) ≡ 0
cut_stops most to left rest within none = fitting-no_more (most - to) left (line_lengths (drop to rest)) (λ n more is. long n more is (cases_lt most (length rest)))
  where
    long : (n : ℕ) (more : List ℕ) → line_lengths (drop to rest) ≡ n ∷ more → (most < length rest) ⊎ (length rest ≤ most) → most - to < n
    long n more is (inl beyond) = let at : length (take most rest) - to < n = longer_than_view most to rest n more within none is in omega (arith, length-take most rest)
    long n more is (inr all) = let empty : line_lengths (drop to rest) ≡ [] = no_more_lines most to rest all within none in absurd (cc)

-- a step and the end, where the view is a slice of a window
module _ (most to left : ℕ) (rest window : List ℕ) (in_view : window ≡ take most rest) (within : to ≤ length (take most rest)) where
  view : take (length window - to) (drop to window) ≡ drop to (take most rest)
  view = take_rest window to ∙ ap (λ xs. drop to xs) in_view

  pub window_goes_on : (line left' : ℕ) → left ≡ suc left' → LineEndsIn (take (length window - to) (drop to window)) line
      → to + fitting (most - to) (take left (line_lengths (drop to rest))) ≡ to + line + fitting (most - (to + line)) (take left' (line_lengths (drop (to + line) rest)))
  window_goes_on line left' more ends =
      let step = cut_goes_on most to line left' rest within (subst (λ (part : List ℕ). LineEndsIn part line) view ends) in
      let same : to + fitting (most - to) (take left (line_lengths (drop to rest))) ≡ to + fitting (most - to) (take (suc left') (line_lengths (drop to rest))) =
      ap (λ n. to + fitting (most - to) (take n (line_lengths (drop to rest)))) more in
      omega (arith, same, step)

  pub line_in_window : (line : ℕ) → LineEndsIn (take (length window - to) (drop to window)) line → to + line ≤ length (take most rest)
  line_in_window line ends =
      let inside : line ≤ length (take (length window - to) (drop to window)) = ends.within in
      omega (arith, ap length view, length-drop to (take most rest))

  pub window_stops : NoLineEndsIn (take (length window - to) (drop to window)) → fitting (most - to) (take left (line_lengths (drop to rest))) ≡ 0
  window_stops none = cut_stops most to left rest within (subst NoLineEndsIn view none)

-- a cut behind a first line
pub cut_of_rest-found : (from left first : ℕ) (rest : List ℕ) → LineEndsIn (take longest_line rest) first
    → cut_of_rest from (suc left) rest (line_lengths rest) ≡ Cut (from + (first + fitting (most_bytes - first) (take left (line_lengths (drop first rest)))))
cut_of_rest-found from left first rest ends =
    let lengths : line_lengths rest ≡ first ∷ line_lengths (drop (0 + first) rest) = line_lengths-ends longest_line 0 first rest (omega arith) ends in
    let inside : first ≤ length (take longest_line rest) = ends.within in
    let short : first ≤ 65536 = omega (arith, length-take longest_line rest) in
    ap (cut_of_rest from (suc left) rest) (lengths ∙ ap (λ at. first ∷ line_lengths (drop at rest)) (omega arith))
    ∙ ap (λ (long : Bool). cond long (LineTooLong from) (Cut (from + fitting most_bytes (take (suc left) (first ∷ line_lengths (drop first rest)))))) (le-ltb 65536 first short)
    ∙ ap (λ bytes. Cut (from + bytes)) (fitting-fits most_bytes first (take left (line_lengths (drop first rest))) (omega arith))

-- the answers without a first line that is short enough
pub cut_of_rest-long : (from max : ℕ) (rest : List ℕ) → NoLineEndsIn (take longest_line rest) → 65536 < length rest
    → cut_of_rest from max rest (line_lengths rest) ≡ LineTooLong from
cut_of_rest-long from max rest none beyond = judged (line_lengths rest) (λ n more is. longer_than_view longest_line 0 rest n more (omega arith) none is)
  where
    judged : (lengths : List ℕ) → ((n : ℕ) (more : List ℕ) → lengths ≡ n ∷ more → length (take longest_line rest) - 0 < n) → cut_of_rest from max rest lengths ≡ LineTooLong from
    judged [] long = rw (lt-ltb 65536 (length rest) beyond) refl
    judged (n ∷ more) long =
        let at : length (take longest_line rest) - 0 < n = long n more refl in
        rw (lt-ltb 65536 n (omega (arith, length-take longest_line rest))) refl

pub cut_of_rest-none : (from max : ℕ) (rest : List ℕ) → NoLineEndsIn (take longest_line rest) → length rest ≤ 65536
    → cut_of_rest from max rest (line_lengths rest) ≡ AtEnd
cut_of_rest-none from max rest none all =
    ap (cut_of_rest from max rest) (no_more_lines longest_line 0 rest all (omega arith) none)
    ∙ ap (λ (long : Bool). cond long (LineTooLong from) AtEnd) (le-ltb 65536 (length rest) all)

-- the first of more bytes are more
pub wider : (a b n : ℕ) (rest : List ℕ) → a ≤ b → n ≤ length (take a rest) → n ≤ length (take b rest)
wider a b n rest more within = omega (arith, length-take a rest, length-take b rest)

-- the answers of the code, whose rest is a slice
module _ (from max : ℕ) (bytes rest : List ℕ) (is : rest ≡ drop from bytes) where
  of_rest : cut_of_rest from max rest (line_lengths rest) ≡ cut_of_feed bytes from max
  of_rest = ap (λ xs. cut_of_rest from max xs (line_lengths xs)) is

  pub feed_is_cut : (first to : ℕ) → 0 < max → LineEndsIn (take longest_line rest) first
      → to ≡ first + fitting (most_bytes - first) (take (max - 1) (line_lengths (drop first rest))) → Cut (from + to) ≡ cut_of_feed bytes from max
  feed_is_cut first to some ends end =
      let one : suc (max - 1) ≡ max = omega arith in
      ap (λ n. Cut (from + n)) end
      ∙ sym (cut_of_rest-found from (max - 1) first rest ends)
      ∙ ap (λ n. cut_of_rest from n rest (line_lengths rest)) one
      ∙ of_rest

  pub feed_is_too_long : NoLineEndsIn (take longest_line rest) → 65536 < length rest → LineTooLong from ≡ cut_of_feed bytes from max
  feed_is_too_long none beyond = sym (cut_of_rest-long from max rest none beyond) ∙ of_rest

  pub feed_is_at_end : NoLineEndsIn (take longest_line rest) → length rest ≤ 65536 → AtEnd ≡ cut_of_feed bytes from max
  feed_is_at_end none all = sym (cut_of_rest-none from max rest none all) ∙ of_rest

-- behind the end
pub cut_of_feed-past : (from max : ℕ) (bytes : List ℕ) → length bytes ≤ from → cut_of_feed bytes from max ≡ AtEnd
unfolding lengths_behind
cut_of_feed-past from max bytes past = ap (λ xs. cut_of_rest from max xs (line_lengths xs)) (drop_all from bytes past)
