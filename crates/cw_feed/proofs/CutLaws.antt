-- What a cut of a feed is: it goes on, ends behind a line end, and takes the most lines that it may.
use Rattle.std.proofs.Common.{◌≡◌, ℕ, zero, suc, ◌+◌, ◌-◌, ◌<◌, ◌≤◌, List, [], ◌∷◌, length, get_or, take, drop, min, sum, nat_eq, nat_lt, Bool, true, false, cond, refl, sym, ap, subst, ◌∙◌, arith, ◌⊎◌, inl, inr}
use Rattle.std.proofs.lemmas.Bool.{eqb-true, ltb-false, ltb-true, cases_lt}
use Rattle.std.proofs.lemmas.List.{length-drop, get_or-drop}
use Rattle.std.proofs.lemmas.List.Sums.{sum_by-cons}
use Rattle.cw_feed.specs.declared.cut.CutAnswer.TheVariants.{Cut, AtEnd, LineTooLong}
use Rattle.cw_feed.specs.Cut.{lengths_behind, line_lengths, fitting, most_bytes, cut_of_rest, cut_of_feed, cut_of_sequence, IsMostOf, TakesMost}
use Rattle.cw_feed.specs.Yield.{EndsLine}
use Rattle.cw_feed.proofs.Lines.{longer}
use Rattle.cw_feed.proofs.Cuts.{fitting-fits, fitting-long, fitting-none}

-- so many bytes, of which n stand before these, end behind a line end
pub record LandsAt (n : ℕ) (bytes : List ℕ) (t : ℕ) : Type 0 where
  pub within : t ≤ n + length bytes
  pub further : 0 < t → n < t
  pub ended : 0 < t → get_or bytes (t - suc n) 0 ≡ 10

nowhere : (n : ℕ) (bytes : List ℕ) (t : ℕ) → t ≡ 0 → LandsAt n bytes t
nowhere n bytes t none = record { within = omega arith; further = λ some. absurd (omega arith); ended = λ some. absurd (omega arith) }

end_behind : (x : ℕ) (xs : List ℕ) (t : ℕ) → x ≡ 10 → LandsAt 0 xs t → get_or (x ∷ xs) t 0 ≡ 10
end_behind x xs zero is later = is
end_behind x xs (suc t) is later =
    let place : suc t - suc 0 ≡ t = omega arith in
    sym (ap (λ i. get_or xs i 0) place) ∙ later.ended (omega arith)

line_ends : (n x : ℕ) (xs : List ℕ) (t : ℕ) → x ≡ 10 → LandsAt 0 xs t → LandsAt n (x ∷ xs) (n + 1 + t)
line_ends n x xs t is later = record {
  within = omega (arith, later.within);
  further = λ some. omega arith;
  ended = λ some.
      let place : n + 1 + t - suc n ≡ t = omega arith in
      ap (λ i. get_or (x ∷ xs) i 0) place ∙ end_behind x xs t is later;
}

line_goes_on : (n x : ℕ) (xs : List ℕ) (t : ℕ) → LandsAt (n + 1) xs t → LandsAt n (x ∷ xs) t
line_goes_on n x xs t later = record {
  within = omega (arith, later.within);
  further = λ some. omega (arith, later.further some);
  ended = λ some.
      let place : t - suc n ≡ suc (t - suc (n + 1)) = omega (arith, later.further some) in
      ap (λ i. get_or (x ∷ xs) i 0) place ∙ later.ended some;
}

-- the first line of some lines, of which the others end at line ends too
first_ends : (n room max x : ℕ) (xs lengths : List ℕ) → x ≡ 10 → ((left lines : ℕ) → LandsAt 0 xs (fitting left (take lines lengths))) → LandsAt n (x ∷ xs) (fitting room (take max ((n + 1) ∷ lengths)))
first_ends n room zero x xs lengths is later = nowhere n (x ∷ xs) (fitting room []) (fitting-none room)
first_ends n room (suc max) x xs lengths is later = judged (cases_lt room (n + 1))
  where
    judged : (room < n + 1) ⊎ (n + 1 ≤ room) → LandsAt n (x ∷ xs) (fitting room ((n + 1) ∷ take max lengths))
    judged (inl long) = nowhere n (x ∷ xs) (fitting room ((n + 1) ∷ take max lengths)) (fitting-long room (n + 1) (take max lengths) long)
    judged (inr fits) =
        subst (LandsAt n (x ∷ xs)) (sym (fitting-fits room (n + 1) (take max lengths) fits))
        (line_ends n x xs (fitting (room - (n + 1)) (take max lengths)) is (later (room - (n + 1)) max))

lands_by : (b : Bool) (n room max x : ℕ) (xs after before : List ℕ) → nat_eq x 10 ≡ b → ((left lines : ℕ) → LandsAt 0 xs (fitting left (take lines after)))
    → LandsAt (n + 1) xs (fitting room (take max before)) → LandsAt n (x ∷ xs) (fitting room (take max (cond b ((n + 1) ∷ after) before)))
lands_by true n room max x xs after before is later on = first_ends n room max x xs after (eqb-true x 10 is) later
lands_by false n room max x xs after before is later on = line_goes_on n x xs (fitting room (take max before)) on

fitting-no_lines : (room max : ℕ) → fitting room (take max []) ≡ 0
fitting-no_lines room zero = fitting-none room
fitting-no_lines room (suc max) = fitting-none room

pub lands : (n room max : ℕ) (bytes : List ℕ) → LandsAt n bytes (fitting room (take max (lengths_behind n bytes)))
unfolding lengths_behind
lands n room max [] = nowhere n [] (fitting room (take max [])) (fitting-no_lines room max)
lands n room max (x ∷ xs) =
    lands_by (nat_eq x 10) n room max x xs (lengths_behind 0 xs) (lengths_behind (n + 1) xs) refl (λ left lines. lands 0 left lines xs) (lands (n + 1) room max xs)

-- what a cut of the rest of a feed says of its whole lines
pub record CutsBehind (from max to : ℕ) (lengths : List ℕ) : Type 0 where
  pub first : ℕ
  pub others : List ℕ
  pub lines : lengths ≡ first ∷ others
  pub short : first ≤ 65536
  pub end : to ≡ from + fitting most_bytes (take max lengths)

no_cut : (b : Bool) (from to : ℕ) → cond b (LineTooLong from) AtEnd ≡ Cut to → ⊥
no_cut true from to is = cc
no_cut false from to is = cc

cut_by : (b : Bool) (from max to n : ℕ) (others : List ℕ) → nat_lt 65536 n ≡ b
    → cond b (LineTooLong from) (Cut (from + fitting most_bytes (take max (n ∷ others)))) ≡ Cut to → CutsBehind from max to (n ∷ others)
cut_by true from max to n others long is = absurd (cc)
cut_by false from max to n others short is = record {
  first = n;
  others = others;
  lines = refl;
  short = ltb-false 65536 n short;
  end = same (from + fitting most_bytes (take max (n ∷ others))) to is;
}
  where
    same : (a b : ℕ) → Cut a ≡ Cut b → b ≡ a
    same a b e = cc

pub cuts_behind : (from max to : ℕ) (rest lengths : List ℕ) → cut_of_rest from max rest lengths ≡ Cut to → CutsBehind from max to lengths
cuts_behind from max to rest [] is = absurd (no_cut (nat_lt 65536 (length rest)) from to is)
cuts_behind from max to rest (n ∷ others) is = cut_by (nat_lt 65536 n) from max to n others refl is

-- a cut takes a line
pub takes_some : (from max to : ℕ) (rest : List ℕ) → 0 < max → CutsBehind from max to (line_lengths rest) → 0 < fitting most_bytes (take max (line_lengths rest))
takes_some from zero to rest some cut = absurd (omega arith)
takes_some from (suc max) to rest some cut =
    let long : 0 < cut.first = longer 0 rest cut.first cut.others cut.lines in
    let bytes : fitting most_bytes (take (suc max) (line_lengths rest)) ≡ cut.first + fitting (most_bytes - cut.first) (take max cut.others) =
    ap (λ lengths. fitting most_bytes (take (suc max) lengths)) cut.lines ∙ fitting-fits most_bytes cut.first (take max cut.others) (omega (arith, cut.short)) in
    omega (arith, bytes, long)

module _ (bytes : List ℕ) (from max to : ℕ) (some : 0 < max) (is : cut_of_feed bytes from max ≡ Cut to) where
  cut : CutsBehind from max to (line_lengths (drop from bytes))
  cut = cuts_behind from max to (drop from bytes) (line_lengths (drop from bytes)) is

  pub feed_cut-further : from < to
  feed_cut-further = omega (arith, takes_some from max to (drop from bytes) some cut, cut.end)

  pub feed_cut-ends : EndsLine bytes from to
  feed_cut-ends =
      let t : ℕ = fitting most_bytes (take max (line_lengths (drop from bytes))) in
      let taken : 0 < t = takes_some from max to (drop from bytes) some cut in
      let at : LandsAt 0 (drop from bytes) t = lands 0 most_bytes max (drop from bytes) in
      let behind : to ≡ from + t = cut.end in
      let reach : t ≤ 0 + length (drop from bytes) = at.within in
      record {
        ordered = omega arith;
        within = λ further. omega (arith, reach, length-drop from bytes);
        ended = λ further.
            let place : to - 1 ≡ from + (t - suc 0) = omega arith in
            ap (λ i. get_or bytes i 0) place ∙ sym (get_or-drop from bytes (t - suc 0) 0) ∙ at.ended taken;
      }

-- the cut of a sequence
seq_by : (b : Bool) (count from max to : ℕ) → nat_lt from count ≡ b → 0 < max → cond b (Cut (min count (from + max))) AtEnd ≡ Cut to → from < to
seq_by true count from max to is some cut =
    let end : to ≡ min count (from + max) = same to (min count (from + max)) cut in
    omega (arith, end, ltb-true from count is)
  where
    same : (a b : ℕ) → Cut b ≡ Cut a → a ≡ b
    same a b e = cc
seq_by false count from max to is some cut = absurd (cc)

pub sequence_cut-further : (count from max to : ℕ) → 0 < max → cut_of_sequence count from max ≡ Cut to → from < to
sequence_cut-further count from max to some is = seq_by (nat_lt from count) count from max to refl some is

-- the bytes of a line and of others
sum-cons : (n k : ℕ) (lengths : List ℕ) → sum (take (suc k) (n ∷ lengths)) ≡ n + sum (take k lengths)
sum-cons n k lengths = sum_by-cons (λ x. x) n (take k lengths)

-- the most lines that fit, and their bytes
pub record Most (max room : ℕ) (lengths : List ℕ) : Type 0 where
  pub lines : ℕ
  pub is : IsMostOf max room lengths lines
  pub bytes : fitting room (take max lengths) ≡ sum (take lines lengths)

none_fit : (max room : ℕ) (lengths : List ℕ) → ((j : ℕ) → j ≤ length lengths → j ≤ max → sum (take j lengths) ≤ room → j ≤ 0) → fitting room (take max lengths) ≡ 0 → Most max room lengths
none_fit max room lengths most none = record { lines = 0; is = record { there = omega arith; few = omega arith; short = omega arith; most = most }; bytes = none }

one_more_fits : (max room n : ℕ) (lengths : List ℕ) → n ≤ room → Most max (room - n) lengths → Most (suc max) room (n ∷ lengths)
one_more_fits max room n lengths fits others = record {
  lines = suc others.lines;
  is = record {
    there = omega (arith, others.is.there);
    few = omega (arith, others.is.few);
    short = omega (arith, others.is.short, sum-cons n others.lines lengths);
    most = most;
  };
  bytes = fitting-fits room n (take max lengths) fits ∙ ap (λ t. n + t) others.bytes ∙ sym (sum-cons n others.lines lengths);
}
  where
    most : (j : ℕ) → j ≤ suc (length lengths) → j ≤ suc max → sum (take j (n ∷ lengths)) ≤ room → j ≤ suc others.lines
    most zero there few short = omega arith
    most (suc j) there few short = omega (arith, others.is.most j (omega arith) (omega arith) (omega (arith, sum-cons n j lengths)))

pub most_of : (max room : ℕ) (lengths : List ℕ) → Most max room lengths
most_of max room [] = none_fit max room [] (λ j there few short. there) (fitting-no_lines room max)
most_of zero room (n ∷ lengths) = none_fit zero room (n ∷ lengths) (λ j there few short. few) (fitting-none room)
most_of (suc max) room (n ∷ lengths) = judged (cases_lt room n) (most_of max (room - n) lengths)
  where
    too_long : room < n → (j : ℕ) → j ≤ suc (length lengths) → j ≤ suc max → sum (take j (n ∷ lengths)) ≤ room → j ≤ 0
    too_long long zero there few short = omega arith
    too_long long (suc j) there few short = absurd (omega (arith, sum-cons n j lengths))

    judged : (room < n) ⊎ (n ≤ room) → Most max (room - n) lengths → Most (suc max) room (n ∷ lengths)
    judged (inl long) others = none_fit (suc max) room (n ∷ lengths) (too_long long) (fitting-long room n (take max lengths) long)
    judged (inr fits) others = one_more_fits max room n lengths fits others

some_lines : (k : ℕ) (lengths : List ℕ) → 0 < sum (take k lengths) → 0 < k
some_lines zero lengths some = absurd (omega arith)
some_lines (suc k) lengths some = omega arith

pub feed_cut-most : (bytes : List ℕ) (from max to : ℕ) → 0 < max → cut_of_feed bytes from max ≡ Cut to → TakesMost bytes from max to
feed_cut-most bytes from max to some is =
    let cut : CutsBehind from max to (line_lengths (drop from bytes)) = cuts_behind from max to (drop from bytes) (line_lengths (drop from bytes)) is in
    let most : Most max most_bytes (line_lengths (drop from bytes)) = most_of max most_bytes (line_lengths (drop from bytes)) in
    let taken : 0 < fitting most_bytes (take max (line_lengths (drop from bytes))) = takes_some from max to (drop from bytes) some cut in
    record {
      lines = most.lines;
      some = some_lines most.lines (line_lengths (drop from bytes)) (subst (λ (t : ℕ). 0 < t) most.bytes taken);
      most = most.is;
      behind = cut.end ∙ ap (λ t. from + t) most.bytes;
    }
