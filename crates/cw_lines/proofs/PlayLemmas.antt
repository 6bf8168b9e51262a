-- How a script is played line by line.
use Rattle.std.proofs.Common.{◌≡◌, ℕ, suc, ◌+◌, ◌<◌, ◌≤◌, List, [], ◌∷◌, ◌++◌, length, take, nat_lt, Bool, true, false, Option, Some, None, refl, sym, ap, subst, ◌∙◌, arith, append_assoc, length-append}
use Rattle.std.proofs.lemmas.List.{append-nil}
use Rattle.std.proofs.lemmas.Bool.Decides.{nat_tests}
use Rattle.cw_lines.specs.declared.end.DriveEnd.{DriveEnd}
use Rattle.cw_lines.specs.declared.end.DriveEnd.TheVariants.{TooLong}
use Rattle.cw_lines.specs.Lines.{lines_of, is_line}
use Rattle.cw_lines.specs.Plays.{Played, LinePlayer, passed, stopped, with_front, goes_on, behind, within_limits, limited, play_last, play}
use Rattle.cw_lines.proofs.LineLemmas.{lines_of-alone, is_line-append, begins_any, begins}

-- the last line, at the end of the input
pub lines_of-last : (l : List ℕ) → is_line l ≡ true → lines_of (l ++ []) ≡ l ∷ []
lines_of-last l whole = ap lines_of (append-nil l) ∙ lines_of-alone l whole

module _ {S : Type 0} where
  pub with_front-twice : (a b : List ℕ) (p : Played S) → with_front a (with_front b p) ≡ with_front (a ++ b) p
  with_front-twice a b p = ap (λ (t : List ℕ). record p { text = t }) (sym (append_assoc a b p.text))

  pub goes_on-None : (stop : Option DriveEnd) (text : List ℕ) (state : S) (next : S → Played S) → stop ≡ None
      → goes_on stop text state next ≡ with_front text (next state)
  goes_on-None None text state next is = refl
  goes_on-None (Some end) text state next is = cc

  goes_on-Some : (stop : Option DriveEnd) (end : DriveEnd) (text : List ℕ) (state : S) (next : S → Played S) → stop ≡ Some end
      → goes_on stop text state next ≡ record { text = text; store = state; stop = Some end }
  goes_on-Some None end text state next is = cc
  goes_on-Some (Some own) end text state next is = ap (λ (s : DriveEnd). record { text = text; store = state; stop = Some s }) (let same : own ≡ end = cc in same)

  -- a line behind the last that a script may have
  pub limits_many : (number : ℕ) (line : List ℕ) (state : S) (p : Played S) → 1000000 < number
      → within_limits number line state p ≡ stopped (TooLong 1000001) state
  limits_many number line state p many =
      let yes : nat_lt 1000000 number ≡ true = grind (arith, nat_tests) in
      rw yes refl

  -- a line with too many bytes
  pub limits_long : (number : ℕ) (line : List ℕ) (state : S) (p : Played S) → number ≤ 1000000 → 65536 < length line
      → within_limits number line state p ≡ stopped (TooLong 65537) state
  limits_long number line state p few long =
      let no : nat_lt 1000000 number ≡ false = grind (arith, nat_tests) in
      let yes : nat_lt 65536 (length line) ≡ true = grind (arith, nat_tests) in
      rw (no, yes) refl

  -- a line within the limits
  pub limits_fine : (number : ℕ) (line : List ℕ) (state : S) (p : Played S) → number ≤ 1000000 → length line ≤ 65536
      → within_limits number line state p ≡ p
  limits_fine number line state p few short =
      let no : nat_lt 1000000 number ≡ false = grind (arith, nat_tests) in
      let still : nat_lt 65536 (length line) ≡ false = grind (arith, nat_tests) in
      rw (no, still) refl

  then_nothing : (p : Played S) → p.stop ≡ None → p ≡ with_front p.text (passed p.store)
  then_nothing p on =
      ap (λ (s : Option DriveEnd). record { text = p.text; store = p.store; stop = s }) on
      ∙ ap (λ (t : List ℕ). record { text = t; store = p.store; stop = None }) (sym (append-nil p.text))

  module _ (player : LinePlayer S) where
    -- a whole line, and then what is behind it
    pub play-line : (ended : Bool) (number : ℕ) (l more : List ℕ) (state : S)
        → play player ended number (l ∷ lines_of more) state ≡ behind (player number l state) (λ after. play player ended (number + 1) (lines_of more) after)
    unfolding play
    play-line ended number l more state =
        let any = begins_any more in
        subst (λ (ls : List (List ℕ)). play player ended number (l ∷ ls) state ≡ behind (player number l state) (λ after. play player ended (number + 1) ls after)) (sym any.first) refl

    -- the first of some lines ends it, whatever follows
    pub play-some : (number : ℕ) (l : List ℕ) (ls : List (List ℕ)) (state : S) (end : DriveEnd) → 0 < length l + length ls → (player number l state).stop ≡ Some end
        → play player true number (l ∷ ls) state ≡ record { text = (player number l state).text; store = (player number l state).store; stop = Some end }
    unfolding play play_last
    play-some number l (next ∷ lines) state end some on =
        goes_on-Some (player number l state).stop end (player number l state).text (player number l state).store (λ after. play player true (number + 1) (next ∷ lines) after) on
    play-some number (c ∷ cs) [] state end some on = let p : Played S = player number (c ∷ cs) state in ap (λ (s : Option DriveEnd). record { text = p.text; store = p.store; stop = s }) on
    play-some number [] [] state end some on = absurd (omega arith)

    -- a line that doesn't end the script, and then the others
    pub play-first : (number : ℕ) (l : List ℕ) (ls : List (List ℕ)) (state : S) → player number [] state ≡ passed state → (player number l state).stop ≡ None
        → play player true number (l ∷ ls) state ≡ with_front (player number l state).text (play player true (number + 1) ls (player number l state).store)
    unfolding play play_last
    play-first number l (next ∷ lines) state passes on =
        goes_on-None (player number l state).stop (player number l state).text (player number l state).store (λ after. play player true (number + 1) (next ∷ lines) after) on
    play-first number (c ∷ cs) [] state passes on = then_nothing (player number (c ∷ cs) state) on
    play-first number [] [] state passes on = ap (λ (p : Played S). with_front p.text (passed p.store)) (sym passes)

    -- so many lines more
    pub play-steps : (number : ℕ) (l : List ℕ) (ls : List (List ℕ)) (state : S) (k : ℕ) → player number [] state ≡ passed state → (player number l state).stop ≡ None
        → play player true number (take (k + 1) (l ∷ ls)) state ≡ with_front (player number l state).text (play player true (number + 1) (take k ls) (player number l state).store)
    play-steps number l ls state k passes on =
        let more : k + 1 ≡ suc k = omega arith in
        ap (λ (n : ℕ). play player true number (take n (l ∷ ls)) state) more ∙ play-first number l (take k ls) state passes on

    -- nothing is left at the end of the input
    pub play-nothing : (number : ℕ) (l : List ℕ) (state : S) → l ≡ [] → play player true number (lines_of (l ++ [])) state ≡ passed state
    unfolding play play_last lines_of
    play-nothing number [] state none = refl
    play-nothing number (c ∷ cs) state none = cc

    pub play-alone : (number : ℕ) (l : List ℕ) (state : S) → is_line l ≡ true → 0 < length l → play player true number (lines_of (l ++ [])) state ≡ player number l state
    unfolding play play_last
    play-alone number [] state whole some = absurd (omega arith)
    play-alone number (c ∷ cs) state whole some = ap (λ (ls : List (List ℕ)). play player true number ls state) (lines_of-last (c ∷ cs) whole)

    -- a line that has begun, within the limits, says nothing before its end is read
    pub play-begun : (number : ℕ) (l : List ℕ) (state : S) → is_line l ≡ true → (0 < length l → number ≤ 1000000) → length l ≤ 65536
        → play player false number (lines_of (l ++ [])) state ≡ passed state
    unfolding play play_last lines_of
    play-begun number [] state whole few short = refl
    play-begun number (c ∷ cs) state whole few short =
        ap (λ (l : List ℕ). play player false number (lines_of l) state) (append-nil (c ∷ cs))
        ∙ ap (λ (ls : List (List ℕ)). play player false number ls state) (lines_of-alone (c ∷ cs) whole)
        ∙ limits_fine number (c ∷ cs) state (passed state) (few (omega arith)) short

  -- a line that is over a limit as soon as it has begun ends the script, whatever follows
  module _ (does : LinePlayer S) where
    over : (ended : Bool) (number : ℕ) (l : List ℕ) (ls : List (List ℕ)) (state : S) (end : DriveEnd) → 0 < length l
        → ((p : Played S) → within_limits number l state p ≡ stopped end state) → play (limited does) ended number (l ∷ ls) state ≡ stopped end state
    unfolding play play_last
    over ended number [] ls state end some limit = absurd (omega arith)
    over true number (c ∷ cs) [] state end some limit = limit (does number (c ∷ cs) state)
    over false number (c ∷ cs) [] state end some limit = limit (passed state)
    over ended number (c ∷ cs) (next ∷ lines) state end some limit =
        ap (λ (p : Played S). behind p (λ after. play (limited does) ended (number + 1) (next ∷ lines) after)) (limit (does number (c ∷ cs) state))

    begun_over : (ended : Bool) (number : ℕ) (l more : List ℕ) (state : S) (end : DriveEnd) → is_line l ≡ true → 0 < length l
        → ((tail : List ℕ) (p : Played S) → within_limits number (l ++ tail) state p ≡ stopped end state)
        → play (limited does) ended number (lines_of (l ++ more)) state ≡ stopped end state
    begun_over ended number l more state end whole some limit =
        let first = begins l more whole in
        ap (λ (ls : List (List ℕ)). play (limited does) ended number ls state) first.first
        ∙ over ended number (l ++ first.tail) first.others state end (omega (arith, length-append l first.tail)) (limit first.tail)

    -- the pending bytes of a line and those that come are over a limit
    module _ (number : ℕ) (pending tail more : List ℕ) (state : S) (held : is_line pending ≡ true) (comes : is_line tail ≡ true) (some : 0 < length tail) where
      ends_so : (end : DriveEnd) → ((rest : List ℕ) (p : Played S) → within_limits number ((pending ++ tail) ++ rest) state p ≡ stopped end state)
          → play (limited does) true number (lines_of (pending ++ (tail ++ more))) state ≡ stopped end state
      ends_so end limit =
          ap (λ (b : List ℕ). play (limited does) true number (lines_of b) state) (sym (append_assoc pending tail more))
          ∙ begun_over true number (pending ++ tail) more state end (is_line-append pending tail held comes) (omega (arith, length-append pending tail)) limit

      pub held_many : 1000000 < number → play (limited does) true number (lines_of (pending ++ (tail ++ more))) state ≡ stopped (TooLong 1000001) state
      held_many many = ends_so (TooLong 1000001) (λ rest p. limits_many number ((pending ++ tail) ++ rest) state p many)

      pub held_long : number ≤ 1000000 → 65536 < length pending + length tail → play (limited does) true number (lines_of (pending ++ (tail ++ more))) state ≡ stopped (TooLong 65537) state
      held_long few long = ends_so (TooLong 65537)
          (λ rest p. limits_long number ((pending ++ tail) ++ rest) state p few (omega (arith, length-append pending tail, length-append (pending ++ tail) rest)))
