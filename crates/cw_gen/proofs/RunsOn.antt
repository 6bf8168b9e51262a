-- A script that goes on by one line: its run is the run so far, and then the line.
use Rattle.std.proofs.Common.{◌≡◌, ℕ, ◌+◌, ◌<◌, List, [], ◌∷◌, ◌++◌, length, true, Option, Some, None, refl, sym, ap, ◌∙◌, arith, append_assoc, length-append}
use Rattle.std.specs.List.{AllByRecursion}
use Rattle.std.proofs.lemmas.List.{append-nil}
use Rattle.std.proofs.lemmas.List.Concat.{flat_map-cons}
use Rattle.cw_lines.specs.declared.end.DriveEnd.{DriveEnd}
use Rattle.cw_lines.specs.Lines.{lines_of, is_line}
use Rattle.cw_lines.specs.Plays.{Played, LinePlayer, passed, with_front, goes_on, behind, play_last, play, run}
use Rattle.cw_lines.proofs.LineLemmas.{lines_of-line}
use Rattle.cw_lines.proofs.PlayLemmas.{with_front-twice}
use Rattle.cw_gen.specs.Lines.{text_of}
use Rattle.cw_io.specs.Outlet.{line_bytes}

-- each is a line
abbrev pub AreLines : List (List ℕ) → Type 0
AreLines lines = AllByRecursion (λ line. is_line line ≡ true) lines

pub lines-more : (lines : List (List ℕ)) (line : List ℕ) → AreLines lines → is_line line ≡ true → AreLines (lines ++ line ∷ [])
lines-more [] line all one = (one, tt)
lines-more (l ∷ ls) line all one = (all.0, lines-more ls line all.1 one)

-- a text of lines falls into these lines, and nothing is behind them
lines_of-text : (lines : List (List ℕ)) → AreLines lines → lines_of (text_of lines) ≡ lines ++ [] ∷ []
unfolding lines_of
lines_of-text [] all = refl
lines_of-text (l ∷ ls) all =
    ap lines_of (flat_map-cons line_bytes l ls ∙ append_assoc l (10 ∷ []) (text_of ls))
    ∙ lines_of-line l (text_of ls) all.0
    ∙ ap (λ (rest : List (List ℕ)). l ∷ rest) (lines_of-text ls all.1)

module _ {S : Type 0} where
  passed-behind : (text : List ℕ) (store : S) (stop : Option DriveEnd) → goes_on stop text store passed ≡ record { text = text; store = store; stop = stop }
  passed-behind text store None = ap (λ (t : List ℕ). record { text = t; store = store; stop = None }) (append-nil text)
  passed-behind text store (Some end) = refl

  front-goes_on : (stop : Option DriveEnd) (a b : List ℕ) (store : S) (next : S → Played S) → goes_on stop (a ++ b) store next ≡ with_front a (goes_on stop b store next)
  front-goes_on None a b store next = sym (with_front-twice a b (next store))
  front-goes_on (Some end) a b store next = refl

  behind-twice : (stop : Option DriveEnd) (text : List ℕ) (store : S) (f g : S → Played S) →
      behind (goes_on stop text store f) g ≡ goes_on stop text store (λ after. behind (f after) g)
  behind-twice None text store f g = front-goes_on (f store).stop text (f store).text (f store).store g
  behind-twice (Some end) text store f g = refl

  goes_on-same : (stop : Option DriveEnd) (text : List ℕ) (store : S) (f g : S → Played S) → ((after : S) → f after ≡ g after) → goes_on stop text store f ≡ goes_on stop text store g
  goes_on-same None text store f g same = ap (with_front text) (same store)
  goes_on-same (Some end) text store f g same = refl

  -- what goes on does so from where it has come to
  pub went-behind : (p : Played S) (next : S → Played S) → p.stop ≡ None → behind p next ≡ with_front p.text (next p.store)
  went-behind p next is = at p.stop is where
    at : (stop : Option DriveEnd) → stop ≡ None → goes_on stop p.text p.store next ≡ with_front p.text (next p.store)
    at None is = refl
    at (Some own) is = cc

  module _ (player : LinePlayer S) where
    play-cons : (n : ℕ) (l : List ℕ) (ls : List (List ℕ)) (state : S) → 0 < length ls →
        play player true n (l ∷ ls) state ≡ behind (player n l state) (λ after. play player true (n + 1) ls after)
    unfolding play
    play-cons n l [] state some = absurd (omega arith)
    play-cons n l (x ∷ xs) state some = refl

    play-more : (ls : List (List ℕ)) (n : ℕ) (l : List ℕ) (state : S) →
        play player true n (ls ++ l ∷ [] ∷ []) state ≡ behind (play player true n (ls ++ [] ∷ []) state) (λ after. player (n + length ls) l after)
    unfolding play play_last
    play-more [] n l state =
        let p : Played S = player n l state in
        passed-behind p.text p.store p.stop ∙ ap (λ (k : ℕ). player k l state) (omega arith)
    play-more (m ∷ ls) n l state =
        let p : Played S = player n m state in
        let here : n + 1 + length ls ≡ n + length (m ∷ ls) = omega arith in
        play-cons n m (ls ++ l ∷ [] ∷ []) state (omega (arith, length-append ls (l ∷ [] ∷ [])))
        ∙ goes_on-same p.stop p.text p.store _ (λ after. behind (play player true (n + 1) (ls ++ [] ∷ []) after) (λ behind_it. player (n + 1 + length ls) l behind_it)) (play-more ls (n + 1) l)
        ∙ sym (behind-twice p.stop p.text p.store (λ after. play player true (n + 1) (ls ++ [] ∷ []) after) (λ after. player (n + 1 + length ls) l after))
        ∙ ap (λ (q : Played S). behind q (λ after. player (n + 1 + length ls) l after)) (sym (play-cons n m (ls ++ [] ∷ []) state (omega (arith, length-append ls ([] ∷ [])))))
        ∙ ap (λ (k : ℕ). behind (play player true n (m ∷ ls ++ [] ∷ []) state) (λ after. player k l after)) here

    -- one line more
    pub run-more : (lines : List (List ℕ)) (line : List ℕ) (state : S) → AreLines lines → is_line line ≡ true →
        run player state (text_of (lines ++ line ∷ [])) ≡ behind (run player state (text_of lines)) (λ after. player (length lines + 1) line after)
    run-more lines line state all one =
        let number : 1 + length lines ≡ length lines + 1 = omega arith in
        ap (λ (ls : List (List ℕ)). play player true 1 ls state) (lines_of-text (lines ++ line ∷ []) (lines-more lines line all one) ∙ append_assoc lines (line ∷ []) ([] ∷ []))
        ∙ play-more lines 1 line state
        ∙ ap (λ (ls : List (List ℕ)). behind (play player true 1 ls state) (λ after. player (1 + length lines) line after)) (sym (lines_of-text lines all))
        ∙ ap (λ (k : ℕ). behind (run player state (text_of lines)) (λ after. player k line after)) number
