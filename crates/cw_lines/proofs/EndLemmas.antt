-- How a step of a session goes on from the steps before it, and how it ends.
use Rattle.std.proofs.Common.{◌≡◌, ⊎_elim, inl, inr, ℕ, ◌+◌, ◌≤◌, List, [], ◌++◌, true, refl, sym, ap, subst, ◌∙◌, arith, append_assoc}
use Rattle.std.proofs.lemmas.List.{append-nil}
use Rattle.cw_lines.specs.declared.end.DriveEnd.{DriveEnd}
use Rattle.cw_lines.specs.Lines.{line_ends}
use Rattle.cw_lines.specs.Plays.{Played, with_front, line_behind, IsPrefix}
use Rattle.cw_lines.specs.Players.{Rules}
use Rattle.cw_lines.specs.Sessions.{Session, resumed, resumed_by, Goes, Leaves, Ends, EndsIn}
use Rattle.cw_lines.specs.Sessions.Ends.{own, amid, unsaid, broke}
use Rattle.cw_lines.proofs.LineLemmas.{line_ends-none, line_ends-append}
use Rattle.cw_lines.proofs.PlayLemmas.{with_front-twice}

pub prefix_then : (a b c : List ℕ) → IsPrefix a b → IsPrefix b c → IsPrefix a c
prefix_then a b c one two = record { rest = one.rest ++ two.rest; split = two.split ∙ ap (λ (t : List ℕ). t ++ two.rest) one.split ∙ append_assoc a one.rest two.rest }

pub prefix_behind : (front a b : List ℕ) → IsPrefix a b → IsPrefix (front ++ a) (front ++ b)
prefix_behind front a b one = record { rest = one.rest; split = ap (λ (t : List ℕ). front ++ t) one.split ∙ sym (append_assoc front a one.rest) }

pub prefix_same : (a b : List ℕ) → a ≡ b → IsPrefix a b
prefix_same a b same = record { rest = []; split = sym same ∙ sym (append-nil a) }

-- the same line, played from the same state
same_line : {C S : Type 0} (F : C → ℕ → List ℕ → S → Type 0) (c c' : C) (n n' : ℕ) (l l' : List ℕ) (s s' : S) → c ≡ c' → n ≡ n' → l ≡ l' → s ≡ s' → F c n l s → F c' n' l' s'
same_line F c c' n n' l l' s s' same_c same_n same_l same_s so =
    subst (λ x. F x n' l' s') same_c (subst (λ x. F c x l' s') same_n (subst (λ x. F c n x s') same_l (subst (λ x. F c n l x) same_s so)))

module _ {C S : Type 0} (rules : Rules C S) where
  -- nothing was taken
  pub goes_none : (session : Session C S) → Goes rules [] [] session session
  goes_none session = record {
    whole = λ ended more. refl;
    lines = 0;
    ends = sym line_ends-none;
    steps = λ k more. ap (λ (n : ℕ). resumed_by rules n more session) (let same : k + 0 ≡ k = omega arith in same);
    nexts = λ k more. ap (λ (n : ℕ). line_behind n (session.pending ++ more)) (let same : k + 0 ≡ k = omega arith in same);
    count = omega arith;
    setting = refl;
  }

  pub goes_then : (a b s t : List ℕ) (old mid new : Session C S) → Goes rules a s old mid → Goes rules b t mid new → Goes rules (a ++ b) (s ++ t) old new
  goes_then a b s t old mid new one two = record {
    whole = λ ended more.
        ap (λ (l : List ℕ). resumed rules ended l old) (append_assoc a b more) ∙ one.whole ended (b ++ more)
        ∙ ap (with_front s) (two.whole ended more) ∙ with_front-twice s t (resumed rules ended more new);
    lines = two.lines + one.lines;
    ends = omega (arith, one.ends, two.ends, line_ends-append a b);
    steps = λ k more.
        ap (λ (l : List ℕ). resumed_by rules (k + (two.lines + one.lines)) l old) (append_assoc a b more)
        ∙ ap (λ (n : ℕ). resumed_by rules n (a ++ (b ++ more)) old) (again k)
        ∙ one.steps (k + two.lines) (b ++ more)
        ∙ ap (with_front s) (two.steps k more) ∙ with_front-twice s t (resumed_by rules k more new);
    nexts = λ k more.
        ap (λ (l : List ℕ). line_behind (k + (two.lines + one.lines)) (old.pending ++ l)) (append_assoc a b more)
        ∙ ap (λ (n : ℕ). line_behind n (old.pending ++ (a ++ (b ++ more)))) (again k)
        ∙ one.nexts (k + two.lines) (b ++ more) ∙ two.nexts k more;
    count = omega (arith, one.count, two.count);
    setting = two.setting ∙ one.setting;
  }
    where
      again : (k : ℕ) → k + (two.lines + one.lines) ≡ (k + two.lines) + one.lines
      again k = omega arith

  -- an end, seen from further back
  module _ (at at' : S → Type 0) (broken broken' : ℕ → List ℕ → S → List ℕ → Type 0) (unwritten unwritten' : Type 0) (is_read is_read' : ℕ → Type 0)
      (to_at : (s : S) → at s → at' s) (to_broken : (n : ℕ) (l : List ℕ) (s : S) (words : List ℕ) → broken n l s words → broken' n l s words) (to_unwritten : unwritten → unwritten')
      (end : DriveEnd) (a bytes front text : List ℕ) (old mid : Session C S) (goes : Goes rules a front old mid) (to_read : (k : ℕ) → is_read k → is_read' (k + goes.lines)) where
    step : (k : ℕ) → resumed_by rules (k + goes.lines) (a ++ bytes) old ≡ with_front front (resumed_by rules k bytes mid)
    step k = goes.steps k bytes

    all : resumed rules true (a ++ bytes) old ≡ with_front front (resumed rules true bytes mid)
    all = goes.whole true bytes

    next_read : (k : ℕ) → is_read (k + 1) → is_read' ((k + goes.lines) + 1)
    next_read k read = subst is_read' (let same : (k + 1) + goes.lines ≡ (k + goes.lines) + 1 = omega arith in same) (to_read (k + 1) read)

    with_text : (k : ℕ) (words : List ℕ) → (resumed_by rules k bytes mid).text ++ words ≡ text → (resumed_by rules (k + goes.lines) (a ++ bytes) old).text ++ words ≡ front ++ text
    with_text k words said =
        ap (λ (p : Played S). p.text ++ words) (step k) ∙ append_assoc front (resumed_by rules k bytes mid).text words ∙ ap (λ (t : List ℕ). front ++ t) said

    text_by : (k : ℕ) → (resumed_by rules k bytes mid).text ≡ text → (resumed_by rules (k + goes.lines) (a ++ bytes) old).text ≡ front ++ text
    text_by k said = ap (λ (p : Played S). p.text) (step k) ∙ ap (λ (t : List ℕ). front ++ t) said

    in_text : (k : ℕ) (words : List ℕ) → IsPrefix text ((resumed_by rules k bytes mid).text ++ words) → IsPrefix (front ++ text) ((resumed_by rules (k + goes.lines) (a ++ bytes) old).text ++ words)
    in_text k words part =
        subst (λ (t : List ℕ). IsPrefix (front ++ text) t) (sym (ap (λ (p : Played S). p.text ++ words) (step k) ∙ append_assoc front (resumed_by rules k bytes mid).text words))
        (prefix_behind front text ((resumed_by rules k bytes mid).text ++ words) part)

    part_by : (k : ℕ) → IsPrefix text (resumed_by rules k bytes mid).text → IsPrefix (front ++ text) (resumed_by rules (k + goes.lines) (a ++ bytes) old).text
    part_by k part = subst (λ (p : Played S). IsPrefix (front ++ text) p.text) (sym (step k)) (prefix_behind front text (resumed_by rules k bytes mid).text part)

    same_state : (k : ℕ) → (resumed_by rules k bytes mid).store ≡ (resumed_by rules (k + goes.lines) (a ++ bytes) old).store
    same_state k = sym (ap (λ (p : Played S). p.store) (step k))

    same_number : (k : ℕ) → mid.count + k + 1 ≡ old.count + (k + goes.lines) + 1
    same_number k = omega (arith, goes.count)

    leaves : (k : ℕ) → Leaves rules at is_read bytes mid k → Leaves rules at' is_read' (a ++ bytes) old (k + goes.lines)
    leaves k (inl here) = inl (subst at' (same_state k) (to_at (resumed_by rules k bytes mid).store here))
    leaves k (inr next) = inr (record {
      read = next_read k next.read;
      to = next.to;
      amid = same_line (λ c n l s. rules.amid c n l s next.to) mid.player.setting old.player.setting (mid.count + k + 1) (old.count + (k + goes.lines) + 1)
          (line_behind k (mid.pending ++ bytes)) (line_behind (k + goes.lines) (old.pending ++ (a ++ bytes))) (resumed_by rules k bytes mid).store (resumed_by rules (k + goes.lines) (a ++ bytes) old).store
          goes.setting (same_number k) (sym (goes.nexts k bytes)) (same_state k) next.amid;
      left = to_at next.to next.left;
    })

    pub ends_then : Ends rules at broken unwritten is_read end bytes mid text → Ends rules at' broken' unwritten' is_read' end (a ++ bytes) old (front ++ text)
    ends_then (own e) = own (record {
      own = e.own;
      stop = ap (λ (p : Played S). p.stop) all ∙ e.stop;
      said = ap (λ (p : Played S). p.text) all ∙ ap (λ (t : List ℕ). front ++ t) e.said;
      left = subst at' (sym (ap (λ (p : Played S). p.store) all)) (to_at (resumed rules true bytes mid).store e.left);
      lines = e.lines + goes.lines;
      read = to_read e.lines e.read;
      said_by = text_by e.lines e.said_by;
      left_by = leaves e.lines e.left_by;
    })
    ends_then (amid e) = amid (record {
      because = e.because;
      lines = e.lines + goes.lines;
      read = to_read e.lines e.read;
      goes_on = ap (λ (p : Played S). p.stop) (step e.lines) ∙ e.goes_on;
      said = text_by e.lines e.said;
      left = leaves e.lines e.left;
    })
    ends_then (unsaid e) = unsaid (record {
      fault = e.fault;
      because = to_unwritten e.because;
      lines = e.lines + goes.lines;
      read = to_read e.lines e.read;
      part = part_by e.lines e.part;
      left = leaves e.lines e.left;
    })
    ends_then (broke e) = broke (record {
      disk = e.disk;
      count = e.count;
      fault = e.fault;
      lines = e.lines + goes.lines;
      read = next_read e.lines e.read;
      words = e.words;
      said = ⊎_elim (λ said. inl (with_text e.lines e.words said)) (λ part. inr (to_unwritten part.0, in_text e.lines e.words part.1)) e.said;
      left = same_line (λ (c : Unit {0}) n l s. broken' n l s e.words) tt tt (mid.count + e.lines + 1) (old.count + (e.lines + goes.lines) + 1)
          (line_behind e.lines (mid.pending ++ bytes)) (line_behind (e.lines + goes.lines) (old.pending ++ (a ++ bytes))) (resumed_by rules e.lines bytes mid).store (resumed_by rules (e.lines + goes.lines) (a ++ bytes) old).store
          refl (same_number e.lines) (sym (goes.nexts e.lines bytes)) (same_state e.lines) (to_broken _ _ _ _ e.left);
    })

  -- an end later in a piece
  module _ (at : S → Type 0) (broken : ℕ → List ℕ → S → List ℕ → Type 0) (end : DriveEnd) (a b text : List ℕ) where
    pub ends_in_then : (old mid : Session C S) → Goes rules a [] old mid → EndsIn rules at broken ⊥ end b mid text → EndsIn rules at broken ⊥ end (a ++ b) old text
    ends_in_then old mid goes ends more =
        subst (λ (l : List ℕ). Ends rules at broken ⊥ (λ k. k ≤ line_ends (a ++ b)) end l old text) (sym (append_assoc a b more))
        (ends_then at at broken broken ⊥ ⊥ (λ k. k ≤ line_ends b) (λ k. k ≤ line_ends (a ++ b)) (λ s is. is) (λ n l s words is. is) (λ w. w) end a (b ++ more) [] text old mid goes
        (λ k few. omega (arith, few, goes.ends, line_ends-append a b)) (ends more))

    -- and in a longer one
    pub ends_longer : (old : Session C S) → EndsIn rules at broken ⊥ end a old text → EndsIn rules at broken ⊥ end (a ++ b) old text
    unfolding goes_none
    ends_longer old ends more =
        subst (λ (l : List ℕ). Ends rules at broken ⊥ (λ k. k ≤ line_ends (a ++ b)) end l old text) (sym (append_assoc a b more))
        (ends_then at at broken broken ⊥ ⊥ (λ k. k ≤ line_ends a) (λ k. k ≤ line_ends (a ++ b)) (λ s is. is) (λ n l s words is. is) (λ w. w) end [] (a ++ (b ++ more)) [] text old old (goes_none old)
        (λ k few. omega (arith, few, line_ends-append a b)) (ends (b ++ more)))

  -- an end of which less is said
  pub ends_weaker : (at at' : S → Type 0) (broken broken' : ℕ → List ℕ → S → List ℕ → Type 0) (unwritten : Type 0) (is_read : ℕ → Type 0) (end : DriveEnd) (bytes text : List ℕ) (session : Session C S)
      → ((s : S) → at s → at' s) → ((n : ℕ) (l : List ℕ) (s : S) (words : List ℕ) → broken n l s words → broken' n l s words)
      → Ends rules at broken ⊥ is_read end bytes session text → Ends rules at' broken' unwritten is_read end bytes session text
  unfolding goes_none
  ends_weaker at at' broken broken' unwritten is_read end bytes text session to_at to_broken =
      ends_then at at' broken broken' ⊥ unwritten is_read is_read to_at to_broken (λ w. absurd w) end [] bytes [] text session session (goes_none session)
      (λ k read. subst is_read (let same : k ≡ k + 0 = omega arith in same) read)
