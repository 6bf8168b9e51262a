-- What a call of a session is to the script: a line was played, bytes were held, or a limit ended it.
use Rattle.std.proofs.Common.{◌≡◌, inl, inr, ℕ, ◌+◌, ◌<◌, ◌≤◌, List, [], ◌∷◌, ◌++◌, length, take, true, None, Some, refl, sym, ap, subst, ◌∙◌, arith, append_assoc}
use Rattle.std.proofs.lemmas.List.{append-nil}
use Rattle.cw_lines.specs.declared.end.DriveEnd.{DriveEnd}
use Rattle.cw_lines.specs.Lines.{lines_of, line_ends, is_line}
use Rattle.cw_lines.specs.Plays.{Played, passed, stopped, with_front, play, behind, within_limits, line_behind}
use Rattle.cw_lines.specs.Players.{Rules, player_of, Playing, is_own, is_amid, HasPlayed, HasStopped}
use Rattle.cw_lines.specs.Players.HasStopped.{ended, left, failed}
use Rattle.cw_lines.specs.Sessions.{Session, resumed, resumed_by, Goes, Leaves, Ends, EndsIn, EndsLast, Finishes}
use Rattle.cw_lines.specs.Sessions.Ends.{own, amid, broke}
use Rattle.cw_lines.specs.Drives.{IsNotHeld}
use Rattle.cw_lines.specs.Drives.IsNotHeld.{many, long, wanted}
use Rattle.cw_lines.proofs.LineLemmas.{lines_of-line, line_behind-more, line_behind-none, line_ends-line, begins_any}
use Rattle.cw_lines.proofs.PlayLemmas.{with_front-twice, play-line, play-some, play-steps, goes_on-None, limits_fine, held_many, held_long, play-nothing, play-alone, lines_of-last}

module _ {C S : Type 0} (rules : Rules C S) where
  -- a line was played that doesn't end the script
  module _ (l piece : List ℕ) (old new : Session C S) (whole : is_line l ≡ true) (few : old.count < 1000000) (short : length l ≤ 65536) (next : new.count ≡ old.count + 1) (empty : new.pending ≡ [])
      (ends : line_ends piece ≡ 1) (first : (more : List ℕ) → old.pending ++ (piece ++ more) ≡ l ++ 10 ∷ more)
      (did : HasPlayed (rules.does old.player.setting (old.count + 1) l old.player.state) old.player new.player) where
    played : Played S
    played = player_of rules old.player.setting (old.count + 1) l old.player.state

    is : played ≡ rules.does old.player.setting (old.count + 1) l old.player.state
    unfolding played
    is = limits_fine (old.count + 1) l old.player.state (rules.does old.player.setting (old.count + 1) l old.player.state) (omega (arith, few)) short

    on : played.stop ≡ None
    on = ap (λ (p : Played S). p.stop) is ∙ did.goes_on

    behind_it : (rest : C → ℕ → S → Played S) → with_front old.player.text (with_front played.text (rest old.player.setting (old.count + 1 + 1) played.store)) ≡ with_front new.player.text (rest new.player.setting (new.count + 1) new.player.state)
    behind_it rest =
        ap (λ (p : Played S). with_front old.player.text (with_front p.text (rest old.player.setting (old.count + 1 + 1) p.store))) is
        ∙ with_front-twice old.player.text line.text (rest old.player.setting (old.count + 1 + 1) line.store)
        ∙ ap (λ (t : List ℕ). with_front t (rest old.player.setting (old.count + 1 + 1) line.store)) (sym did.text)
        ∙ ap (λ (st : S). with_front new.player.text (rest old.player.setting (old.count + 1 + 1) st)) (sym did.state)
        ∙ ap (λ (n : ℕ). with_front new.player.text (rest old.player.setting (n + 1) new.player.state)) (sym next)
        ∙ ap (λ (c : C). with_front new.player.text (rest c (new.count + 1) new.player.state)) (sym did.setting)
      where
        line : Played S
        line = rules.does old.player.setting (old.count + 1) l old.player.state

    left_over : (more : List ℕ) → more ≡ new.pending ++ more
    left_over more = ap (λ (p : List ℕ). p ++ more) (sym empty)

    cut_first : (more : List ℕ) → lines_of (old.pending ++ (piece ++ more)) ≡ l ∷ lines_of more
    cut_first more = ap lines_of (first more) ∙ lines_of-line l more whole

    passes : player_of rules old.player.setting (old.count + 1) [] old.player.state ≡ passed old.player.state
    passes =
        limits_fine (old.count + 1) [] old.player.state (rules.does old.player.setting (old.count + 1) [] old.player.state) (omega (arith, few)) (omega arith)
        ∙ rules.passes old.player.setting (old.count + 1) old.player.state

    pub goes_line : Goes rules piece [] old new
    unfolding played
    goes_line = record {
      whole = λ ended more.
          ap (λ (ls : List (List ℕ)). with_front old.player.text (play (player_of rules old.player.setting) ended (old.count + 1) ls old.player.state)) (cut_first more)
          ∙ ap (with_front old.player.text) (play-line (player_of rules old.player.setting) ended (old.count + 1) l more old.player.state
          ∙ goes_on-None played.stop played.text played.store (λ after. play (player_of rules old.player.setting) ended (old.count + 1 + 1) (lines_of more) after) on)
          ∙ behind_it (λ c n st. play (player_of rules c) ended n (lines_of more) st)
          ∙ ap (λ (b : List ℕ). with_front new.player.text (play (player_of rules new.player.setting) ended (new.count + 1) (lines_of b) new.player.state)) (left_over more);
      lines = 1;
      ends = sym ends;
      steps = λ k more.
          ap (λ (ls : List (List ℕ)). with_front old.player.text (play (player_of rules old.player.setting) true (old.count + 1) (take (k + 1) ls) old.player.state)) (cut_first more)
          ∙ ap (with_front old.player.text) (play-steps (player_of rules old.player.setting) (old.count + 1) l (lines_of more) old.player.state k passes on)
          ∙ behind_it (λ c n st. play (player_of rules c) true n (take k (lines_of more)) st)
          ∙ ap (λ (b : List ℕ). with_front new.player.text (play (player_of rules new.player.setting) true (new.count + 1) (take k (lines_of b)) new.player.state)) (left_over more);
      nexts = λ k more. ap (line_behind (k + 1)) (first more) ∙ line_behind-more l more k whole ∙ ap (line_behind k) (left_over more);
      count = next;
      setting = did.setting;
    }

  -- bytes were held
  pub goes_held : (tail : List ℕ) → is_line tail ≡ true → (old new : Session C S) → new.player ≡ old.player → new.count ≡ old.count → new.pending ≡ old.pending ++ tail → Goes rules tail [] old new
  goes_held tail line old new player count items = record {
    whole = λ ended more. same (λ c n b st. play (player_of rules c) ended n (lines_of b) st) more;
    lines = 0;
    ends = sym (line_ends-line tail line);
    steps = λ k more. ap (λ (n : ℕ). resumed_by rules n (tail ++ more) old) (none k) ∙ same (λ c n b st. play (player_of rules c) true n (take k (lines_of b)) st) more;
    nexts = λ k more. ap (λ (n : ℕ). line_behind n (old.pending ++ (tail ++ more))) (none k) ∙ ap (line_behind k) (further more);
    count = omega (arith, count);
    setting = ap (λ (p : Playing C S). p.setting) player;
  }
    where
      none : (k : ℕ) → k + 0 ≡ k
      none k = omega arith

      further : (more : List ℕ) → old.pending ++ (tail ++ more) ≡ new.pending ++ more
      further more = sym (append_assoc old.pending tail more) ∙ ap (λ (b : List ℕ). b ++ more) (sym items)

      same : (rest : C → ℕ → List ℕ → S → Played S) (more : List ℕ)
          → with_front old.player.text (rest old.player.setting (old.count + 1) (old.pending ++ (tail ++ more)) old.player.state)
          ≡ with_front new.player.text (rest new.player.setting (new.count + 1) (new.pending ++ more) new.player.state)
      same rest more =
          ap (λ (b : List ℕ). with_front old.player.text (rest old.player.setting (old.count + 1) b old.player.state)) (further more)
          ∙ ap (λ (n : ℕ). with_front old.player.text (rest old.player.setting (n + 1) (new.pending ++ more) old.player.state)) (sym count)
          ∙ ap (λ (p : Playing C S). with_front p.text (rest p.setting (new.count + 1) (new.pending ++ more) p.state)) (sym player)

  module _ (at : S → Type 0) (broken : ℕ → List ℕ → S → List ℕ → Type 0) (is_read : ℕ → Type 0) (none : is_read 0) (end : DriveEnd) (bytes : List ℕ) (old : Session C S) where
    nothing : resumed_by rules 0 bytes old ≡ with_front old.player.text (passed old.player.state)
    unfolding play
    nothing = refl

    before_it : (text : List ℕ) → text ≡ old.player.text → (resumed_by rules 0 bytes old).text ≡ text
    before_it text same = ap (λ (p : Played S). p.text) nothing ∙ append-nil old.player.text ∙ sym same

    still_at : at old.player.state → at (resumed_by rules 0 bytes old).store
    still_at here = subst at (sym (ap (λ (p : Played S). p.store) nothing)) here

    -- a limit ended it before a line was played
    pub ends_over : at old.player.state → is_own end ≡ true
        → play (player_of rules old.player.setting) true (old.count + 1) (lines_of (old.pending ++ bytes)) old.player.state ≡ stopped end old.player.state
        → Ends rules at broken ⊥ is_read end bytes old old.player.text
    ends_over here mine is =
        let so = ap (with_front old.player.text) is in
        own (record {
          own = mine;
          stop = ap (λ (p : Played S). p.stop) so;
          said = ap (λ (p : Played S). p.text) so ∙ append-nil old.player.text;
          left = subst at (sym (ap (λ (p : Played S). p.store) so)) here;
          lines = 0;
          read = none;
          said_by = before_it old.player.text refl;
          left_by = inl (still_at here);
        })

    -- for want of memory nothing was taken
    pub ends_wanted : at old.player.state → is_amid end ≡ true → Ends rules at broken ⊥ is_read end bytes old old.player.text
    ends_wanted here because = amid (record {
      because = because;
      lines = 0;
      read = none;
      goes_on = ap (λ (p : Played S). p.stop) nothing;
      said = before_it old.player.text refl;
      left = inl (still_at here);
    })

    -- a line was played that ended it
    module _ (only : is_read 1) (l : List ℕ) (ls : List (List ℕ)) (text : List ℕ) (few : old.count < 1000000) (short : length l ≤ 65536) (some : 0 < length l + length ls)
        (first : lines_of (old.pending ++ bytes) ≡ l ∷ ls) where
      does : Played S
      does = rules.does old.player.setting (old.count + 1) l old.player.state

      number : old.count + 1 ≡ old.count + 0 + 1
      number = omega arith

      -- the line that stopped is the next
      is_next : (F : ℕ → List ℕ → S → Type 0) → F (old.count + 1) l old.player.state → F (old.count + 0 + 1) (line_behind 0 (old.pending ++ bytes)) (resumed_by rules 0 bytes old).store
      is_next F so =
          subst (λ (n : ℕ). F n (line_behind 0 (old.pending ++ bytes)) (resumed_by rules 0 bytes old).store) number
          (subst (λ (x : List ℕ). F (old.count + 1) x (resumed_by rules 0 bytes old).store) (sym (line_behind-none l ls (old.pending ++ bytes) first))
          (subst (λ (s : S). F (old.count + 1) l s) (sym (ap (λ (p : Played S). p.store) nothing)) so))

      on_way : (to : S) → rules.amid old.player.setting (old.count + 1) l old.player.state to → at to → Leaves rules at is_read bytes old 0
      on_way to amid_it here = inr (record { read = only; to = to; amid = is_next (λ n x s. rules.amid old.player.setting n x s to) amid_it; left = here })

      all : does.stop ≡ Some end → resumed rules true bytes old ≡ with_front old.player.text (record { text = does.text; store = does.store; stop = Some end })
      unfolding does
      all stop =
          let fine = limits_fine (old.count + 1) l old.player.state does (omega (arith, few)) short in
          ap (λ (xs : List (List ℕ)). with_front old.player.text (play (player_of rules old.player.setting) true (old.count + 1) xs old.player.state)) first
          ∙ ap (with_front old.player.text) (play-some (player_of rules old.player.setting) (old.count + 1) l ls old.player.state end some (ap (λ (p : Played S). p.stop) fine ∙ stop)
          ∙ ap (λ (p : Played S). record { text = p.text; store = p.store; stop = Some end }) fine)

      pub ends_line : HasStopped end (rules.amid old.player.setting (old.count + 1) l) at (broken (old.count + 1) l) (rules.does old.player.setting (old.count + 1) l old.player.state) old.player text
          → Ends rules at broken ⊥ is_read end bytes old text
      unfolding does
      ends_line (ended e) =
          let so = all e.stop in
          own (record {
            own = e.own;
            stop = ap (λ (p : Played S). p.stop) so;
            said = ap (λ (p : Played S). p.text) so ∙ ap (λ (t : List ℕ). old.player.text ++ t) e.silent ∙ append-nil old.player.text ∙ sym e.said;
            left = subst at (sym (ap (λ (p : Played S). p.store) so)) e.left;
            lines = 0;
            read = none;
            said_by = before_it text e.said;
            left_by = on_way does.store e.amid_it e.left;
          })
      ends_line (left e) = amid (record {
        because = e.because;
        lines = 0;
        read = none;
        goes_on = ap (λ (p : Played S). p.stop) nothing;
        said = before_it text e.said;
        left = on_way e.to e.amid_it e.left;
      })
      ends_line (failed e) = broke (record {
        disk = e.disk;
        count = e.count;
        fault = e.fault;
        lines = 0;
        read = only;
        words = e.words;
        said = inl (ap (λ (t : List ℕ). t ++ e.words) (before_it old.player.text refl) ∙ sym e.said);
        left = is_next (λ n x s. broken n x s e.words) e.left;
      })

  module _ (at : S → Type 0) (broken : ℕ → List ℕ → S → List ℕ → Type 0) (end : DriveEnd) (old : Session C S) where
    -- how a whole line ended it
    pub ends_whole : (l piece text : List ℕ) → is_line l ≡ true → old.count < 1000000 → length l ≤ 65536 → line_ends piece ≡ 1 → ((more : List ℕ) → old.pending ++ (piece ++ more) ≡ l ++ 10 ∷ more)
        → HasStopped end (rules.amid old.player.setting (old.count + 1) l) at (broken (old.count + 1) l) (rules.does old.player.setting (old.count + 1) l old.player.state) old.player text
        → EndsIn rules at broken ⊥ end piece old text
    ends_whole l piece text whole few short ends first did more =
        ends_line at broken (λ k. k ≤ line_ends piece) (omega arith) end (piece ++ more) old (omega (arith, ends)) l (lines_of more) text few short
        (some_lines (lines_of more) l (nonempty more)) (ap lines_of (first more) ∙ lines_of-line l more whole) did
      where
        some_lines : (ls : List (List ℕ)) (l : List ℕ) → 0 < length ls → 0 < length l + length ls
        some_lines ls l some = omega arith

        nonempty : (more : List ℕ) → 0 < length (lines_of more)
        nonempty more = let any = begins_any more in subst (λ (ls : List (List ℕ)). 0 < length ls) (sym any.first) (omega arith)

    -- a whole line that is over a limit
    pub ends_limit : (l piece : List ℕ) → is_line l ≡ true → at old.player.state → is_own end ≡ true → ((more : List ℕ) → old.pending ++ (piece ++ more) ≡ l ++ 10 ∷ more)
        → ((p : Played S) → within_limits (old.count + 1) l old.player.state p ≡ stopped end old.player.state)
        → EndsIn rules at broken ⊥ end piece old old.player.text
    ends_limit l piece whole here mine first limit more =
        ends_over at broken (λ k. k ≤ line_ends piece) (omega arith) end (piece ++ more) old here mine
        (ap (λ (ls : List (List ℕ)). play (player_of rules old.player.setting) true (old.count + 1) ls old.player.state) (ap lines_of (first more) ∙ lines_of-line l more whole)
        ∙ play-line (player_of rules old.player.setting) true (old.count + 1) l more old.player.state
        ∙ ap (λ (p : Played S). behind p (λ after. play (player_of rules old.player.setting) true (old.count + 1 + 1) (lines_of more) after)) (limit (rules.does old.player.setting (old.count + 1) l old.player.state)))

    -- the last line
    pub finish_stop : (text : List ℕ) → 0 < length old.pending → is_line old.pending ≡ true → old.count < 1000000 → length old.pending ≤ 65536
        → HasStopped end (rules.amid old.player.setting (old.count + 1) old.pending) at (broken (old.count + 1) old.pending) (rules.does old.player.setting (old.count + 1) old.pending old.player.state) old.player text
        → EndsLast rules at broken ⊥ end old text
    finish_stop text some whole few short did =
        ends_line at broken (λ _. Unit {0}) tt end [] old tt old.pending [] text few short (omega (arith, some)) (lines_of-last old.pending whole) did

    -- bytes weren't held
    pub ends_held : (tail : List ℕ) → is_line tail ≡ true → is_line old.pending ≡ true → at old.player.state → IsNotHeld old.count (length old.pending) (length tail) end
        → EndsIn rules at broken ⊥ end tail old old.player.text
    ends_held tail comes held here (many some over is) more =
        ends_over at broken (λ k. k ≤ line_ends tail) (omega arith) end (tail ++ more) old here (ap is_own is)
        (held_many (rules.does old.player.setting) (old.count + 1) old.pending tail more old.player.state held comes some (omega (arith, over)) ∙ ap (λ (e : DriveEnd). stopped e old.player.state) (sym is))
    ends_held tail comes held here (long some few over is) more =
        ends_over at broken (λ k. k ≤ line_ends tail) (omega arith) end (tail ++ more) old here (ap is_own is)
        (held_long (rules.does old.player.setting) (old.count + 1) old.pending tail more old.player.state held comes some (omega (arith, few)) over ∙ ap (λ (e : DriveEnd). stopped e old.player.state) (sym is))
    ends_held tail comes held here (wanted is) more =
        ends_wanted at broken (λ k. k ≤ line_ends tail) (omega arith) end (tail ++ more) old here (ap is_amid is)

  module _ (at : S → Type 0) (old : Session C S) where
    pub finish_go : (new : Playing C S) → at new.state → 0 < length old.pending → is_line old.pending ≡ true → old.count < 1000000 → length old.pending ≤ 65536
        → HasPlayed (rules.does old.player.setting (old.count + 1) old.pending old.player.state) old.player new
        → Finishes rules at old new.text
    finish_go new here some whole few short did =
        let same = ap (with_front old.player.text) (play-alone (player_of rules old.player.setting) (old.count + 1) old.pending old.player.state whole some
        ∙ limits_fine (old.count + 1) old.pending old.player.state (rules.does old.player.setting (old.count + 1) old.pending old.player.state) (omega (arith, few)) short) in
        record {
          stop = ap (λ (p : Played S). p.stop) same ∙ did.goes_on;
          said = ap (λ (p : Played S). p.text) same ∙ sym did.text;
          left = subst at (did.state ∙ sym (ap (λ (p : Played S). p.store) same)) here;
        }

    pub finish_none : at old.player.state → old.pending ≡ [] → Finishes rules at old old.player.text
    finish_none here none =
        let same = ap (with_front old.player.text) (play-nothing (player_of rules old.player.setting) (old.count + 1) old.pending old.player.state none) in
        record {
          stop = ap (λ (p : Played S). p.stop) same;
          said = ap (λ (p : Played S). p.text) same ∙ append-nil old.player.text;
          left = subst at (sym (ap (λ (p : Played S). p.store) same)) here;
        }
