-- A drive so far: what was read and written, and what the session has still to play.
use Rattle.std.proofs.Common.{◌≡◌, ⊎_elim, inl, inr, ◌≤◌, ◌<◌, ℕ, ◌+◌, List, [], ◌∷◌, ◌++◌, length, take, true, false, Option, Some, None, refl, sym, ap, subst, ◌∙◌, arith, append_assoc, length-append, length-take}
use Rattle.std.proofs.lemmas.List.{append-nil}
use Rattle.cw_io.specs.Told.{with_front as in_front, with_back, IsAtEnd}
use Rattle.cw_lines.specs.declared.end.DriveEnd.{DriveEnd}
use Rattle.cw_lines.specs.declared.end.DriveEnd.TheVariants.{Done, BadScript, TooLong, ReadFault, WriteFault}
use Rattle.cw_lines.specs.declared.end.DriveEnd.TheVariants.{StoreFault, OutletFault, Full, Memory}
use Rattle.cw_lines.specs.Lines.{line_ends, is_line}
use Rattle.cw_lines.specs.Plays.{Played, passed, with_front, play, run, run_so_far, behind_lines, line_behind}
use Rattle.cw_lines.specs.Players.{Rules, player_of, is_own, is_amid}
use Rattle.cw_lines.specs.Due as due
use Rattle.cw_lines.specs.Due.{most_piece, AreRead, Plays, IsAnsweredBefore, IsDue, Drives}
use Rattle.cw_lines.specs.Sessions.{Session, resumed, Goes, Leaves, Ends}
use Rattle.cw_lines.specs.Sessions.Ends.{own, amid, unsaid, broke}
use Rattle.cw_lines.specs.Drives.{PlaysPiece, EndsInPiece, EndsDone, EndsAtEnd}
use Rattle.cw_lines.proofs.LineLemmas.{line_ends-append}
use Rattle.cw_lines.proofs.PlayLemmas.{play-begun}
use Rattle.cw_lines.proofs.EndLemmas.{goes_none, goes_then, ends_then}

pub writes_none : (o : Option (List ℕ)) → o ≡ with_back [] o
writes_none None = refl
writes_none (Some held) = ap Some (sym (append-nil held))

pub writes_then : (a b : List ℕ) (o p q : Option (List ℕ)) → p ≡ with_back a o → q ≡ with_back b p → q ≡ with_back (a ++ b) o
writes_then a b None p q one two = two ∙ ap (with_back b) one
writes_then a b (Some held) p q one two = two ∙ ap (with_back b) one ∙ ap Some (append_assoc held a b)

-- what was taken from the input
abbrev pub Takes : List ℕ → (before after : Option (List ℕ)) → Type 0
Takes bytes before after = before ≡ in_front bytes after

takes_none : (o : Option (List ℕ)) → Takes [] o o
takes_none None = refl
takes_none (Some rest) = refl

takes_then : (a b : List ℕ) (o p q : Option (List ℕ)) → Takes a o p → Takes b p q → Takes (a ++ b) o q
takes_then a b o p None one two = one ∙ ap (in_front a) two
takes_then a b o p (Some rest) one two = one ∙ ap (in_front a) two ∙ ap Some (sym (append_assoc a b rest))

-- what is left of the input
pub record Left (bytes taken : List ℕ) (left : Option (List ℕ)) : Type 0 where
  pub rest : List ℕ
  pub split : bytes ≡ taken ++ rest
  pub left_over : left ≡ Some rest

pub left_of : (bytes taken : List ℕ) (before after : Option (List ℕ)) → before ≡ Some bytes → Takes taken before after → Left bytes taken after
left_of bytes taken before None told took = let wrong = sym took ∙ told in cc
left_of bytes taken before (Some rest) told took = let same = sym told ∙ took in record { rest = rest; split = cc; left_over = refl }

-- of an empty input nothing is taken
pub takes_nothing : (n : ℕ) (xs : List ℕ) (before after : Option (List ℕ)) → before ≡ Some [] → Takes (take n xs) before after → 0 < n → n ≤ length xs → ⊥
takes_nothing n xs before after told took some fits =
    let over = left_of [] (take n xs) before after told took in
    omega (arith, some, fits, ap length over.split, length-append (take n xs) over.rest, length-take n xs)

back_nil : (a b : List ℕ) → a ++ b ≡ [] → b ≡ []
back_nil [] b is = is
back_nil (x ∷ xs) b is = cc

-- nothing is left behind the end
no_rest : (piece rest : List ℕ) (left left' : Option (List ℕ)) → Takes piece left left' → IsAtEnd left → left' ≡ Some rest → rest ≡ []
no_rest piece rest left left' took end is = back_nil piece rest (end (piece ++ rest) (took ∙ ap (in_front piece) is))

-- a session that has taken nothing
abbrev pub fresh : {C S : Type 0} → C → S → Session C S
fresh setting state = record { player = record { setting = setting; state = state; text = [] }; count = 0; pending = [] }

module _ {C S : Type 0} (rules : Rules C S) where
  -- what is due at each end
  module _ (at : S → Type 0) (broken : ℕ → List ℕ → S → List ℕ → Type 0) (unwritten : Type 0) (setting : C) (state : S) (bytes taken rest text : List ℕ) where
    own_due : (end : DriveEnd) → is_own end ≡ true → Plays (run (player_of rules setting) state bytes) (Some end) text at → IsDue (player_of rules setting) (rules.amid setting) state bytes taken rest text at end unwritten broken
    own_due (BadScript line kind) mine plays = plays
    own_due (TooLong count) mine plays = plays
    own_due (Full log length frame) mine plays = plays
    own_due Done mine plays = absurd (let wrong : false ≡ true = mine in cc)
    own_due ReadFault mine plays = absurd (let wrong : false ≡ true = mine in cc)
    own_due WriteFault mine plays = absurd (let wrong : false ≡ true = mine in cc)
    own_due (StoreFault disk count) mine plays = absurd (let wrong : false ≡ true = mine in cc)
    own_due OutletFault mine plays = absurd (let wrong : false ≡ true = mine in cc)
    own_due Memory mine plays = absurd (let wrong : false ≡ true = mine in cc)

    amid_due : (end : DriveEnd) → is_amid end ≡ true → due.EndsAmid (player_of rules setting) (rules.amid setting) state bytes taken rest text at → IsDue (player_of rules setting) (rules.amid setting) state bytes taken rest text at end unwritten broken
    amid_due Memory so ends = ends
    amid_due OutletFault so ends = ends
    amid_due (BadScript line kind) so ends = absurd (let wrong : false ≡ true = so in cc)
    amid_due (TooLong count) so ends = absurd (let wrong : false ≡ true = so in cc)
    amid_due (Full log length frame) so ends = absurd (let wrong : false ≡ true = so in cc)
    amid_due Done so ends = absurd (let wrong : false ≡ true = so in cc)
    amid_due ReadFault so ends = absurd (let wrong : false ≡ true = so in cc)
    amid_due WriteFault so ends = absurd (let wrong : false ≡ true = so in cc)
    amid_due (StoreFault disk count) so ends = absurd (let wrong : false ≡ true = so in cc)

    number : (lines : ℕ) → 0 + lines + 1 ≡ lines + 1
    number lines = omega arith

    leaves : (lines : ℕ) → Leaves rules at (λ k. AreRead k taken rest) bytes (fresh setting state) lines → due.Leaves (player_of rules setting) (rules.amid setting) state bytes taken rest text at lines
    leaves lines (inl here) = inl here
    leaves lines (inr next) = inr (record {
      read = next.read;
      to = next.to;
      on_way = subst (λ (n : ℕ). rules.amid setting n (line_behind lines bytes) (behind_lines (player_of rules setting) lines bytes state).store next.to) (number lines) next.amid;
      left = next.left;
    })

    pub ends_due : IsAnsweredBefore (player_of rules setting) (rules.amid setting) state bytes taken rest text at → (end : DriveEnd)
        → Ends rules at broken unwritten (λ k. AreRead k taken rest) end bytes (fresh setting state) text → IsDue (player_of rules setting) (rules.amid setting) state bytes taken rest text at end unwritten broken
    ends_due answered end (own e) = own_due end e.own (record { ends = e.stop; said = e.said; left = e.left })
    ends_due answered end (amid e) = amid_due end e.because (record { lines = e.lines; read = e.read; goes_on = e.goes_on; said = e.said; left = leaves e.lines e.left })
    ends_due answered end (unsaid e) =
        subst (λ (s : DriveEnd). IsDue (player_of rules setting) (rules.amid setting) state bytes taken rest text at s unwritten broken) (sym e.fault)
        (record { lines = e.lines; read = e.read; said = record { before = answered; part = e.part }; left = leaves e.lines e.left })
    ends_due answered end (broke e) =
        subst (λ (s : DriveEnd). IsDue (player_of rules setting) (rules.amid setting) state bytes taken rest text at s unwritten broken) (sym e.fault)
        (record {
          lines = e.lines;
          read = e.read;
          words = e.words;
          said = ⊎_elim (λ said. inl said) (λ part. inr (part.0, record { before = answered; part = part.1 })) e.said;
          left = subst (λ (n : ℕ). broken n (line_behind e.lines bytes) (behind_lines (player_of rules setting) e.lines bytes state).store e.words) (number e.lines) e.left;
        })

  -- what was read and written so far
  pub record SoFar (setting : C) (state : S) (session : Session C S) (left0 left before after : Option (List ℕ)) : Type 0 where
    pub taken : List ℕ
    pub text : List ℕ
    pub took : Takes taken left0 left
    pub written : after ≡ with_back text before
    pub silent : session.player.text ≡ []
    pub goes : Goes rules taken text (fresh setting state) session

  module _ (setting : C) (state : S) (left0 before : Option (List ℕ)) where
    pub started : (session : Session C S) → session.player.setting ≡ setting → session.player.state ≡ state → session.player.text ≡ [] → session.count ≡ 0 → session.pending ≡ [] → SoFar setting state session left0 left0 before before
    started session is_setting is_state silent none empty = record {
      taken = [];
      text = [];
      took = takes_none left0;
      written = writes_none before;
      silent = silent;
      goes = subst (λ (s : Session C S). Goes rules [] [] (fresh setting state) s) (sym same) (goes_none rules (fresh setting state));
    }
      where
        same : session ≡ fresh setting state
        same =
            ap (λ (c : C). record { player = record { setting = c; state = session.player.state; text = session.player.text }; count = session.count; pending = session.pending }) is_setting
            ∙ ap (λ (s : S). record { player = record { setting = setting; state = s; text = session.player.text }; count = session.count; pending = session.pending }) is_state
            ∙ ap (λ (t : List ℕ). record { player = record { setting = setting; state = state; text = t }; count = session.count; pending = session.pending }) silent
            ∙ ap (λ (n : ℕ). record { player = record { setting = setting; state = state; text = [] }; count = n; pending = session.pending }) none
            ∙ ap (λ (b : List ℕ). record { player = record { setting = setting; state = state; text = [] }; count = 0; pending = b }) empty

    module _ (session : Session C S) (left after : Option (List ℕ)) (far : SoFar setting state session left0 left before after) where
      pub next : (piece : List ℕ) (left' after' : Option (List ℕ)) (session' : Session C S) → Takes piece left left' → PlaysPiece rules piece session session' after after' → SoFar setting state session' left0 left' before after'
      next piece left' after' session' took played = record {
        taken = far.taken ++ piece;
        text = far.text ++ played.text;
        took = takes_then far.taken piece left0 left left' far.took took;
        written = writes_then far.text played.text before after after' far.written played.written;
        silent = played.silent;
        goes = goes_then rules far.taken piece far.text played.text (fresh setting state) session session' far.goes played.goes;
      }

      module _ (whole : is_line session.pending ≡ true) (begun : 0 < length session.pending → session.count < 1000000) (short : length session.pending ≤ 65536) where
        -- what was read so far gives what was written so far
        so_far : run_so_far (player_of rules setting) state far.taken ≡ with_front far.text (with_front [] (passed session.player.state))
        so_far =
            let quiet : resumed rules false [] session ≡ with_front [] (passed session.player.state) =
            ap (λ (p : Played S). with_front session.player.text p)
            (play-begun (player_of rules session.player.setting) (session.count + 1) session.pending session.player.state whole (λ some. omega (arith, begun some)) short)
            ∙ ap (λ (t : List ℕ). with_front t (passed session.player.state)) far.silent in
            ap (λ (t : List ℕ). resumed rules false t (fresh setting state)) (sym (append-nil far.taken)) ∙ far.goes.whole false [] ∙ ap (with_front far.text) quiet

        module _ (at : S → Type 0) (broken : ℕ → List ℕ → S → List ℕ → Type 0) (unwritten unwritten' : Type 0) (to_unwritten : unwritten → unwritten') (end : DriveEnd) (piece : List ℕ) (left' after' : Option (List ℕ)) (took : Takes piece left left') where
          -- it ended in what was read last
          ended_in : length piece ≤ most_piece → (text : List ℕ) → after' ≡ with_back text after
              → (is_read : List ℕ → ℕ → Type 0) → ((rest : List ℕ) → left' ≡ Some rest → (k : ℕ) → is_read rest k → AreRead (k + far.goes.lines) (far.taken ++ piece) rest)
              → ((rest : List ℕ) → left' ≡ Some rest → Ends rules at broken unwritten (is_read rest) end (piece ++ rest) session text) → (bytes : List ℕ) → left0 ≡ Some bytes
              → Drives (player_of rules setting) (rules.amid setting) end state bytes left' before after' unwritten' at broken
          ended_in few text wrote is_read to_read ends bytes told =
              let over = left_of bytes (far.taken ++ piece) left0 left' told (takes_then far.taken piece left0 left left' far.took took) in
              record {
                taken = far.taken ++ piece;
                rest = over.rest;
                text = far.text ++ text;
                split = over.split;
                left_over = over.left_over;
                written = writes_then far.text text before after after' far.written wrote;
                due = ends_due at broken unwritten' setting state bytes (far.taken ++ piece) over.rest (far.text ++ text) (answered bytes over.rest) end
                    (subst (λ (b : List ℕ). Ends rules at broken unwritten' (λ k. AreRead k (far.taken ++ piece) over.rest) end b (fresh setting state) (far.text ++ text)) (sym (again bytes over.rest over.split))
                    (ends_then rules at at broken broken unwritten unwritten' (is_read over.rest) (λ k. AreRead k (far.taken ++ piece) over.rest) (λ s is. is) (λ n l s words is. is) to_unwritten
                    end far.taken (piece ++ over.rest) far.text text (fresh setting state) session far.goes (to_read over.rest over.left_over) (ends over.rest over.left_over)));
              }
            where
              answered : (bytes rest : List ℕ) → IsAnsweredBefore (player_of rules setting) (rules.amid setting) state bytes (far.taken ++ piece) rest (far.text ++ text) at
              answered bytes rest = record {
                before = far.taken;
                piece = piece;
                split = refl;
                short = few;
                answered = record { rest = text; split = ap (λ (t : List ℕ). t ++ text) (sym (ap (λ (p : Played S). p.text) so_far ∙ append-nil far.text)) };
              }

              again : (bytes rest : List ℕ) → bytes ≡ (far.taken ++ piece) ++ rest → bytes ≡ far.taken ++ (piece ++ rest)
              again bytes rest split = split ∙ append_assoc far.taken piece rest

          -- a piece ended it
          pub piece_in : length piece ≤ most_piece → EndsInPiece rules at broken unwritten end piece session after after' → (bytes : List ℕ) → left0 ≡ Some bytes
              → Drives (player_of rules setting) (rules.amid setting) end state bytes left' before after' unwritten' at broken
          piece_in few did bytes told =
              ended_in few did.text did.written (λ rest k. k ≤ line_ends piece) (λ rest is k low. inl (omega (arith, low, far.goes.ends, line_ends-append far.taken piece))) (λ rest is. did.ends rest) bytes told

          -- the end of the script was played
          done_at_end : piece ≡ [] → IsAtEnd left → EndsDone rules at end session after after' → (bytes : List ℕ) → left0 ≡ Some bytes
              → Drives (player_of rules setting) (rules.amid setting) end state bytes left' before after' unwritten' at broken
          done_at_end empty ends did bytes told =
              let here = left_of bytes far.taken left0 left told far.took in
              let none : here.rest ≡ [] = ends here.rest here.left_over in
              let is_whole : bytes ≡ far.taken ++ [] = here.split ∙ ap (λ (r : List ℕ). far.taken ++ r) none in
              let over = left_of bytes (far.taken ++ piece) left0 left' told (takes_then far.taken piece left0 left left' far.took took) in
              let all : run (player_of rules setting) state bytes ≡ with_front far.text (resumed rules true [] session) =
              ap (λ (l : List ℕ). resumed rules true l (fresh setting state)) is_whole ∙ far.goes.whole true [] in
              record {
                taken = far.taken ++ piece;
                rest = over.rest;
                text = far.text ++ did.text;
                split = over.split;
                left_over = over.left_over;
                written = writes_then far.text did.text before after after' far.written did.written;
                due = subst (λ (s : DriveEnd). IsDue (player_of rules setting) (rules.amid setting) state bytes (far.taken ++ piece) over.rest (far.text ++ did.text) at s unwritten' broken) (sym did.done) (
                  no_rest piece over.rest left left' took ends over.left_over,
                  record {
                    ends = ap (λ (p : Played S). p.stop) all ∙ did.finishes.stop;
                    said = ap (λ (p : Played S). p.text) all ∙ ap (λ (t : List ℕ). far.text ++ t) did.finishes.said;
                    left = subst at (sym (ap (λ (p : Played S). p.store) all)) did.finishes.left;
                  },
                );
              }

          -- the end of the script, either way
          pub last_in : piece ≡ [] → IsAtEnd left → EndsAtEnd rules at broken unwritten end session after after' → (bytes : List ℕ) → left0 ≡ Some bytes
              → Drives (player_of rules setting) (rules.amid setting) end state bytes left' before after' unwritten' at broken
          last_in empty ends (inl did) bytes told = done_at_end empty ends did bytes told
          last_in empty ends (inr did) bytes told =
              ended_in (subst (λ (p : List ℕ). length p ≤ most_piece) (sym empty) (omega arith)) did.text did.written
              (λ rest k. Unit {0}) (λ rest is k read. inr (no_rest piece rest left left' took ends is))
              (λ rest is. subst (λ (b : List ℕ). Ends rules at broken unwritten (λ _. Unit {0}) end b session did.text)
              (ap (λ (r : List ℕ). [] ++ r) (sym (no_rest piece rest left left' took ends is)) ∙ ap (λ (p : List ℕ). p ++ rest) (sym empty)) did.ends) bytes told

        -- a read that failed took nothing
        pub read_failed : (at : S → Type 0) (broken : ℕ → List ℕ → S → List ℕ → Type 0) (unwritten : Type 0) (left' : Option (List ℕ)) → left' ≡ left → at session.player.state → (bytes : List ℕ) → left0 ≡ Some bytes
            → Drives (player_of rules setting) (rules.amid setting) ReadFault state bytes left' before after unwritten at broken
        read_failed at broken unwritten left' same here bytes told =
            let rest = left_of bytes far.taken left0 left told far.took in
            record {
              taken = far.taken;
              rest = rest.rest;
              text = far.text;
              split = rest.split;
              left_over = same ∙ rest.left_over;
              written = far.written;
              due = record {
                ends = ap (λ (p : Played S). p.stop) so_far;
                said = ap (λ (p : Played S). p.text) so_far ∙ append-nil far.text;
                left = subst at (sym (ap (λ (p : Played S). p.store) so_far)) here;
              };
            }

    -- for want of memory nothing was read
    pub drives_none : (at : S → Type 0) (broken : ℕ → List ℕ → S → List ℕ → Type 0) (unwritten : Type 0) → at state → (bytes : List ℕ) → left0 ≡ Some bytes
        → Drives (player_of rules setting) (rules.amid setting) Memory state bytes left0 before before unwritten at broken
    unfolding play
    drives_none at broken unwritten here bytes told = record {
      taken = [];
      rest = bytes;
      text = [];
      split = refl;
      left_over = told;
      written = writes_none before;
      due = record { lines = 0; read = inl (omega arith); goes_on = refl; said = refl; left = inl here };
    }
