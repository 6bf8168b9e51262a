-- A step of a drive: what was played, and whether its answers were written.
use Rattle.std.proofs.Common.{◌≡◌, ◌⊎◌, ⊎_elim, inl, inr, ℕ, ◌≤◌, ◌+◌, List, [], ◌++◌, length, true, false, Option, Result, Ok, Err, OnOk, OnErr, IfErr, refl, sym, ap, subst, ◌∙◌, arith}
use Rattle.std.proofs.lemmas.List.{append-nil}
use Rattle.std.proofs.lemmas.List.{take_all}
use Rattle.cw_io.specs.Told.{with_back}
use Rattle.cw_io.specs.Written.{IsWrittenInPart}
use Rattle.cw_types.specs.declared.logs.DiskName.{DiskName}
use Rattle.cw_lines.specs.declared.end.DriveEnd.{DriveEnd}
use Rattle.cw_lines.specs.declared.end.DriveEnd.TheVariants.{Done, BadScript, TooLong, ReadFault, WriteFault}
use Rattle.cw_lines.specs.declared.end.DriveEnd.TheVariants.{StoreFault, OutletFault, Full, Memory}
use Rattle.cw_lines.specs.declared.player.LinePlayer.{Ghosts}
use Rattle.cw_lines.specs.Lines.{lines_of, line_ends}
use Rattle.cw_lines.specs.Plays.{Played, passed, with_front, play, IsPrefix}
use Rattle.cw_lines.specs.Players.{Rules, Playing, is_own, is_amid, player_of}
use Rattle.cw_lines.specs.Sessions.{Session, resumed, resumed_by, Goes, Ends, EndsIn, EndsLast, Finishes}
use Rattle.cw_lines.specs.Sessions.Ends.{own, amid, unsaid, broke}
use Rattle.cw_lines.specs.Drives.{stands, EndsInPiece, EndsBehind, after_tell}
use Rattle.cw_lines.proofs.EndLemmas.{prefix_then, prefix_same, ends_weaker}

-- writing leaves the player's state
module _ {P : Type 0} (p : Ghosts P) (told : Result (Unit {0}) DriveEnd) (mid new : P) where
  pub tell_at : OnOk told (p.playing new ≡ record (p.playing mid) { text = [] }) → OnOk told (p.alive mid → p.alive new) → OnErr told (new ≡ mid) → (s : p.State) → stands p mid s → stands p new s
  tell_at silent alive same s is = by told silent alive same
    where
      by : (told : Result (Unit {0}) DriveEnd) → OnOk told (p.playing new ≡ record (p.playing mid) { text = [] }) → OnOk told (p.alive mid → p.alive new) → OnErr told (new ≡ mid) → stands p new s
      by (Ok _) silent alive same = record { alive = alive is.alive; is = ap (λ (q : Playing p.Setting p.State). q.state) silent ∙ is.is }
      by (Err _) silent alive same = subst (λ (x : P). stands p x s) (sym same) is

  pub tell_broken : OnOk told ((n : ℕ) (l : List ℕ) (s : p.State) (words : List ℕ) → p.broken mid n l s words → p.broken new n l s words) → OnErr told (new ≡ mid)
      → (n : ℕ) (l : List ℕ) (s : p.State) (words : List ℕ) → p.broken mid n l s words → p.broken new n l s words
  tell_broken kept same n l s words is = by told kept same
    where
      by : (told : Result (Unit {0}) DriveEnd) → OnOk told ((n : ℕ) (l : List ℕ) (s : p.State) (words : List ℕ) → p.broken mid n l s words → p.broken new n l s words) → OnErr told (new ≡ mid) → p.broken new n l s words
      by (Ok _) kept same = kept n l s words is
      by (Err _) kept same = subst (λ (x : P). p.broken x n l s words) (sym same) is

-- which of two failures counts
pub record IsDisk (st told : DriveEnd) : Type 0 where
  pub disk : DiskName
  pub count : ℕ
  pub is : st ≡ StoreFault disk count
  pub result : after_tell (Err st) (Err told) ≡ Err st

pub record IsNoDisk (st told : DriveEnd) : Type 0 where
  pub calm : (disk : DiskName) (count : ℕ) → st ≡ StoreFault disk count → ⊥
  pub result : after_tell (Err st) (Err told) ≡ Err told

which : (st told : DriveEnd) → IsDisk st told ⊎ IsNoDisk st told
which (StoreFault disk count) told = inl (record { disk = disk; count = count; is = refl; result = refl })
which Done told = inr (record { calm = λ disk count is. cc; result = refl })
which (BadScript line kind) told = inr (record { calm = λ disk count is. cc; result = refl })
which (TooLong count) told = inr (record { calm = λ disk count is. cc; result = refl })
which ReadFault told = inr (record { calm = λ disk count is. cc; result = refl })
which WriteFault told = inr (record { calm = λ disk count is. cc; result = refl })
which OutletFault told = inr (record { calm = λ disk count is. cc; result = refl })
which (Full log length frame) told = inr (record { calm = λ disk count is. cc; result = refl })
which Memory told = inr (record { calm = λ disk count is. cc; result = refl })

after_ok : (st : DriveEnd) → after_tell (Err st) (Ok tt) ≡ Err st
after_ok (StoreFault disk count) = refl
after_ok Done = refl
after_ok (BadScript line kind) = refl
after_ok (TooLong count) = refl
after_ok ReadFault = refl
after_ok WriteFault = refl
after_ok OutletFault = refl
after_ok (Full log length frame) = refl
after_ok Memory = refl

-- how a step ended that ended so
pub ended_so : (r a : Result (Unit {0}) DriveEnd) (end : DriveEnd) → r ≡ a → r ≡ Err end → a ≡ Err end
ended_so r a end same is = sym same ∙ is

module _ {C S : Type 0} (rules : Rules C S) where
  -- a run that was cut is no longer
  pub steps_all : (bytes : List ℕ) (session : Session C S) → resumed_by rules (length (lines_of (session.pending ++ bytes))) bytes session ≡ resumed rules true bytes session
  steps_all bytes session =
      ap (λ (ls : List (List ℕ)). with_front session.player.text (play (player_of rules session.player.setting) true (session.count + 1) ls session.player.state))
      (take_all (length (lines_of (session.pending ++ bytes))) (lines_of (session.pending ++ bytes)) (omega arith))

  module _ (at : S → Type 0) (broken : ℕ → List ℕ → S → List ℕ → Type 0) (unwritten : Type 0) (is_read : ℕ → Type 0) (end : DriveEnd) (bytes : List ℕ) (session : Session C S) (text part : List ℕ)
      (begins : IsPrefix part text) (rose : unwritten) where
    part_of : (whole : List ℕ) → whole ≡ text → IsPrefix part whole
    part_of whole is = prefix_then part text whole begins (prefix_same text whole (sym is))

    -- answers of which a first part was written
    ends_unwritten : ((disk : DiskName) (count : ℕ) → end ≡ StoreFault disk count → ⊥) → Ends rules at broken ⊥ is_read end bytes session text → Ends rules at broken unwritten is_read WriteFault bytes session part
    ends_unwritten calm (own e) = unsaid (record { fault = refl; because = rose; lines = e.lines; read = e.read; part = part_of (resumed_by rules e.lines bytes session).text e.said_by; left = e.left_by })
    ends_unwritten calm (amid e) = unsaid (record { fault = refl; because = rose; lines = e.lines; read = e.read; part = part_of (resumed_by rules e.lines bytes session).text e.said; left = e.left })
    ends_unwritten calm (unsaid e) = absurd e.because
    ends_unwritten calm (broke e) = absurd (calm e.disk e.count e.fault)

    -- a disk failed, and writing failed too
    ends_both : (disk : DiskName) (count : ℕ) → end ≡ StoreFault disk count → Ends rules at broken ⊥ is_read end bytes session text → Ends rules at broken unwritten is_read end bytes session part
    ends_both disk count is (own e) = absurd (let wrong : true ≡ false = sym e.own ∙ ap is_own is in cc)
    ends_both disk count is (amid e) = absurd (let wrong : true ≡ false = sym e.because ∙ ap is_amid is in cc)
    ends_both disk count is (unsaid e) = absurd e.because
    ends_both disk count is (broke e) = broke (record {
      disk = e.disk;
      count = e.count;
      fault = e.fault;
      lines = e.lines;
      read = e.read;
      words = e.words;
      said = inr (rose, ⊎_elim (λ said. part_of ((resumed_by rules e.lines bytes session).text ++ e.words) said) (λ w. absurd w.0) e.said);
      left = e.left;
    })

  -- a step that was played up to a text, and told
  module _ (at at' : S → Type 0) (broken broken' : ℕ → List ℕ → S → List ℕ → Type 0) (to_at : (s : S) → at s → at' s) (to_broken : (n : ℕ) (l : List ℕ) (s : S) (words : List ℕ) → broken n l s words → broken' n l s words)
      (unwritten : Type 0) (old : Session C S) (before after : Option (List ℕ)) (text : List ℕ) where
    -- an end whose answers were written
    tell_ok : (is_read : ℕ → Type 0) (st : DriveEnd) (bytes : List ℕ) → Ends rules at broken ⊥ is_read st bytes old text → (end : DriveEnd) → after_tell (Err st) (Ok tt) ≡ Err end
        → Ends rules at' broken' unwritten is_read end bytes old text
    tell_ok is_read st bytes ends end is =
        let same : st ≡ end = let e : Err st ≡ Err end = sym (after_ok st) ∙ is in cc in
        subst (λ (s : DriveEnd). Ends rules at' broken' unwritten is_read s bytes old text) same
        (ends_weaker rules at at' broken broken' unwritten is_read st bytes text old to_at to_broken ends)

    -- and one of whose answers a first part was written
    tell_err : (is_read : ℕ → Type 0) (st told : DriveEnd) (bytes : List ℕ) → Ends rules at broken ⊥ is_read st bytes old text → (part : List ℕ) → IsPrefix part text → unwritten → told ≡ WriteFault
        → (end : DriveEnd) → after_tell (Err st) (Err told) ≡ Err end → Ends rules at' broken' unwritten is_read end bytes old part
    tell_err is_read st told bytes ends part begins rose fault end is =
        let weaker = ends_weaker rules at at' broken broken' ⊥ is_read st bytes text old to_at to_broken ends in
        ⊎_elim
        (λ (w : IsDisk st told).
        let same : st ≡ end = let e : Err st ≡ Err end = sym w.result ∙ is in cc in
        subst (λ (s : DriveEnd). Ends rules at' broken' unwritten is_read s bytes old part) same
        (ends_both at' broken' unwritten is_read st bytes old text part begins rose w.disk w.count w.is weaker))
        (λ (w : IsNoDisk st told).
        let same : WriteFault ≡ end = let e : Err told ≡ Err end = sym w.result ∙ is in cc in
        subst (λ (s : DriveEnd). Ends rules at' broken' unwritten is_read s bytes old part) same
        (ends_unwritten at' broken' unwritten is_read st bytes old text part begins rose w.calm weaker))
        (which st told)

    -- answers of a piece that was played, of which a first part was written
    go_unwritten : (mid : Session C S) → mid.player.text ≡ text → at mid.player.state → (piece part : List ℕ) → Goes rules piece [] old mid → IsPrefix part text → unwritten
        → EndsIn rules at' broken' unwritten WriteFault piece old part
    unfolding play
    go_unwritten mid same here piece part goes begins rose more =
        let so : resumed_by rules goes.lines (piece ++ more) old ≡ with_front mid.player.text (passed mid.player.state) =
        ap (λ (n : ℕ). resumed_by rules n (piece ++ more) old) (let none : goes.lines ≡ 0 + goes.lines = omega arith in none) ∙ goes.steps 0 more in
        unsaid (record {
          fault = refl;
          because = rose;
          lines = goes.lines;
          read = omega (arith, goes.ends);
          part = prefix_then part text (resumed_by rules goes.lines (piece ++ more) old).text begins
              (prefix_same text (resumed_by rules goes.lines (piece ++ more) old).text (sym (ap (λ (p : Played S). p.text) so ∙ append-nil mid.player.text ∙ same)));
          left = inl (to_at _ (subst at (sym (ap (λ (p : Played S). p.store) so)) here));
        })

    finish_unwritten : (part : List ℕ) → Finishes rules at old text → IsPrefix part text → unwritten → EndsLast rules at' broken' unwritten WriteFault old part
    finish_unwritten part done begins rose = unsaid (record {
      fault = refl;
      because = rose;
      lines = length (lines_of (old.pending ++ []));
      read = tt;
      part = prefix_then part text (resumed_by rules (length (lines_of (old.pending ++ []))) [] old).text begins
          (prefix_same text _ (sym done.said ∙ sym (ap (λ (p : Played S). p.text) (steps_all [] old))));
      left = inl (to_at _ (subst at (sym (ap (λ (p : Played S). p.store) (steps_all [] old))) done.left));
    })

    -- a piece that ended the drive
    pub fed_then : (mid : Session C S) → mid.player.text ≡ text → (piece : List ℕ) (fed told : Result (Unit {0}) DriveEnd) → OnOk fed (Goes rules piece [] old mid) → OnOk fed (at mid.player.state)
        → IfErr fed (λ end. EndsIn rules at broken ⊥ end piece old text)
        → OnOk told (after ≡ with_back text before) → OnErr told (IsWrittenInPart text before after) → OnErr told unwritten → IfErr told (λ end. end ≡ WriteFault)
        → (end : DriveEnd) → after_tell fed told ≡ Err end → EndsInPiece rules at' broken' unwritten end piece old before after
    fed_then mid same piece (Ok _) (Ok _) go here stop whole part rose fault end is = absurd (let wrong : Ok tt ≡ Err end = is in cc)
    fed_then mid same piece (Ok _) (Err s) go here stop whole part rose fault end is =
        let so : WriteFault ≡ end = let e : Err s ≡ Err end = is in cc in
        record {
          text = part.part;
          written = part.added;
          ends = subst (λ (t : DriveEnd). EndsIn rules at' broken' unwritten t piece old part.part) so
              (go_unwritten mid same here piece part.part go (record { rest = part.rest; split = part.split }) rose);
        }
    fed_then mid same piece (Err st) (Ok _) go here stop whole part rose fault end is =
        record { text = text; written = whole; ends = λ more. tell_ok (λ k. k ≤ line_ends piece) st (piece ++ more) (stop more) end is }
    fed_then mid same piece (Err st) (Err s) go here stop whole part rose fault end is = record {
      text = part.part;
      written = part.added;
      ends = λ more. tell_err (λ k. k ≤ line_ends piece) st s (piece ++ more) (stop more) part.part (record { rest = part.rest; split = part.split }) rose fault end is;
    }

    -- the end of the script that ended it
    pub finished_then : (finished told : Result (Unit {0}) DriveEnd) → OnOk finished (Finishes rules at old text) → IfErr finished (λ end. EndsLast rules at broken ⊥ end old text)
        → OnOk told (after ≡ with_back text before) → OnErr told (IsWrittenInPart text before after) → OnErr told unwritten → IfErr told (λ end. end ≡ WriteFault)
        → (end : DriveEnd) → after_tell finished told ≡ Err end → EndsBehind rules at' broken' unwritten end old before after
    finished_then (Ok _) (Ok _) go stop whole part rose fault end is = absurd (let wrong : Ok tt ≡ Err end = is in cc)
    finished_then (Ok _) (Err s) go stop whole part rose fault end is =
        let so : WriteFault ≡ end = let e : Err s ≡ Err end = is in cc in
        record {
          text = part.part;
          written = part.added;
          ends = subst (λ (t : DriveEnd). EndsLast rules at' broken' unwritten t old part.part) so (finish_unwritten part.part go (record { rest = part.rest; split = part.split }) rose);
        }
    finished_then (Err st) (Ok _) go stop whole part rose fault end is = record { text = text; written = whole; ends = tell_ok (λ _. Unit {0}) st [] stop end is }
    finished_then (Err st) (Err s) go stop whole part rose fault end is = record {
      text = part.part;
      written = part.added;
      ends = tell_err (λ _. Unit {0}) st s [] stop part.part (record { rest = part.rest; split = part.split }) rose fault end is;
    }
