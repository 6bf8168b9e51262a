-- A session is a script in the middle of its run: what it has still to play, and what that gives together with the
-- answers that it holds. This project's own rule.
use Rattle.std.specs.Prelude.{◌≡◌, ◌⊎◌, ◌≤◌, ℕ, ◌+◌, Bool, true, List, [], ◌++◌, Some, None, take}
use Rattle.cw_types.specs.declared.logs.DiskName.{DiskName}
use Rattle.cw_lines.specs.declared.end.DriveEnd.{DriveEnd}
use Rattle.cw_lines.specs.declared.end.DriveEnd.TheVariants.{WriteFault, StoreFault}
use Rattle.cw_lines.specs.Lines.{lines_of, line_ends}
use Rattle.cw_lines.specs.Plays.{Played, IsPrefix, with_front, play, line_behind}
use Rattle.cw_lines.specs.Players.{Rules, player_of, Playing, is_own, is_amid}

-- who plays, how many lines are done, and the bytes behind them, as far as they are read
pub record Session (C S : Type 0) : Type 0 where
  pub player : Playing C S
  pub count : ℕ
  pub pending : List ℕ

module _ {C S : Type 0} (rules : Rules C S) where
  -- the answers that it holds, and those of the bytes that come
  abbrev pub resumed : Bool → List ℕ → Session C S → Played S
  resumed ended more session =
      with_front session.player.text
      (play (player_of rules session.player.setting) ended (session.count + 1) (lines_of (session.pending ++ more))
      session.player.state)

  -- the same of so many lines more
  abbrev pub resumed_by : ℕ → List ℕ → Session C S → Played S
  resumed_by k more session =
      with_front session.player.text
      (play (player_of rules session.player.setting) true (session.count + 1)
      (take k (lines_of (session.pending ++ more))) session.player.state)

  -- bytes were taken and a text was written: what is left gives the rest, behind any bytes that come and any lines
  pub record Goes (piece text : List ℕ) (old new : Session C S) : Type 0 where
    pub whole : (ended : Bool) (more : List ℕ) → resumed ended (piece ++ more) old ≡ with_front text
        (resumed ended more new)
    pub lines : ℕ
    pub ends : lines ≡ line_ends piece
    pub steps : (k : ℕ) (more : List ℕ) → resumed_by (k + lines) (piece ++ more) old ≡ with_front text
        (resumed_by k more new)
    pub nexts : (k : ℕ) (more : List ℕ) → line_behind (k + lines) (old.pending ++ (piece ++ more)) ≡
        line_behind k (new.pending ++ more)
    pub count : new.count ≡ old.count + lines
    pub setting : new.player.setting ≡ old.player.setting

  -- what is left at the end of a run: by which lines were read, over which bytes
  module _ (at : S → Type 0) (is_read : ℕ → Type 0) (bytes : List ℕ) (session : Session C S) where
    -- the next line was left on its way
    pub record LeavesNext (lines : ℕ) : Type 0 where
      pub read : is_read (lines + 1)
      pub to : S
      pub amid : rules.amid session.player.setting (session.count + lines + 1)
          (line_behind lines (session.pending ++ bytes)) (resumed_by lines bytes session).store to
      pub left : at to

    -- the state behind some lines, or the next was left on its way
    abbrev pub Leaves : ℕ → Type 0
    Leaves lines = at (resumed_by lines bytes session).store ⊎ LeavesNext lines

  -- how a run ended: also by what is left where a disk failed, whether writing failed too, and the text
  module _ (at : S → Type 0) (broken : ℕ → List ℕ → S → List ℕ → Type 0) (unwritten : Type 0) (is_read : ℕ → Type 0)
      (end : DriveEnd) (bytes : List ℕ) (session : Session C S) (text : List ℕ) where
    -- a line ended the script by what it says: all answers before it, which are those behind some lines that were read
    pub record EndsOwn : Type 0 where
      pub own : is_own end ≡ true
      pub stop : (resumed true bytes session).stop ≡ Some end
      pub said : (resumed true bytes session).text ≡ text
      pub left : at (resumed true bytes session).store
      pub lines : ℕ
      pub read : is_read lines
      pub said_by : (resumed_by lines bytes session).text ≡ text
      pub left_by : Leaves at is_read bytes session lines

    -- a line couldn't be played to its end: the answers behind some lines
    pub record EndsAmid : Type 0 where
      pub because : is_amid end ≡ true
      pub lines : ℕ
      pub read : is_read lines
      pub goes_on : (resumed_by lines bytes session).stop ≡ None
      pub said : (resumed_by lines bytes session).text ≡ text
      pub left : Leaves at is_read bytes session lines

    -- a failed write: a first part of the answers behind some lines
    pub record EndsUnsaid : Type 0 where
      pub fault : end ≡ WriteFault
      pub because : unwritten
      pub lines : ℕ
      pub read : is_read lines
      pub part : IsPrefix text (resumed_by lines bytes session).text
      pub left : Leaves at is_read bytes session lines

    -- a disk failed: the answers behind some lines and some last words, or where writing failed too a first part
    pub record EndsBroken : Type 0 where
      pub disk : DiskName
      pub count : ℕ
      pub fault : end ≡ StoreFault disk count
      pub lines : ℕ
      pub read : is_read (lines + 1)
      pub words : List ℕ
      pub said : ((resumed_by lines bytes session).text ++ words ≡ text) ⊎
          (unwritten × IsPrefix text ((resumed_by lines bytes session).text ++ words))
      pub left : broken (session.count + lines + 1) (line_behind lines (session.pending ++ bytes))
          (resumed_by lines bytes session).store words

    -- before the script did
    pub data Ends : Type 0 where
      own : EndsOwn → Ends
      amid : EndsAmid → Ends
      unsaid : EndsUnsaid → Ends
      broke : EndsBroken → Ends

  -- the same in a piece of the script, whatever comes behind it
  abbrev pub EndsIn : (at : S → Type 0) → (broken : ℕ → List ℕ → S → List ℕ → Type 0) → (unwritten : Type 0) →
      DriveEnd → (piece : List ℕ) → Session C S → (text : List ℕ) → Type 0
  EndsIn at broken unwritten end piece session text =
      (more : List ℕ) → Ends at broken unwritten (λ k. k ≤ line_ends piece) end (piece ++ more) session text

  -- the same at the end of the script
  abbrev pub EndsLast : (at : S → Type 0) → (broken : ℕ → List ℕ → S → List ℕ → Type 0) → (unwritten : Type 0) →
      DriveEnd → Session C S → (text : List ℕ) → Type 0
  EndsLast at broken unwritten end session text = Ends at broken unwritten (λ _. Unit {0}) end [] session text

  -- the script was played to its end
  pub record Finishes (at : S → Type 0) (session : Session C S) (text : List ℕ) : Type 0 where
    pub stop : (resumed true [] session).stop ≡ None
    pub said : (resumed true [] session).text ≡ text
    pub left : at (resumed true [] session).store
