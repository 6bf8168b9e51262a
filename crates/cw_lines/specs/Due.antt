-- What is due of a run of a script, by how it ended: the text that was written, and the state that is left. Said over
-- any state and any player of a line. This project's own rule.
use Rattle.std.specs.Prelude.{◌≡◌, ◌≤◌, ◌⊎◌, ℕ, ◌+◌, List, [], ◌++◌, length, Option, Some, None}
use Rattle.cw_types.specs.Faults.{Rose}
use Rattle.cw_io.specs.Told.{with_back}
use Rattle.cw_io.specs.declared.traits.Source.{Ghosts as Input}
use Rattle.cw_io.specs.declared.traits.Sink.{Ghosts as Output}
use Rattle.cw_lines.specs.declared.end.DriveEnd.{DriveEnd}
use Rattle.cw_lines.specs.declared.end.DriveEnd.TheVariants.{Done, BadScript, TooLong, ReadFault, WriteFault}
use Rattle.cw_lines.specs.declared.end.DriveEnd.TheVariants.{StoreFault, OutletFault, Full, Memory}
use Rattle.cw_lines.specs.Lines.{line_ends}
use Rattle.cw_lines.specs.Plays.{Played, LinePlayer, IsPrefix, run, run_so_far, behind_lines, line_behind}
use Rattle.cw_lines.specs.Players.{Amid}

-- the most bytes that are read at once
abbrev pub most_piece : ℕ
most_piece = 65536

-- so many lines were read whole; the last of the input may lack its end
abbrev pub AreRead : ℕ → (taken rest : List ℕ) → Type 0
AreRead lines taken rest = (lines ≤ line_ends taken) ⊎ (rest ≡ [])

-- what was played gave this text and ended so, and its state is the one that is left
pub record Plays {S : Type 0} (played : Played S) (stop : Option DriveEnd) (text : List ℕ)
    (at : S → Type 0) : Type 0 where
  pub ends : played.stop ≡ stop
  pub said : played.text ≡ text
  pub left : at played.store

-- a run: who plays its lines, where a line may be left on its way, from which state, over which bytes, of which some
-- were taken, the text that was written, and what is left
module _ {S : Type 0} (player : LinePlayer S) (amid : Amid S) (state : S) (bytes taken rest text : List ℕ)
    (at : S → Type 0) where
  -- all that was read before the last piece is answered
  pub record IsAnsweredBefore : Type 0 where
    pub before : List ℕ
    pub piece : List ℕ
    pub split : taken ≡ before ++ piece
    pub short : length piece ≤ most_piece
    pub answered : IsPrefix (run_so_far player state before).text text

  -- and a first part of these answers is written
  pub record SaysInPart (whole : List ℕ) : Type 0 where
    pub before : IsAnsweredBefore
    pub part : IsPrefix text whole

  -- the line behind so many was left on its way
  pub record LeavesNext (lines : ℕ) : Type 0 where
    pub read : AreRead (lines + 1) taken rest
    pub to : S
    pub on_way : amid (lines + 1) (line_behind lines bytes) (behind_lines player lines bytes state).store to
    pub left : at to

  -- the state behind some lines is left, or that where the next was on its way
  abbrev pub Leaves : ℕ → Type 0
  Leaves lines = at (behind_lines player lines bytes state).store ⊎ LeavesNext lines

  -- want of memory, or of a place for what is handed out: the answers behind some lines, whole
  pub record EndsAmid : Type 0 where
    pub lines : ℕ
    pub read : AreRead lines taken rest
    pub goes_on : (behind_lines player lines bytes state).stop ≡ None
    pub said : (behind_lines player lines bytes state).text ≡ text
    pub left : Leaves lines

  -- a failed write: a first part of the answers, and no line was begun behind those that were read
  pub record EndsUnwritten : Type 0 where
    pub lines : ℕ
    pub read : AreRead lines taken rest
    pub said : SaysInPart (behind_lines player lines bytes state).text
    pub left : Leaves lines

  -- a failed disk: the answers behind some lines and some last words, or where writing failed too a first part of them;
  -- and what is left where a disk failed in the next line
  pub record EndsBroken (unwritten : Type 0) (broken : ℕ → List ℕ → S → List ℕ → Type 0) : Type 0 where
    pub lines : ℕ
    pub read : AreRead (lines + 1) taken rest
    pub words : List ℕ
    pub said : ((behind_lines player lines bytes state).text ++ words ≡ text) ⊎
        (unwritten × SaysInPart ((behind_lines player lines bytes state).text ++ words))
    pub left : broken (lines + 1) (line_behind lines bytes) (behind_lines player lines bytes state).store words

  -- what is due at each end: at Done all answers, at a line's fault or a full log those before it, at a failed read
  -- those to all lines that were read
  abbrev pub IsDue : DriveEnd → (unwritten : Type 0) → (broken : ℕ → List ℕ → S → List ℕ → Type 0) → Type 0
  IsDue Done unwritten broken = (rest ≡ []) × Plays (run player state bytes) None text at
  IsDue (BadScript line kind) unwritten broken = Plays (run player state bytes) (Some (BadScript line kind)) text at
  IsDue (TooLong count) unwritten broken = Plays (run player state bytes) (Some (TooLong count)) text at
  IsDue (Full log size frame) unwritten broken = Plays (run player state bytes) (Some (Full log size frame)) text at
  IsDue ReadFault unwritten broken = Plays (run_so_far player state taken) None text at
  IsDue WriteFault unwritten broken = EndsUnwritten
  IsDue Memory unwritten broken = EndsAmid
  IsDue OutletFault unwritten broken = EndsAmid
  IsDue (StoreFault disk count) unwritten broken = EndsBroken unwritten broken

-- a run that took some of the bytes and wrote what was due
pub record Drives {S : Type 0} (player : LinePlayer S) (amid : Amid S) (end : DriveEnd) (state : S) (bytes : List ℕ)
    (left held_before held_after : Option (List ℕ)) (unwritten : Type 0) (at : S → Type 0)
    (broken : ℕ → List ℕ → S → List ℕ → Type 0) : Type 0 where
  pub taken : List ℕ
  pub rest : List ℕ
  pub text : List ℕ
  pub split : bytes ≡ taken ++ rest
  pub left_over : left ≡ Some rest
  pub written : held_after ≡ with_back text held_before
  pub due : IsDue player amid state bytes taken rest text at end unwritten broken

-- the same over an input that tells what it has left, and an output
abbrev pub DrivesOver : {S I O : Type 0} → Input I → Output O → LinePlayer S → Amid S → DriveEnd → S →
    (in_old in_new : I) → (out_old out_new : O) → (at : S → Type 0) →
    (broken : ℕ → List ℕ → S → List ℕ → Type 0) → Type 0
DrivesOver i o player amid end state in_old in_new out_old out_new at broken =
    (bytes : List ℕ) → i.left in_old ≡ Some bytes →
    Drives player amid end state bytes (i.left in_new) (o.held out_old) (o.held out_new)
    (Rose (o.faults out_old) (o.faults out_new)) at broken
