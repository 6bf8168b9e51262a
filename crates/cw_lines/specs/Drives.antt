-- What a step of a drive did: the text that it wrote, and what is left to play. This project's own rule.
use Rattle.std.specs.Prelude.{◌≡◌, ◌≤◌, ◌<◌, ◌⊎◌, ◌*◌, ◌+◌, ◌-◌, ℕ, List, [], Option, Result, Ok, Err, vec_len}
use Rattle.cw_io.specs.Told.{with_back}
use Rattle.cw_lines.specs.declared.end.DriveEnd.{DriveEnd}
use Rattle.cw_lines.specs.declared.end.DriveEnd.TheVariants.{Done, TooLong, StoreFault, Memory}
use Rattle.cw_lines.specs.declared.reading.Reading.{Reading}
use Rattle.cw_lines.specs.declared.player.LinePlayer.{Ghosts}
use Rattle.cw_lines.specs.Plays.{most_lines, most_bytes}
use Rattle.cw_lines.specs.Players.{Rules, IsAt}
use Rattle.cw_lines.specs.Sessions.{Session, Goes, EndsIn, EndsLast, Finishes}

-- a player with the lines that are cut for it, as a session
abbrev pub session_of : {P : Type 0} → (p : Ghosts P) → P → Reading → Session p.Setting p.State
session_of p player reading = record {
  player = p.playing player;
  count = reading.count;
  pending = reading.pending.items;
}

-- the player can play on, and this is its state
abbrev pub stands : {P : Type 0} → (p : Ghosts P) → P → p.State → Type 0
stands p player state = IsAt (p.alive player) (p.playing player) state

-- how many bytes may still be taken before a limit ends it
abbrev pub room : Reading → ℕ
room reading = (1000000 - reading.count) * 65537 + (65536 - vec_len reading.pending)

-- why bytes aren't taken of a line that has begun: the line is one too many, it is too long, or want of memory
pub data IsNotHeld (count pending tail : ℕ) (end : DriveEnd) : Type 0 where
  many : 0 < tail → most_lines ≤ count → end ≡ TooLong (most_lines + 1) → IsNotHeld count pending tail end
  long : 0 < tail → count < most_lines → most_bytes < pending + tail → end ≡ TooLong (most_bytes + 1) →
      IsNotHeld count pending tail end
  wanted : end ≡ Memory → IsNotHeld count pending tail end

-- a piece of the script was played and its answers were written
pub record PlaysPiece {C S : Type 0} (rules : Rules C S) (piece : List ℕ) (old new : Session C S)
    (before after : Option (List ℕ)) : Type 0 where
  pub text : List ℕ
  pub written : after ≡ with_back text before
  pub silent : new.player.text ≡ []
  pub goes : Goes rules piece text old new

-- a piece of the script ended the drive
pub record EndsInPiece {C S : Type 0} (rules : Rules C S) (at : S → Type 0)
    (broken : ℕ → List ℕ → S → List ℕ → Type 0) (unwritten : Type 0) (end : DriveEnd) (piece : List ℕ)
    (old : Session C S) (before after : Option (List ℕ)) : Type 0 where
  pub text : List ℕ
  pub written : after ≡ with_back text before
  pub ends : EndsIn rules at broken unwritten end piece old text

-- the end of the script was played, and its answers were written
pub record EndsDone {C S : Type 0} (rules : Rules C S) (at : S → Type 0) (end : DriveEnd) (old : Session C S)
    (before after : Option (List ℕ)) : Type 0 where
  pub text : List ℕ
  pub written : after ≡ with_back text before
  pub done : end ≡ Done
  pub finishes : Finishes rules at old text

-- it ended the drive
pub record EndsBehind {C S : Type 0} (rules : Rules C S) (at : S → Type 0)
    (broken : ℕ → List ℕ → S → List ℕ → Type 0) (unwritten : Type 0) (end : DriveEnd)
    (old : Session C S) (before after : Option (List ℕ)) : Type 0 where
  pub text : List ℕ
  pub written : after ≡ with_back text before
  pub ends : EndsLast rules at broken unwritten end old text

-- the end of the script, either way
abbrev pub EndsAtEnd : {C S : Type 0} → (rules : Rules C S) → (at : S → Type 0) →
    (broken : ℕ → List ℕ → S → List ℕ → Type 0) → (unwritten : Type 0) → DriveEnd → (old : Session C S) →
    (before after : Option (List ℕ)) → Type 0
EndsAtEnd rules at broken unwritten end old before after =
    EndsDone rules at end old before after ⊎ EndsBehind rules at broken unwritten end old before after

-- how a step ended: as playing did where a disk failed, else as writing did where that failed
abbrev pub after_tell : (played told : Result (Unit {0}) DriveEnd) → Result (Unit {0}) DriveEnd
after_tell (Err (StoreFault disk count)) told = Err (StoreFault disk count)
after_tell played (Err end) = Err end
after_tell played (Ok _) = played
