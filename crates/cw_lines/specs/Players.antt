-- What a call of a player of lines did: it played a line, ended the script, left the line on its way, or a disk failed
-- in it. This project's own rule.
use Rattle.std.specs.Prelude.{◌≡◌, ◌≤◌, ℕ, List, [], ◌++◌, Bool, true, false, Some, None}
use Rattle.cw_types.specs.Faults.{Rose}
use Rattle.cw_types.specs.declared.logs.DiskName.{DiskName}
use Rattle.cw_lines.specs.declared.end.DriveEnd.{DriveEnd}
use Rattle.cw_lines.specs.declared.end.DriveEnd.TheVariants.{Done, BadScript, TooLong, ReadFault, WriteFault}
use Rattle.cw_lines.specs.declared.end.DriveEnd.TheVariants.{StoreFault, OutletFault, Full, Memory}
use Rattle.cw_lines.specs.Plays.{Played, LinePlayer, limited, passed}

-- where a line of this number may be left on its way: from one state, in another
abbrev pub Amid : Type 0 → Type 1
Amid S = ℕ → List ℕ → S → S → Type 0

-- whether a script ends so by what one of its lines says
abbrev pub is_own : DriveEnd → Bool
is_own Done = false
is_own (BadScript line kind) = true
is_own (TooLong count) = true
is_own ReadFault = false
is_own WriteFault = false
is_own (StoreFault disk count) = false
is_own OutletFault = false
is_own (Full log length frame) = true
is_own Memory = false

-- whether it ends so since a line couldn't be played to its end
abbrev pub is_amid : DriveEnd → Bool
is_amid Done = false
is_amid (BadScript line kind) = false
is_amid (TooLong count) = false
is_amid ReadFault = false
is_amid WriteFault = false
is_amid (StoreFault disk count) = false
is_amid OutletFault = true
is_amid (Full log length frame) = false
is_amid Memory = true

-- the counts of faults of a player's disks, and of the outlet that it hands to
pub record Faults : Type 0 where
  pub disks : DiskName → ℕ
  pub outlet : ℕ

-- no count fell
pub record NoneFell (old new : Faults) : Type 0 where
  pub disks : (disk : DiskName) → old.disks disk ≤ new.disks disk
  pub outlet : old.outlet ≤ new.outlet

-- the disk's count is this, and it rose
pub record HasRisen (before now count : ℕ) : Type 0 where
  pub rose : Rose before now
  pub is : count ≡ now

-- what is so at each end that a fault is told by: at a failed read, at a failed write, and else which count rose
abbrev pub Caused : (read written : Type 0) → (old new : Faults) → DriveEnd → Type 0
Caused read written old new ReadFault = read
Caused read written old new WriteFault = written
Caused read written old new (StoreFault disk count) = HasRisen (old.disks disk) (new.disks disk) count
Caused read written old new OutletFault = Rose old.outlet new.outlet
Caused read written old new Done = Unit {0}
Caused read written old new (BadScript line kind) = Unit {0}
Caused read written old new (TooLong count) = Unit {0}
Caused read written old new (Full log length frame) = Unit {0}
Caused read written old new Memory = Unit {0}

-- what the lines of a script do, by what their player is set to: each within the limits; an empty one is passed over;
-- and where a line may be left on its way
pub record Rules (C S : Type 0) : Type 1 where
  pub does : C → LinePlayer S
  pub amid : C → Amid S
  pub passes : (setting : C) (number : ℕ) (state : S) → does setting number [] state ≡ passed state

-- what plays any line
abbrev pub player_of : {C S : Type 0} → Rules C S → C → LinePlayer S
player_of rules setting = limited (rules.does setting)

-- what clauses see of a player: what it is set to, its state, and the text of the answers that it holds
pub record Playing (C S : Type 0) : Type 0 where
  pub setting : C
  pub state : S
  pub text : List ℕ

-- it played what doesn't end the script
pub record HasPlayed {C S : Type 0} (played : Played S) (old new : Playing C S) : Type 0 where
  pub goes_on : played.stop ≡ None
  pub setting : new.setting ≡ old.setting
  pub state : new.state ≡ played.store
  pub text : new.text ≡ old.text ++ played.text

-- it can play on, and this is its state
pub record IsAt {C S : Type 0} (lives : Type 0) (player : Playing C S) (state : S) : Type 0 where
  pub alive : lives
  pub is : player.state ≡ state

-- it played what ends the script so, and says nothing
pub record HasEnded {C S : Type 0} (end : DriveEnd) (amid : S → S → Type 0) (at : S → Type 0) (played : Played S)
    (old : Playing C S) (text : List ℕ) : Type 0 where
  pub own : is_own end ≡ true
  pub stop : played.stop ≡ Some end
  pub silent : played.text ≡ []
  pub left : at played.store
  pub amid_it : amid old.state played.store
  pub said : text ≡ old.text

-- it left the line on its way, and said nothing
pub record HasLeft {C S : Type 0} (end : DriveEnd) (amid : S → S → Type 0) (at : S → Type 0)
    (old : Playing C S) (text : List ℕ) : Type 0 where
  pub because : is_amid end ≡ true
  pub to : S
  pub left : at to
  pub amid_it : amid old.state to
  pub said : text ≡ old.text

-- a disk failed in the line: some last words were said, and this is left
pub record HasFailed {C S : Type 0} (end : DriveEnd) (broken : S → List ℕ → Type 0)
    (old : Playing C S) (text : List ℕ) : Type 0 where
  pub disk : DiskName
  pub count : ℕ
  pub fault : end ≡ StoreFault disk count
  pub words : List ℕ
  pub said : text ≡ old.text ++ words
  pub left : broken old.state words

-- how it stopped
pub data HasStopped {C S : Type 0} (end : DriveEnd) (amid : S → S → Type 0) (at : S → Type 0)
    (broken : S → List ℕ → Type 0) (played : Played S) (old : Playing C S) (text : List ℕ) : Type 0 where
  ended : HasEnded end amid at played old text → HasStopped end amid at broken played old text
  left : HasLeft end amid at old text → HasStopped end amid at broken played old text
  failed : HasFailed end broken old text → HasStopped end amid at broken played old text
