-- What is found in a log's bodies, as they are shown one by one while its file is read: a frame of each and where its
-- gate stands, or the gate of the first that can't be read. This project's own.
use Rattle.std.specs.Prelude.{◌≡◌, ◌≢◌, ℕ, ◌+◌, ◌<◌, ◌≤◌, List, [], ◌∷◌, ◌++◌, length, take, slice_index_or, Option}
use Rattle.std.specs.Prelude.{Some, None, Result, MatchResult}
use Rattle.std.specs.List.{AllByRecursion}
use Rattle.cw_bytes.specs.declared.body.BodyFault.{BodyFault}
use Rattle.cw_bytes.specs.declared.body.BodyFault.TheVariants.{Memory}
use Rattle.cw_bytes.specs.Unread.{Unread, AreBytes}
use Rattle.cw_bytes.specs.Reading.{Read, body_at}
use Rattle.cw_log.specs.Log.{length_of}
use Rattle.cw_model.specs.StandsFor.{AreReadAs, IsFirstLacking, IsReadable}

-- what a call answers that reads a body; want of memory may come instead
abbrev pub Answers : {A : Type 0} → (Unread → Read A) → List ℕ → Result A BodyFault → Type 0
Answers at body result =
    MatchResult result (λ frame. body_at at body ≡ Some frame) (λ fault. fault ≢ Memory → body_at at body ≡ None)

-- the gate of the frame of this number stands here: it ends the log of the bodies before it
abbrev pub StandsAt : List (List ℕ) → (number gate : ℕ) → Type 0
StandsAt bodies number gate = gate + 1 ≡ length_of (take number bodies)

-- where the gate of each frame stands
pub record AreGates (bodies : List (List ℕ)) (gates : List ℕ) : Type 0 where
  pub count : length gates ≡ length bodies
  pub each : (number : ℕ) → number < length bodies → StandsAt bodies number (slice_index_or gates number 0)

-- all bodies are read as these frames, and their gates stand here
pub record AreFound
    {A : Type 0} (at : Unread → Read A) (frames : List A) (gates : List ℕ) (bodies : List (List ℕ)) : Type 0 where
  pub read : AreReadAs at bodies frames
  pub places : AreGates bodies gates

-- the first body that can't be read, and where its gate stands
pub record IsFirstUnread {A : Type 0} (at : Unread → Read A) (gate : ℕ) (bodies : List (List ℕ)) : Type 0 where
  pub number : ℕ
  pub first : IsFirstLacking (IsReadable at) bodies number
  pub place : StandsAt bodies number gate

-- what was found in the bodies
abbrev pub HasFound : {A : Type 0} → (Unread → Read A) → (frames : List A) → (gates : List ℕ) → (unread : Option ℕ) →
    List (List ℕ) → Type 0
HasFound at frames gates None bodies = AreFound at frames gates bodies
HasFound at frames gates (Some gate) bodies = IsFirstUnread at gate bodies

-- one body more, whose gate stands here
abbrev pub FindsMore : {A : Type 0} → (Unread → Read A) → (body : List ℕ) → (gate : ℕ) → (old : List A) →
    (old_gates : List ℕ) → (before : Option ℕ) → (new : List A) → (new_gates : List ℕ) → (behind : Option ℕ) → Type 0
FindsMore at body gate old old_gates before new new_gates behind =
    (bodies : List (List ℕ)) → gate + 1 ≡ length_of bodies → HasFound at old old_gates before bodies →
    HasFound at new new_gates behind (bodies ++ body ∷ [])

-- what was found; of how many bodies, and how long their log is
pub record FoundState (A : Type 0) : Type 0 where
  pub frames : List A
  pub gates : List ℕ
  pub unread : Option ℕ
  pub count : ℕ
  pub size : ℕ

-- this was found in these bodies
pub record IsFoundIn {A : Type 0} (at : Unread → Read A) (found : FoundState A) (bodies : List (List ℕ)) : Type 0 where
  pub has : HasFound at found.frames found.gates found.unread bodies
  pub count : found.count ≡ length bodies
  pub size : found.size ≡ length_of bodies
  pub few : found.count + 17 ≤ found.size
  pub bytes : AllByRecursion AreBytes bodies

-- there are bodies in which this was found
pub record IsFound {A : Type 0} (at : Unread → Read A) (found : FoundState A) : Type 0 where
  pub bodies : List (List ℕ)
  pub «in» : IsFoundIn at found bodies
