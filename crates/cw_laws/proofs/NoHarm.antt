-- What stands for a state meets no harm: each body is read, and each frame is allowed and safe.
use Rattle.std.proofs.Common.{◌≡◌, inl, inr, ℕ, List, [], ◌∷◌, ◌++◌, Some, IsSome, refl, sym, subst}
use Rattle.std.specs.List.{AllZip}
use Rattle.cw_types.specs.declared.logs.LogName.{LogName}
use Rattle.cw_types.specs.declared.logs.LogName.TheVariants.{Config, Offsets, Status, Txn, Batches}
use Rattle.cw_bytes.specs.Frames.{EachFrom}
use Rattle.cw_bytes.specs.Reading.{Read, body_at, records_at}
use Rattle.cw_bytes.specs.Unread.{Unread}
use Rattle.cw_log.specs.declared.fault.Harm.{Harm}
use Rattle.cw_log.specs.declared.fault.Harm.TheVariants.{Magic, Version, Kind, Header, SameSide, Length, Content, Unsafe}
use Rattle.cw_txn.specs.BodyReading.{entries_at}
use Rattle.cw_offset.specs.BodyReading.{entry_at as stored_at}
use Rattle.cw_data.specs.BodyReading.{entry_at as data_at}
use Rattle.cw_model.specs.State.{Cluster}
use Rattle.cw_model.specs.StandsFor.{Stored, Frames, AreRead, IsFirstLacking, IsReadable, IsFirstNotAllowed, IsFirstUnsafe, IsFirstHarm, AreSound, reading_of, allowing_of, safety_of, StandFor}
use Rattle.cw_model.proofs.Stored.{AreRead-one}
use Rattle.cw_laws.proofs.Framed.{each_from-rest}

lacks-none : {A : Type 0} (P : List A → A → Type 0) (xs : List A) (at : ℕ) → EachFrom P [] xs → IsFirstLacking P xs at → ⊥
lacks-none P xs at each first = first.lacks (each_from-rest P [] first.before (first.lacking ∷ first.behind) (subst (EachFrom P []) first.split each)).0

-- what is read lacks no reading
readable : {A : Type 0} (at : Unread → Read A) (before bodies : List (List ℕ)) (frames : List A) → AllZip (λ body frame. body_at at body ≡ Some frame) bodies frames → EachFrom (IsReadable at) before bodies
readable at before [] frames read = tt
readable at before (body ∷ bodies) [] read = absurd read
readable at before (body ∷ bodies) (frame ∷ frames) read =
    (subst (λ o. IsSome o) (sym read.0) refl, readable at (before ++ body ∷ []) bodies frames read.1)

pub reads-all : (stored : Stored) (frames : Frames) (log : LogName) (at : ℕ) → AreRead stored frames → (reading_of stored log).lacks at → ⊥
reads-all stored frames Config at read = lacks-none (IsReadable records_at) stored.config.frames at (readable records_at [] stored.config.frames frames.config read.config)
reads-all stored frames Offsets at read = lacks-none (IsReadable stored_at) stored.offsets.frames at (readable stored_at [] stored.offsets.frames frames.offsets read.offsets)
reads-all stored frames Status at read = lacks-none (IsReadable records_at) stored.status.frames at (readable records_at [] stored.status.frames frames.status read.status)
reads-all stored frames Txn at read = lacks-none (IsReadable entries_at) stored.txn at (readable entries_at [] stored.txn frames.txn read.txn)
reads-all stored frames Batches at read = lacks-none (IsReadable data_at) stored.batches at (readable data_at [] stored.batches frames.batches read.batches)

pub allows-all : (frames : Frames) (log : LogName) (at : ℕ) → AreSound (allowing_of frames) → (allowing_of frames log).lacks at → ⊥
allows-all frames Config at sound = lacks-none _ frames.config at sound.0
allows-all frames Offsets at sound = lacks-none _ frames.offsets at sound.1.0
allows-all frames Status at sound = lacks-none _ frames.status at sound.1.1.0
allows-all frames Txn at sound = lacks-none _ frames.txn at sound.1.1.1.0
allows-all frames Batches at sound = lacks-none _ frames.batches at sound.1.1.1.1.0

safe-all : (frames : Frames) (log : LogName) (at : ℕ) → AreSound (safety_of frames) → (safety_of frames log).lacks at → ⊥
safe-all frames Config at sound = lacks-none _ frames.config at sound.0
safe-all frames Offsets at sound = lacks-none _ frames.offsets at sound.1.0
safe-all frames Status at sound = lacks-none _ frames.status at sound.1.1.0
safe-all frames Txn at sound = lacks-none _ frames.txn at sound.1.1.1.0
safe-all frames Batches at sound = lacks-none _ frames.batches at sound.1.1.1.1.0

module _ (stored : Stored) (s : Cluster) (stand : StandFor stored s) where
  -- frames that are read are those that stand
  one-reading : (frames : Frames) → AreRead stored frames → stand.frames ≡ frames
  one-reading frames read = AreRead-one stored stand.frames frames stand.read read

  all-allowed : (log : LogName) (at : ℕ) → IsFirstNotAllowed stored log at → ⊥
  all-allowed log at first =
      allows-all first.frames log at (subst (λ (frames : Frames). AreSound (allowing_of frames)) (one-reading first.frames first.read) stand.allowed) first.first.here

  all-safe : (log : LogName) (at : ℕ) → IsFirstUnsafe stored log at → ⊥
  all-safe log at first =
      safe-all first.frames log at (subst (λ (frames : Frames). AreSound (safety_of frames)) (one-reading first.frames first.read) stand.safe) first.first.here

  pub no-harm : (log : LogName) (at : ℕ) (harm : Harm) → IsFirstHarm stored log at harm → ⊥
  no-harm log at Magic none = none
  no-harm log at Version none = none
  no-harm log at Kind none = none
  no-harm log at Header none = none
  no-harm log at SameSide none = none
  no-harm log at Length none = none
  no-harm log at Content (inl unread) = reads-all stored stand.frames log at stand.read unread.here
  no-harm log at Content (inr first) = all-allowed log at first
  no-harm log at Unsafe first = all-safe log at first
