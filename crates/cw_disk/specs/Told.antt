-- What a disk tells, as one thing: `D.Disk` is the record of what it holds, may leave and has left since, and of its
-- moment, count and room.
use Rattle.std.specs.Prelude.{◌≡◌, ◌≤◌, ℕ, List, Option, Some}
use Rattle.cw_disk.specs.Disk.{AddsOf, Only}
use Rattle.cw_disk.specs.declared.device.Disk.{Ghosts}

-- what holds of the bytes that a read gives, where the disk tells them
abbrev pub Told : {S : Type 0} → Ghosts S → S → (List ℕ → Type 0) → Type 0
Told D disk P = (file : List ℕ) → D.holds disk ≡ Some file → P file

-- from old to new a stop adds only images that have P
abbrev pub Adds : {S : Type 0} → Ghosts S → S → S → (List ℕ → Type 0) → Type 0
Adds D old new P = AddsOf D.moment D.left_since old new P

-- nothing is pending: a stop leaves what a read gives
abbrev pub Settled : {S : Type 0} → Ghosts S → S → Type 0
Settled D disk = Told D disk (λ file. Only file (D.may_leave disk))

-- calls that read: the same content, no new image, no fewer faults, no less room
pub record ReadsOf {S : Type 0} (holds : S → Option (List ℕ)) (may_leave : S → List ℕ → Type 0) (moment : S → ℕ)
    (left_since : S → ℕ → List ℕ → Type 0) (count reserved : S → ℕ) (old new : S) : Type 0 where
  pub same : holds new ≡ holds old
  pub fewer : (image : List ℕ) → may_leave new image → may_leave old image
  pub adds : AddsOf moment left_since old new (λ image. ⊥)
  pub later : count old ≤ count new
  pub room : reserved old ≤ reserved new

abbrev pub Reads : {S : Type 0} → Ghosts S → S → S → Type 0
Reads D old new = ReadsOf D.holds D.may_leave D.moment D.left_since D.count D.reserved old new
