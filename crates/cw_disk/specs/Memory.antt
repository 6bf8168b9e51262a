-- What a stop may leave of a disk in memory (this project's own disk model, byte by byte): some length between the
-- least and the greatest since the last sync, and at each place that was neither written nor cut since then the byte
-- as read.
use Rattle.std.specs.Prelude.{◌≡◌, ◌≤◌, ◌<◌, ◌⊎◌, ◌==◌, ℕ, List, [], ◌∷◌, length, take, drop, map, Bool, true, false}
use Rattle.std.specs.Prelude.{if◌then◌else◌, slice_index_or, vec_capacity, ◌-◌, min, not, replicate, nat_le, Some, ◌||◌}
use mathlib.Core.Logic.{inl, inr}
use Rattle.std.specs.List.{range_with_len, list_any}
use Rattle.cw_disk.specs.Disk.{written, Plan}
use Rattle.cw_disk.specs.declared.held.Held.{Held}
use Rattle.cw_disk.specs.declared.memory.Way.{Way}
use Rattle.cw_disk.specs.declared.memory.Way.TheVariants.{AsRead, Old, Noise}

-- whether the byte at this place was written or cut since the last sync, or lies past the greatest length
abbrev pub is_loose : List Bool → ℕ → Bool
is_loose loose i = slice_index_or loose i true

-- the images of these bytes, of which the loose ones may have come or not
pub record IsImage (bytes : List ℕ) (loose : List Bool) (least : ℕ) (image : List ℕ) : Type 0 where
  pub no_shorter : least ≤ length image
  pub no_longer : length image ≤ length loose
  pub kept : (i : ℕ) → i < length image → is_loose loose i ≡ false → slice_index_or image i 0 ≡ slice_index_or bytes i 0

-- what a stop may leave: what a read gives, or another image
abbrev pub Leaves : Held → List ℕ → Type 0
Leaves h image = (image ≡ h.bytes.items) ⊎ IsImage h.bytes.items h.loose.items h.least image

-- it might have left it at one of these moments
abbrev pub HadLeft : List Held → List ℕ → Type 0
HadLeft [] image = ⊥
HadLeft (h ∷ past) image = Leaves h image ⊎ HadLeft past image

-- at some moment from t on, up to this one
abbrev pub LeftSince : List Held → Held → ℕ → List ℕ → Type 0
LeftSince past h t image = Leaves h image ⊎ HadLeft (drop t past) image

-- a disk in memory, as contracts see it: its bytes and what it had before, its count of faults and its room, and which
-- calls fail: those whose numbers are listed, and each from the fuse's number on
pub record MemState : Type 0 where
  pub held : Held
  pub past : List Held
  pub count : ℕ
  pub room : ℕ
  pub failing : List ℕ
  pub fuse : ℕ
  pub calls : ℕ

-- whether the call of this number is to fail
abbrev pub is_planned : List ℕ → ℕ → ℕ → Bool
is_planned failing fuse number = nat_le fuse number || list_any (λ k. k == number) failing

-- its plan: which calls fail, and how many there were
abbrev pub plan_of : MemState → Plan
plan_of disk = record { fails = is_planned disk.failing disk.fuse; calls = disk.calls }

-- what is kept agrees: a disk as it reads is one of its images, and so is what it had at the last sync
pub record IsHeld (h : Held) : Type 0 where
  pub reads : IsImage h.bytes.items h.loose.items h.least h.bytes.items
  pub had : IsImage h.bytes.items h.loose.items h.least h.synced.items
  pub clean : (i : ℕ) → i < h.clean → is_loose h.loose.items i ≡ false
  pub firm : h.clean ≤ h.least

-- there is room for this many bytes
pub record HasRoom (room : ℕ) (h : Held) : Type 0 where
  pub bytes : room ≤ vec_capacity h.bytes
  pub loose : room ≤ vec_capacity h.loose
  pub synced : room ≤ vec_capacity h.synced
  pub within : length h.loose.items ≤ room

-- what a disk in memory keeps of itself
pub record IsMemory (room : ℕ) (h : Held) : Type 0 where
  pub held : IsHeld h
  pub wide : HasRoom room h

-- the byte 0 is written at 0, and nothing longer is there
abbrev pub is_first_byte : ℕ → List ℕ → ℕ → Bool
is_first_byte at [] n = false
is_first_byte at (byte ∷ []) n = if byte == 0 then (if at == 0 then nat_le n 1 else false) else false
is_first_byte at (byte ∷ other ∷ bytes) n = false

-- a write loosens the bytes that it touches; a first byte is whole or not there
pub record Wrote (at : ℕ) (from : List ℕ) (old new : Held) : Type 0 where
  pub bytes : new.bytes.items ≡ written old.bytes.items at from
  pub loose : new.loose.items ≡
      written old.loose.items at (replicate (length from) (not (is_first_byte at from (length old.loose.items))))
  pub synced : new.synced.items ≡ (if is_first_byte at from (length old.loose.items)
      then replicate (length old.synced.items) 0 else old.synced.items)
  pub least : new.least ≡ old.least
  pub clean : new.clean ≡ min old.clean at

-- a cut loosens the bytes behind it
pub record Shortened (to : ℕ) (old new : Held) : Type 0 where
  pub bytes : new.bytes.items ≡ take to old.bytes.items
  pub loose : new.loose.items ≡ written old.loose.items to (replicate (length old.loose.items - to) true)
  pub synced : new.synced.items ≡ old.synced.items
  pub least : new.least ≡ min old.least to
  pub clean : new.clean ≡ min old.clean to

-- a sync fastens every byte
pub record Fastened (old new : Held) : Type 0 where
  pub bytes : new.bytes.items ≡ old.bytes.items
  pub loose : new.loose.items ≡ replicate (length old.bytes.items) false
  pub synced : new.synced.items ≡ old.bytes.items
  pub least : new.least ≡ length old.bytes.items
  pub clean : new.clean ≡ length old.bytes.items

-- each loose byte 0xFF, at the greatest length
abbrev pub noise : List ℕ → List Bool → List ℕ
noise bytes loose =
    map (λ i. if is_loose loose i then 255 else slice_index_or bytes i 0) (range_with_len 0 (length loose))

-- the image of each way
abbrev pub image_of : Way → Held → List ℕ
image_of AsRead h = h.bytes.items
image_of Old h = h.synced.items
image_of Noise h = noise h.bytes.items h.loose.items

none_left : (past : List Held) (image : List ℕ) → HadLeft (drop (length past) past) image → ⊥
none_left [] image had = had
none_left (h ∷ past) image had = none_left past image had

-- a disk as it reads is one of its images
pub as_it_reads : (h : Held) (file : List ℕ) → Some h.bytes.items ≡ Some file → Leaves h file
as_it_reads h file is = inl (same h.bytes.items file is)
  where
    same : (a b : List ℕ) → Some a ≡ Some b → b ≡ a
    same a b e = cc

-- since this moment there is no other
pub only_this : (past : List Held) (h : Held) (image : List ℕ) → LeftSince past h (length past) image → Leaves h image
only_this past h image (inl now) = now
only_this past h image (inr had) = absurd (none_left past image had)
