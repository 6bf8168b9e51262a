-- A log of which some records go has no more bytes than before.
use Rattle.std.proofs.Common.{◌≡◌, ℕ, ◌≤◌, ◌-◌, ◌^◌, ◌==◌, Bool, true, false, not, nat_lt, List, [], ◌∷◌, ◌++◌, length, map, Option, Some, None, if◌then◌else◌, refl, arith, length-append}
use Rattle.std.specs.List.{filter, flat_map}
use Rattle.cw_types.specs.declared.logs.DiskName.{DiskName}
use Rattle.cw_types.specs.declared.logs.LogName.{LogName}
use Rattle.cw_types.specs.declared.logs.LogName.TheVariants.{Config, Offsets, Status}
use Rattle.cw_bytes.specs.declared.applied.Applied.{Applied}
use Rattle.cw_bytes.specs.Spelling.{word, tag_bytes, record_bytes, records_bytes}
use Rattle.cw_bytes.specs.Frames.{joined, is_last}
use Rattle.cw_config.specs.Compaction.{clean_part, config_stays, compact_configs}
use Rattle.cw_txn.specs.declared.entry.Entry.{Entry}
use Rattle.cw_offset.specs.declared.body.OffsetEntry.{OffsetEntry}
use Rattle.cw_offset.specs.declared.body.OffsetEntry.TheVariants.{Records, Mark}
use Rattle.cw_offset.specs.Body.{entry_bytes as offset_body}
use Rattle.cw_offset.specs.Log.{offset_records}
use Rattle.cw_offset.specs.Compaction.{offset_goes, records_staying, offset_stays, compact_offsets}
use Rattle.cw_status.specs.Compaction.{compact_statuses}
use Rattle.cw_log.specs.Log.{length_of}
use Rattle.cw_model.specs.State.{Cluster}
use Rattle.cw_model.specs.declared.fault.WorldFault.TheVariants.{Full}
use Rattle.cw_model.specs.Answers.{Answer, refused, answered, unless_closed}
use Rattle.cw_model.specs.Bodies.{config_length, offsets_length, status_length}
use Rattle.cw_model.specs.EventsCompaction.{on_other_side, unless_worn, compact}

length-word : (n : ℕ) → length (word n) ≡ 4
unfolding word
length-word n = refl

-- what stays of some records has no more bytes
kept-le : {X : Type 0} (f : X → List ℕ) (x : X) (some all : List X) (b : Bool) → length (flat_map f some) ≤ length (flat_map f all) →
    length (flat_map f (if b then x ∷ some else some)) ≤ length (f x ++ flat_map f all)
kept-le f x some all true below = omega (arith, below, length-append (f x) (flat_map f some), length-append (f x) (flat_map f all))
kept-le f x some all false below = omega (arith, below, length-append (f x) (flat_map f all))

flat_map-filter-le : {X : Type 0} (f : X → List ℕ) (p : X → Bool) (xs : List X) → length (flat_map f (filter p xs)) ≤ length (flat_map f xs)
flat_map-filter-le f p [] = omega arith
flat_map-filter-le f p (x ∷ xs) = kept-le f x (filter p xs) xs (p x) (flat_map-filter-le f p xs)

-- nor has their body
records_bytes-filter-le : (p : Applied → Bool) (records : List Applied) → length (records_bytes (filter p records)) ≤ length (records_bytes records)
records_bytes-filter-le p records = omega (
  arith,
  flat_map-filter-le record_bytes p records,
  length-append (word (length (filter p records))) (flat_map record_bytes (filter p records)),
  length-append (word (length records)) (flat_map record_bytes records),
  length-word (length (filter p records)),
  length-word (length records),
)

-- nor a log of bodies of which each has no more, and some go
body-le : {A : Type 0} (body : A → List ℕ) (x y : A) (some all : List A) (b : Bool) → length (body x) ≤ length (body y) →
    length_of (map body some) ≤ length_of (map body all) → length_of (map body (if b then x ∷ some else some)) ≤ length_of (map body (y ∷ all))
body-le body x y some all true first below = omega (arith, first, below)
body-le body x y some all false first below = omega (arith, below)

length_of-le : {A : Type 0} (body : A → List ℕ) (h : A → A) → ((x : A) → length (body (h x)) ≤ length (body x)) → (q : A → Bool) (xs : List A) →
    length_of (map body (filter q (map h xs))) ≤ length_of (map body xs)
length_of-le body h each q [] = omega arith
length_of-le body h each q (x ∷ xs) = body-le body (h x) x (filter q (map h xs)) xs (q (h x)) (each x) (length_of-le body h each q xs)

-- what stays of an entry of the offset log
records_staying-le : (entries : List Entry) (log : List OffsetEntry) (entry : OffsetEntry) → length (offset_body (records_staying entries log entry)) ≤ length (offset_body entry)
records_staying-le entries log (Records tag records) = omega (
  arith,
  records_bytes-filter-le (λ r. not (offset_goes entries log tag r)) records,
  length-append (tag_bytes tag) (records_bytes (filter (λ r. not (offset_goes entries log tag r)) records)),
  length-append (tag_bytes tag) (records_bytes records),
)
records_staying-le entries log (Mark mark) = omega arith

-- so of each log a compaction leaves no more
pub configs-shorter : (frames : List (List Applied)) → length_of (map records_bytes (compact_configs frames)) ≤ length_of (map records_bytes frames)
configs-shorter frames =
    let stays : Applied → Bool = config_stays (clean_part (joined frames)) in
    length_of-le records_bytes (filter stays) (records_bytes-filter-le stays) (λ frame. not (length frame == 0)) frames

pub offsets-shorter : (entries : List Entry) (log : List OffsetEntry) → length_of (map offset_body (compact_offsets entries log)) ≤ length_of (map offset_body log)
offsets-shorter entries log =
    length_of-le offset_body (records_staying entries log) (records_staying-le entries log) (offset_stays (map (records_staying entries log) log)) log

pub statuses-shorter : (frames : List (List Applied)) → length_of (map records_bytes (compact_statuses frames)) ≤ length_of (map records_bytes frames)
statuses-shorter frames =
    let stays : Applied → Bool = is_last (joined frames) in
    length_of-le records_bytes (filter stays) (records_bytes-filter-le stays) (λ frame. not (length frame == 0)) frames

-- an event with which a log has no more bytes, unless it is refused
worn-le : {A : Type 0} (size : Cluster → ℕ) (s : Cluster) (b : Bool) (done other : Answer A) → size done.1 ≤ size s → size other.1 ≤ size s →
    size (if b then done else other).1 ≤ size s
worn-le size s true done other below same = below
worn-le size s false done other below same = same

open-le : {A : Type 0} (size : Cluster → ℕ) (s : Cluster) (closed : Option (DiskName × ℕ)) (done : Answer A) → size done.1 ≤ size s →
    size (unless_closed closed done s).1 ≤ size s
open-le size s None done below = below
open-le size s (Some fault) done below = omega arith

-- a compaction, whose log has no more bytes than before
compact-le : {A : Type 0} (size : Cluster → ℕ) (log : LogName) (n side : ℕ) (answer : A) (s t : Cluster) → size t ≤ size s →
    size (unless_closed s.closed (unless_worn log n side (answered answer t) s) s).1 ≤ size s
compact-le size log n side answer s t below = open-le size s s.closed (unless_worn log n side (answered answer t) s)
    (worn-le size s (nat_lt side (2 ^ 64 - 1)) (answered answer t) (refused (Full log n 0) s) below (omega arith))

pub config_length-compact : (s : Cluster) → config_length (compact Config s).1 ≤ config_length s
config_length-compact s =
    let frames : List (List Applied) = compact_configs s.config.frames in
    compact-le config_length Config (config_length s) s.config.side (length (joined s.config.frames), length (joined frames)) s
    (record s { config = on_other_side frames s.config }) (configs-shorter s.config.frames)

pub offsets_length-compact : (s : Cluster) → offsets_length (compact Offsets s).1 ≤ offsets_length s
offsets_length-compact s =
    let frames : List OffsetEntry = compact_offsets s.entries s.offsets.frames in
    compact-le offsets_length Offsets (offsets_length s) s.offsets.side
    (length (flat_map offset_records s.offsets.frames), length (flat_map offset_records frames)) s
    (record s { offsets = on_other_side frames s.offsets }) (offsets-shorter s.entries s.offsets.frames)

pub status_length-compact : (s : Cluster) → status_length (compact Status s).1 ≤ status_length s
status_length-compact s =
    let frames : List (List Applied) = compact_statuses s.status.frames in
    compact-le status_length Status (status_length s) s.status.side (length (joined s.status.frames), length (joined frames)) s
    (record s { status = on_other_side frames s.status }) (statuses-shorter s.status.frames)
