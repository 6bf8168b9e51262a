-- A log as the list of its frames, each with the records that it was written with, and what a compaction by keys
-- leaves of it, as Kafka's compacted topics have it: of each key the last record stays, offsets and stamps stay, and
-- a frame of which nothing stays goes (the last is this project's own).
use Rattle.std.specs.Prelude.{ℕ, ◌+◌, ◌==◌, Bool, false, not, List, [], ◌∷◌, ◌++◌, length, map, max, bytes_eq, Option}
use Rattle.std.specs.Prelude.{None}
use Rattle.std.specs.Bool.{⊤}
use Rattle.std.specs.Option.{option_map_or}
use Rattle.std.specs.List.{filter, flat_map, fold, last_or}
use Rattle.cw_bytes.specs.declared.applied.Applied.{Applied}

-- a fact of each member of a list and of all those before it
abbrev pub EachFrom : {A : Type 0} → (List A → A → Type 0) → List A → List A → Type 0
EachFrom P before [] = ⊤
EachFrom P before (x ∷ xs) = P before x × EachFrom P (before ++ x ∷ []) xs

-- frames one behind the other
abbrev pub joined : {A : Type 0} → List (List A) → List A
joined frames = flat_map (λ frame. frame) frames

-- one above the greatest of these offsets, 0 where there is none
abbrev pub next_behind : List ℕ → ℕ
next_behind offsets = fold (λ end offset. max end (offset + 1)) 0 offsets

-- the offset behind those of these records
abbrev pub next_after : List Applied → ℕ
next_after records = next_behind (map (λ r. r.offset) records)

-- frames with the records that stay; a frame of which none stays goes
abbrev pub staying : {A : Type 0} → (A → Bool) → List (List A) → List (List A)
staying stays frames = filter (λ frame. not (length frame == 0)) (map (filter stays) frames)

-- the last record of a key
abbrev pub last_of_key : List ℕ → List Applied → Option Applied
last_of_key key records = last_or None (filter (λ r. bytes_eq r.key key) records)

-- whether a record is the last one of its key
abbrev pub is_last : List Applied → Applied → Bool
is_last records r = option_map_or (λ last. last.offset == r.offset) (last_of_key r.key records) false
