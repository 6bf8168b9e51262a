-- The offset log as it is kept in memory: its next offset, and what is told of its frames, so that the first
-- transaction to mark is found without a walk of the log (KIP-618, KIP-98).
use Rattle.std.specs.Prelude.{◌≡◌, ℕ, ◌+◌, ◌≤◌, ◌^◌, max, Bool, true, false, List, [], ◌∷◌, ◌++◌, drop, map, Option}
use Rattle.std.specs.Prelude.{Some, None}
use Rattle.std.specs.List.{filter, flat_map, fold}
use Rattle.cw_bytes.specs.declared.applied.Applied.{Applied}
use Rattle.cw_bytes.specs.Frames.{next_after}
use Rattle.cw_txn.specs.declared.entry.Entry.{Entry}
use Rattle.cw_offset.specs.Calls.{Calls}
use Rattle.cw_offset.specs.declared.body.OffsetEntry.{OffsetEntry}
use Rattle.cw_offset.specs.declared.call.OffsetCall.{OffsetCall}
use Rattle.cw_offset.specs.declared.call.OffsetCall.TheVariants as call
use Rattle.cw_offset.specs.Body.{entry_bytes}
use Rattle.cw_offset.specs.Log.{offset_records}
use Rattle.cw_offset.specs.Replay.{AreUnmarked, replayed, told_in}

-- the offset log, and the calls by which its frames were told
pub record OffsetLogState : Type 0 where
  pub frames : List OffsetEntry
  pub side : ℕ
  pub told : Calls

-- a number as it is kept: none where it is past all offsets
abbrev pub IsNext : ℕ → Option ℕ → Type 0
IsNext n None = 2 ^ 64 ≤ n
IsNext n (Some next) = next ≡ n

-- the next offset behind records, from this one on
abbrev pub raised : ℕ → List Applied → ℕ
raised n records = fold (λ end offset. max end (offset + 1)) n (map (λ r. r.offset) records)

-- whether a call tells of the offset log: a set is of the transaction list
abbrev pub is_of_log : OffsetCall → Bool
is_of_log (call.Stand tag) = true
is_of_log (call.Put tag part to) = true
is_of_log (call.Commit tag) = true
is_of_log (call.Abort tag) = true
is_of_log (call.Set part to) = false

-- the calls tell of these frames: as an opening does of the first ones, and of each later one as it was written
pub record AreTold (frames : List OffsetEntry) (calls : List OffsetCall) : Type 0 where
  pub entries : List Entry
  pub first : List OffsetEntry
  pub more : List OffsetEntry
  pub are : frames ≡ first ++ more
  pub unmarked : AreUnmarked first more
  pub calls_are : filter is_of_log calls ≡ filter is_of_log (replayed entries first ++ flat_map told_in more)

-- what is known of the offset log
pub record IsOffsetLog (frames : List OffsetEntry) (next : Option ℕ) (calls : List OffsetCall) : Type 0 where
  pub next_is : IsNext (next_after (flat_map offset_records frames)) next
  pub told : AreTold frames calls

-- the list of a frame's entry, its body, and the calls that tell of it
pub record IsFrame (entry : OffsetEntry) (list : List OffsetEntry) (body : List ℕ) (calls : List OffsetCall) : Type 0
  where
    pub list_is : list ≡ entry ∷ []
    pub body_is : body ≡ entry_bytes entry
    pub calls_are : calls ≡ told_in entry

abbrev pub IsFirst : OffsetCall → Calls → Type 0
IsFirst call t = t.reserved ≡ call ∷ drop 1 t.reserved

-- a call is made, by the memory that was taken for it first
abbrev pub with_call : OffsetCall → Calls → Calls
with_call call t = record { calls = t.calls ++ call ∷ []; reserved = drop 1 t.reserved }
