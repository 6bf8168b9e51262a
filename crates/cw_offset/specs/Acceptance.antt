-- Which entries may stand where in the offset log, judged frame by frame by what stands before each, and by the
-- transaction list (KIP-98, KIP-618): a transaction's records stand before its marker, and it is marked once, as it
-- ended. That an opening judges all of it is this project's own.
use Rattle.std.specs.Prelude.{◌≡◌, ℕ, ◌≤◌, ◌<◌, Bool, true, false, List, [], Option, Some, None, IsSome}
use Rattle.std.specs.Option.{IsSomeAnd}
use Rattle.std.specs.List.{filter_map, flat_map, list_any}
use Rattle.cw_types.specs.declared.ids.Tag.{Tag}
use Rattle.cw_types.specs.Same.{same_tag}
use Rattle.cw_bytes.specs.declared.applied.Applied.{Applied}
use Rattle.cw_bytes.specs.Frames.{EachFrom, next_after}
use Rattle.cw_keys.specs.Parts.{part_of}
use Rattle.cw_keys.specs.Offsets.{offset_of}
use Rattle.cw_txn.specs.declared.entry.Entry.{Entry}
use Rattle.cw_txn.specs.Legal.{epoch_of, is_committed}
use Rattle.cw_offset.specs.declared.body.OffsetEntry.{OffsetEntry}
use Rattle.cw_offset.specs.declared.body.OffsetEntry.TheVariants.{Records, Mark}
use Rattle.cw_offset.specs.Log.{offset_records, offset_tag, offset_mark, is_marked}

-- no epoch is ahead of its producer's last
abbrev pub IsKnown : List Entry → Tag → Type 0
IsKnown entries tag = tag.epoch.0 ≤ epoch_of tag.tid entries

-- a marker of a transaction that stands in its log and has no marker there yet: it says commit just where that is
-- committed, and abort only where its producer has a later epoch (KIP-98)
pub record IsAllowedMark (entries : List Entry) (there marked : List Tag) (tag : Tag) (committed : Bool) : Type 0 where
  pub known : IsKnown entries tag
  pub stands : list_any (same_tag tag) there ≡ true
  pub first : list_any (same_tag tag) marked ≡ false
  pub tells : committed ≡ is_committed tag entries
  pub ended : committed ≡ false → tag.epoch.0 < epoch_of tag.tid entries

-- an offset of a part stands under the part's key
abbrev pub IsOffsetOf : List ℕ → Option (List ℕ) → Type 0
IsOffsetOf key None = ⊥
IsOffsetOf key (Some text) = IsSomeAnd (part_of key) (λ part. IsSome (offset_of part text))

-- an offset record may stand behind these
pub record IsAllowedOffset (before : List Applied) (r : Applied) : Type 0 where
  pub above : next_after before ≤ r.offset
  pub grammar : IsOffsetOf r.key r.value

-- records of a transaction may stand behind these entries, none of which marks it
pub record AreAllowedRecords
    (entries : List Entry) (before : List OffsetEntry) (tag : Tag) (records : List Applied) : Type 0 where
  pub known : IsKnown entries tag
  pub unmarked : is_marked tag before ≡ false
  pub each : EachFrom IsAllowedOffset (flat_map offset_records before) records

-- an entry of the offset log may stand behind these
abbrev pub IsAllowedStored : List Entry → List OffsetEntry → OffsetEntry → Type 0
IsAllowedStored entries before (Records tag records) = AreAllowedRecords entries before tag records
IsAllowedStored entries before (Mark mark) =
    IsAllowedMark entries (filter_map offset_tag before) (filter_map offset_mark before) mark.tag mark.committed

-- each entry of the offset log may stand where it does
abbrev pub AreAllowedStored : List Entry → List OffsetEntry → Type 0
AreAllowedStored entries log = EachFrom (IsAllowedStored entries) [] log
