-- What a reader of bodies says of what is spelled is what a body is read as.
use Rattle.std.proofs.Common.{◌≡◌, ℕ, List, Option, Some, None, refl, ap, ◌∙◌}
use Rattle.cw_bytes.specs.declared.applied.Applied.{Applied}
use Rattle.cw_bytes.specs.Unread.{Unread, AreBytes}
use Rattle.cw_bytes.specs.Reading.{Read, body_at, records_at}
use Rattle.cw_bytes.specs.Spelling.{records_bytes, AreRecords}
use Rattle.cw_bytes.proofs.Bodies.{body_takes, body_again}
use Rattle.cw_bytes.proofs.Records.{records_takes, records_again}
use Rattle.cw_data.specs.declared.entry.DataEntry.{DataEntry}
use Rattle.cw_data.specs.Body.{entry_bytes as data_body, IsEntry as IsDataEntry}
use Rattle.cw_data.specs.BodyReading.{entry_at as data_at}
use Rattle.cw_data.proofs.Bodies.{entry_takes as data_takes, entry_again as data_again}
use Rattle.cw_offset.specs.declared.body.OffsetEntry.{OffsetEntry}
use Rattle.cw_offset.specs.Body.{entry_bytes as offset_body, IsEntry as IsOffsetEntry}
use Rattle.cw_offset.specs.BodyReading.{entry_at as stored_at}
use Rattle.cw_offset.proofs.Bodies.{entry_takes as stored_takes, entry_again as stored_again}
use Rattle.cw_txn.specs.declared.entry.Entry.{Entry}
use Rattle.cw_txn.specs.Body.{entries_bytes, AreEntries}
use Rattle.cw_txn.specs.BodyReading.{entries_at}
use Rattle.cw_txn.proofs.Bodies.{body_takes as entries_take, body_again as entries_again}

module _ {A : Type 0} (at : Unread → Read A) (bytes : A → List ℕ) (is : A → Type 0)
    (takes : (body : List ℕ) (a : A) → AreBytes body → body_at at body ≡ Some a → is a × (body ≡ bytes a))
    (again : (a : A) → is a → body_at at (bytes a) ≡ Some a) where
  -- what is spelled so is read
  spelled : (body : List ℕ) (a : A) → is a × (body ≡ bytes a) → body_at at body ≡ Some a
  spelled body a found = ap (body_at at) found.1 ∙ again a found.0

  -- and where nothing is, nothing is read
  unspelled : (body : List ℕ) → AreBytes body → ((a : A) → is a → body ≡ bytes a → ⊥) → body_at at body ≡ None
  unspelled body fits none = by (body_at at body) refl
    where
      by : (o : Option A) → body_at at body ≡ o → body_at at body ≡ None
      by None e = e
      by (Some a) e = let t = takes body a fits e in absurd (none a t.0 t.1)

pub records-read : (body : List ℕ) (a : List Applied) → AreRecords a × (body ≡ records_bytes a) → body_at records_at body ≡ Some a
records-read = spelled records_at records_bytes AreRecords (body_takes records_at records_bytes AreRecords records_takes records_again) (body_again records_at records_bytes AreRecords records_takes records_again)

pub records-unread : (body : List ℕ) → AreBytes body → ((a : List Applied) → AreRecords a → body ≡ records_bytes a → ⊥) → body_at records_at body ≡ None
records-unread = unspelled records_at records_bytes AreRecords (body_takes records_at records_bytes AreRecords records_takes records_again) (body_again records_at records_bytes AreRecords records_takes records_again)

pub stored-read : (body : List ℕ) (a : OffsetEntry) → IsOffsetEntry a × (body ≡ offset_body a) → body_at stored_at body ≡ Some a
stored-read = spelled stored_at offset_body IsOffsetEntry (body_takes stored_at offset_body IsOffsetEntry stored_takes stored_again) (body_again stored_at offset_body IsOffsetEntry stored_takes stored_again)

pub stored-unread : (body : List ℕ) → AreBytes body → ((a : OffsetEntry) → IsOffsetEntry a → body ≡ offset_body a → ⊥) → body_at stored_at body ≡ None
stored-unread = unspelled stored_at offset_body IsOffsetEntry (body_takes stored_at offset_body IsOffsetEntry stored_takes stored_again) (body_again stored_at offset_body IsOffsetEntry stored_takes stored_again)

pub data-read : (body : List ℕ) (a : DataEntry) → IsDataEntry a × (body ≡ data_body a) → body_at data_at body ≡ Some a
data-read = spelled data_at data_body IsDataEntry (body_takes data_at data_body IsDataEntry data_takes data_again) (body_again data_at data_body IsDataEntry data_takes data_again)

pub data-unread : (body : List ℕ) → AreBytes body → ((a : DataEntry) → IsDataEntry a → body ≡ data_body a → ⊥) → body_at data_at body ≡ None
data-unread = unspelled data_at data_body IsDataEntry (body_takes data_at data_body IsDataEntry data_takes data_again) (body_again data_at data_body IsDataEntry data_takes data_again)

pub entries-read : (body : List ℕ) (a : List Entry) → AreEntries a × (body ≡ entries_bytes a) → body_at entries_at body ≡ Some a
entries-read = spelled entries_at entries_bytes AreEntries entries_take entries_again

pub entries-unread : (body : List ℕ) → AreBytes body → ((a : List Entry) → AreEntries a → body ≡ entries_bytes a → ⊥) → body_at entries_at body ≡ None
entries-unread = unspelled entries_at entries_bytes AreEntries entries_take entries_again
