-- A log that had room for a frame is one that a disk can hold with it.
use Rattle.std.proofs.Common.{◌≡◌, ℕ, ◌+◌, ◌≤◌, ◌<◌, ◌^◌, ◌++◌, ◌∷◌, [], ◌&&◌, Bool, true, false, List, length, map, refl, ap, arith}
use Rattle.std.proofs.lemmas.List.{map-append}
use Rattle.std.specs.List.{list_all}
use borrow.Author.Tests.{leb-true}
use Rattle.cw_bytes.specs.Spelling.{records_bytes}
use Rattle.cw_config.specs.declared.records.ConfigRecord.{ConfigRecord}
use Rattle.cw_data.specs.declared.entry.DataEntry.{DataEntry}
use Rattle.cw_data.specs.Body.{entry_bytes as data_body}
use Rattle.cw_log.specs.Log.{length_of}
use Rattle.cw_offset.specs.declared.body.OffsetEntry.{OffsetEntry}
use Rattle.cw_offset.specs.Body.{entry_bytes as offset_body}
use Rattle.cw_txn.specs.declared.entry.Entry.{Entry}
use Rattle.cw_txn.specs.Body.{entries_bytes}
use Rattle.cw_offset.specs.Log.{offset_records}
use Rattle.cw_model.specs.State.{Cluster, StampedStatus}
use Rattle.cw_model.specs.Bodies.{config_applied, config_body, status_applied, status_body, config_length, offsets_length, status_length, frame_of, has_room}
use Rattle.cw_model.specs.Updates.{is_offset, with_configs, with_offset, with_status, with_entries, with_data, fits_configs, fits_offset, fits_status, fits_entries, fits_data}
use Rattle.cw_model.specs.FactsLogs.{FitDisks}

pub length_of-push : (bodies : List (List ℕ)) (body : List ℕ) → length_of (bodies ++ body ∷ []) ≡ length_of bodies + (length body + 5)
length_of-push [] body = omega arith
length_of-push (first ∷ bodies) body = omega (arith, length_of-push bodies body)

pub and-first : (a b : Bool) → (a && b) ≡ true → a ≡ true
and-first true b both = refl
and-first false b both = both

pub and-second : (a b : Bool) → (a && b) ≡ true → b ≡ true
and-second true b both = both
and-second false b both = absurd (cc)

-- one frame more, where there is room
pub more-fits : {A : Type 0} (body : A → List ℕ) (frames : List A) (frame : A) → has_room (length_of (map body frames)) (frame_of (body frame)) ≡ true →
    length_of (map body (frames ++ frame ∷ [])) < 2 ^ 64
more-fits body frames frame room =
    let most : length_of (map body frames) + (length (body frame) + 5) ≤ 2 ^ 28 = leb-true (length_of (map body frames) + (length (body frame) + 5)) (2 ^ 28) room in
    omega (arith, most, ap length_of (map-append body frames (frame ∷ [])), length_of-push (map body frames) (body frame))

pub entries-fit : (frame : List Entry) (s : Cluster) → fits_entries frame s ≡ true → FitDisks s → FitDisks (with_entries frame s)
entries-fit frame s room f = record { config = f.config; offsets = f.offsets; status = f.status; txn = more-fits entries_bytes s.txn frame room; batches = f.batches }

pub data-fits : (entry : DataEntry) (s : Cluster) → fits_data entry s ≡ true → FitDisks s → FitDisks (with_data entry s)
data-fits entry s room f = record { config = f.config; offsets = f.offsets; status = f.status; txn = f.txn; batches = more-fits data_body s.batches entry room }

pub offset-fits : (entry : OffsetEntry) (s : Cluster) → fits_offset entry s ≡ true → FitDisks s → FitDisks (with_offset entry s)
offset-fits entry s fits f =
    let room : has_room (offsets_length s) (frame_of (offset_body entry)) ≡ true =
    and-second (list_all (λ r. is_offset r.offset) (offset_records entry)) (has_room (offsets_length s) (frame_of (offset_body entry))) fits in
    record { config = f.config; offsets = more-fits offset_body s.offsets.frames entry room; status = f.status; txn = f.txn; batches = f.batches }

pub status-fits : (r : StampedStatus) (s : Cluster) → fits_status r s ≡ true → FitDisks s → FitDisks (with_status r s)
status-fits r s fits f =
    let room : has_room (status_length s) (frame_of (status_body (r ∷ []))) ≡ true =
    and-second (is_offset r.status.offset) (has_room (status_length s) (frame_of (status_body (r ∷ [])))) fits in
    record { config = f.config; offsets = f.offsets; status = more-fits records_bytes s.status.frames (status_applied r ∷ []) room; txn = f.txn; batches = f.batches }

pub configs-fit : (frame : List ConfigRecord) (s : Cluster) → fits_configs frame s ≡ true → FitDisks s → FitDisks (with_configs frame s)
configs-fit frame s fits f =
    let room : has_room (config_length s) (frame_of (config_body frame)) ≡ true =
    and-second (list_all (λ (r : ConfigRecord). is_offset r.offset) frame) (has_room (config_length s) (frame_of (config_body frame))) fits in
    record { config = more-fits records_bytes s.config.frames (map config_applied frame) room; offsets = f.offsets; status = f.status; txn = f.txn; batches = f.batches }
