-- A worker reports a state: the halves of the event, and what is kept of the statuses.
use Rattle.std.proofs.Common.{◌≡◌, ◌≢◌, ◌≤◌, ◌<◌, ℕ, Bool, true, false, List, [], ◌∷◌, ◌++◌, length, get_or, Option, None, Ok, Err, if◌then◌else◌, refl, sym, ◌∙◌, ap, subst}
use Rattle.cw_types.specs.declared.ids.Item.{Item}
use Rattle.cw_types.specs.declared.logs.DiskName.{DiskName}
use Rattle.cw_types.specs.declared.logs.LogName.TheVariants.{Status}
use Rattle.cw_bytes.specs.Spelling.{records_bytes}
use Rattle.cw_keys.specs.declared.state.State.{State}
use Rattle.cw_keys.specs.declared.status.StatusValue.{StatusValue}
use Rattle.cw_config.specs.declared.records.ConfigRecord.{ConfigRecord}
use Rattle.cw_group.specs.Circle.{CircleState}
use Rattle.cw_model.specs.declared.fault.WorldFault.{WorldFault}
use Rattle.cw_model.specs.declared.fault.WorldFault.TheVariants.{Memory}
use Rattle.cw_model.specs.declared.instance.Instance.{Instance}
use Rattle.cw_model.specs.declared.journal.JournalEntry.{JournalEntry}
use Rattle.cw_model.specs.declared.row.Row.{Row}
use Rattle.cw_model.specs.State.{Cluster, StampedStatus}
use Rattle.cw_model.specs.Answers.{Answer, refused}
use Rattle.cw_model.specs.Bodies.{status_applied, status_body, status_length, frame_of, has_room}
use Rattle.cw_model.specs.EventsReports.{put_status, status_of, instance_at, reports}
use Rattle.cw_model.specs.Lookups.{no_row}
use Rattle.cw_model.specs.Reopening.{stored_of}
use Rattle.cw_model.specs.Updates.{with_status, fits_status, is_offset, appends_status}
use Rattle.cw_rows.specs.Crew.{CrewState}
use Rattle.cw_topics.specs.Topics.{TopicsState}
use Rattle.cw_rows.specs.Kept.{Kept, IsCluster, state_of, worker_test}
use Rattle.cw_topics.specs.Statuses.{HasNoRoom, record_in}
use Rattle.cw_rows.specs.Statuses.{status_in, reported, with_reports}
use Rattle.cw_rows.specs.Writes.{IsDue, Readies, Refuses, Puts}
use Rattle.cw_rows.proofs.Due.{passes, refuses, open-alive, by-worker, refuses-same}
use Rattle.std.proofs.lemmas.Bool.{and_from, and_right}
use Rattle.cw_rows.proofs.Lists.{if-true, map-push}

-- ---- the event by its test

if-false : {A : Type 0} (b : Bool) (x y : A) → b ≡ false → (if b then x else y) ≡ y
if-false true x y is = absurd (cc)
if-false false x y is = refl

module _ (w : ℕ) (item : Item) where
  -- what is done where the worker may report
  abbrev pub status_done : Cluster → Answer (Unit {0})
  status_done s = let r = reported w item s in appends_status r (reports w item r.status.value.state) tt s

  status-row : (s : Cluster) (frame : StampedStatus) → worker_test w s ≡ Ok tt → frame ≡ reported w item s →
      put_status w item s ≡ appends_status frame (reports w item frame.status.value.state) tt s
  status-row s frame passed same =
      passes (worker_test w s) (λ fault. refused fault s) (put_status w item s) (status_done s) (by-worker status_done s w) passed ∙
      ap (λ (r : StampedStatus). appends_status r (reports w item r.status.value.state) tt s) (sym same)

  status-put : (s : Cluster) (frame : StampedStatus) → worker_test w s ≡ Ok tt → frame ≡ reported w item s → is_offset frame.status.offset ≡ true →
      has_room (status_length s) (frame_of (status_body (frame ∷ []))) ≡ true →
      put_status w item s ≡ (Ok tt, reports w item frame.status.value.state (with_status frame s))
  status-put s frame passed same offset room = status-row s frame passed same ∙
      if-true (fits_status frame s) _ _ (and_from (is_offset frame.status.offset) (has_room (status_length s) (frame_of (status_body (frame ∷ [])))) offset room)

  -- it is to write the frame
  status-due : (s : Cluster) (frame : StampedStatus) → worker_test w s ≡ Ok tt → frame ≡ reported w item s → is_offset frame.status.offset ≡ true →
      1 ≤ length (status_body (frame ∷ [])) → IsDue Status (put_status w item) (status_body (frame ∷ [])) s
  status-due s frame passed same offset some = record {
    some = some;
    alive = open-alive s.closed _ passed;
    full = λ none. status-row s frame passed same ∙
        if-false (fits_status frame s) _ _ (and_right (is_offset frame.status.offset) (has_room (status_length s) (frame_of (status_body (frame ∷ [])))) none);
    room = λ room. record {
      answer = tt;
      done = ap (λ (a : Answer (Unit {0})). a.0) (status-put s frame passed same offset room);
      stored = ap (λ (a : Answer (Unit {0})). stored_of a.1) (status-put s frame passed same offset room) ∙
          ap (λ (l : List (List ℕ)). record (stored_of s) { status = record { frames = l; side = s.status.side } })
          (map-push records_bytes s.status.frames (status_applied frame ∷ []));
    };
  }

  pub status-readies : (old new : Kept) (frame : StampedStatus) → worker_test w old.state ≡ Ok tt → frame ≡ reported w item old.state →
      is_offset frame.status.offset ≡ true → 1 ≤ length (status_body (frame ∷ [])) → new.state ≡ old.state → new.setting ≡ old.setting →
      Readies Status (put_status w item) (status_body (frame ∷ [])) old new
  status-readies old new frame passed same offset some state setting =
      record { due = status-due old.state frame passed same offset some; state = state; setting = setting }

  -- the worker's test refuses it
  pub status-refuses : (old new : Kept) (fault : WorldFault) → worker_test w old.state ≡ Err fault → new.state ≡ old.state → new.setting ≡ old.setting →
      Refuses (put_status w item) fault old new
  status-refuses old new fault failed state setting = refuses-same (put_status w item) fault old new
      (λ e. refuses (worker_test w old.state) (λ fault. refused fault old.state) (put_status w item old.state) (status_done old.state) fault
      (by-worker status_done old.state w) failed) state setting

  -- it is refused where there is no room
  pub status-full : (old new : Kept) (size : ℕ) (frame : StampedStatus) (why : WorldFault) → worker_test w old.state ≡ Ok tt →
      frame ≡ reported w item old.state → (old.state.closed ≡ None → size ≡ status_length old.state) → (why ≢ Memory → HasNoRoom size frame why) →
      new.state ≡ old.state → new.setting ≡ old.setting → Refuses (put_status w item) why old new
  status-full old new size frame why passed same size-is none state setting = refuses-same (put_status w item) why old new
      (λ other.
      let here : HasNoRoom (status_length old.state) frame why =
      subst (λ (n : ℕ). HasNoRoom n frame why) (size-is (open-alive old.state.closed _ passed)) (none other) in
      status-row old.state frame passed same ∙ if-false (fits_status frame old.state) _ _ here.none ∙
      ap (λ (f : WorldFault). refused f old.state) (sym here.told))
      state setting

  pub status-puts : (old new : Kept) (frame : StampedStatus) → worker_test w old.state ≡ Ok tt → frame ≡ reported w item old.state →
      is_offset frame.status.offset ≡ true → has_room (status_length old.state) (frame_of (status_body (frame ∷ []))) ≡ true →
      new.state ≡ reports w item frame.status.value.state (with_status frame old.state) → new.setting ≡ old.setting → Puts (put_status w item) tt old new
  status-puts old new frame passed same offset room state setting = record {
    row = status-put old.state frame passed same offset room ∙ ap (λ (t : Cluster). (Ok tt, t)) (sym state);
    setting = setting;
    closed = ap (λ (t : Cluster). t.closed) state;
  }

-- ---- the parts of the cluster

-- the state behind a report, part by part
pub state-reported : (topics after : TopicsState) (crew next : CrewState) (circle : CircleState) (journal : List JournalEntry)
    (closed : Option (DiskName × ℕ)) (frame : StampedStatus) (w : ℕ) (item : Item) (state : State) (s : Cluster) →
    state_of topics circle crew journal closed ≡ s →
    after ≡ record topics {
      status = record (topics.status) { frames = topics.status.frames ++ (status_applied frame ∷ []) ∷ [] };
      statuses = record { list = topics.statuses.list ++ frame ∷ []; reserved = after.statuses.reserved };
    } → next ≡ with_reports w item state crew → state_of after circle next journal closed ≡ reports w item state (with_status frame s)
state-reported topics after crew next circle journal closed frame w item state s is put report =
    ap (λ (t : TopicsState). state_of t circle next journal closed) put ∙
    ap (λ (c : CrewState). state_of (record topics {
      status = record (topics.status) { frames = topics.status.frames ++ (status_applied frame ∷ []) ∷ [] };
      statuses = record { list = topics.statuses.list ++ frame ∷ []; reserved = after.statuses.reserved };
    }) circle c journal closed) report ∙
    ap (λ (t : Cluster). reports w item state (with_status frame t)) is

-- the status of an instance, by what its worker has read
pub status-kept : (topics : TopicsState) (crew : CrewState) (circle : CircleState) (journal : List JournalEntry) (closed : Option (DiskName × ℕ))
    (s : Cluster) → IsCluster topics crew → state_of topics circle crew journal closed ≡ s → (w : ℕ) → w < length s.rows → (row : Row) (read : List ConfigRecord)
    (i : Instance) → row ≡ get_or crew.rows w no_row → read ≡ get_or crew.reads w [] → status_in w row read i ≡ status_of w i s
status-kept topics crew circle journal closed s known is w there row read i row-is read-is =
    let within : w < length crew.rows = subst (λ (t : Cluster). w < length t.rows) (sym is) there in
    ap (λ (r : Row). status_in w r read i) row-is ∙
    ap (λ (l : List ConfigRecord). status_in w (get_or crew.rows w no_row) l i) (read-is ∙ known.reads w within) ∙
    ap (λ (t : Cluster). status_of w i t) is

-- the record that is made is what is reported
pub record-reported : (topics : TopicsState) (crew : CrewState) (circle : CircleState) (journal : List JournalEntry) (closed : Option (DiskName × ℕ))
    (s : Cluster) → state_of topics circle crew journal closed ≡ s → (w : ℕ) (item : Item) (value : StatusValue) →
    value ≡ status_of w (instance_at w item s) s → record_in (length topics.entries.entries) topics.statuses.list item value ≡ reported w item s
record-reported topics crew circle journal closed s is w item value same =
    ap (λ (t : Cluster). record_in (length t.entries) t.statuses item value) is ∙
    ap (λ (v : StatusValue). record_in (length s.entries) s.statuses item v) same
