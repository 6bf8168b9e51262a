-- What the tests of a task say of its row, and what the row of an event is that writes an entry to the data log.
use Rattle.std.proofs.Common.{◌≡◌, ◌≢◌, ℕ, ◌+◌, ◌^◌, ◌==◌, ◌≤◌, Bool, true, false, List, [], ◌∷◌, ◌++◌, length, Option, Some, None, Result, Ok, Err, if◌then◌else◌, refl, sym, ◌∙◌, ap, subst, arith}
use Rattle.cw_types.specs.declared.ids.Tag.{Tag}
use Rattle.cw_types.specs.declared.logs.DiskName.{DiskName}
use Rattle.cw_types.specs.declared.logs.LogName.{LogName}
use Rattle.cw_model.specs.EventsMarking.{mark}
use Rattle.cw_rows.specs.Marking.{marked_tag, marked_so, data_marker}
use Rattle.cw_types.specs.declared.logs.LogName.TheVariants.{Batches}
use Rattle.std.proofs.lemmas.Bool.{false_from_ne_true, leb-true}
use Rattle.cw_data.specs.declared.entry.Batch.{Batch}
use Rattle.cw_data.specs.declared.entry.DataEntry.{DataEntry}
use Rattle.cw_data.specs.declared.entry.DataEntry.TheVariants.{Batch as InBatch, Mark}
use Rattle.cw_data.specs.Body.{entry_bytes}
use Rattle.cw_model.specs.declared.fault.WorldFault.{WorldFault}
use Rattle.cw_model.specs.declared.fault.WorldFault.TheVariants.{Gone, Fenced, BadCut, Full, Memory}
use Rattle.cw_model.specs.declared.instance.Cut.{Cut}
use Rattle.cw_model.specs.declared.instance.InstancePhase.TheVariants as phase
use Rattle.cw_model.specs.State.{Cluster, Setting}
use Rattle.cw_model.specs.Answers.{Answer, refused, unless_closed, at_instance}
use Rattle.cw_model.specs.Bodies.{data_length, frame_of, has_room}
use Rattle.cw_model.specs.EventsSources.{produce, is_bad_cut, batch_of}
use Rattle.cw_model.specs.Lookups.{instance_of, last_epoch}
use Rattle.cw_model.specs.Phases.{is_ended}
use Rattle.cw_model.specs.Reopening.{stored_of}
use Rattle.cw_model.specs.Tasks.{taking}
use Rattle.cw_model.specs.Updates.{with_data, fits_data, appends_data, as_producer, changes_instance, epoch_in, tid_of}
use Rattle.cw_model.specs.declared.journal.JournalEntry.{JournalEntry}
use Rattle.cw_rows.specs.Crew.{CrewState, with_instance}
use Rattle.cw_group.specs.Circle.{CircleState}
use Rattle.cw_topics.specs.Topics.{TopicsState}
use Rattle.cw_rows.specs.Kept.{Kept, state_of, open_test, instance_test, HasSameLogs}
use Rattle.cw_rows.specs.Producing.{producer_test, writing_test, cut_test, producing_test, AddsData, IsTooLong}
use Rattle.cw_rows.specs.Writes.{IsDue, Readies, Refuses, Puts}
use Rattle.std.specs.Result.{result_and}
use Rattle.cw_rows.proofs.Lists.{if-true, map-push}

-- ---- an event by its tests

-- what is done where a test passes; what doesn't is refused
abbrev pub by_tests : {A : Type 0} → Cluster → Result (Unit {0}) WorldFault → Answer A → Answer A
by_tests s (Ok u) done = done
by_tests s (Err fault) done = refused fault s

pub tests-pass : {A : Type 0} (s : Cluster) (test : Result (Unit {0}) WorldFault) (whole done : Answer A) →
    whole ≡ by_tests s test done → test ≡ Ok tt → whole ≡ done
tests-pass {A} s test whole done by passed = by ∙ ap (λ (t : Result (Unit {0}) WorldFault). by_tests s t done) passed

pub tests-refuse : {A : Type 0} (s : Cluster) (test : Result (Unit {0}) WorldFault) (whole done : Answer A) (fault : WorldFault) →
    whole ≡ by_tests s test done → test ≡ Err fault → whole ≡ refused fault s
tests-refuse {A} s test whole done fault by failed = by ∙ ap (λ (t : Result (Unit {0}) WorldFault). by_tests s t done) failed

writes-by : {A : Type 0} (s : Cluster) (done : Answer A) (closed : Option (DiskName × ℕ)) (ended last : Bool) (gone fenced : WorldFault) →
    unless_closed closed (if ended then refused gone s else (if last then done else refused fenced s)) s
    ≡ by_tests s (result_and (open_test closed (if ended then Err gone else Ok tt)) (if last then Ok tt else Err fenced)) done
writes-by s done None true last gone fenced = refl
writes-by s done None false true gone fenced = refl
writes-by s done None false false gone fenced = refl
writes-by s done (Some fault) ended last gone fenced = refl

-- what a task writes, by its tests
pub by-writing : {A : Type 0} (done : Cluster → Answer A) (s : Cluster) (i : ℕ) →
    at_instance i (λ s. as_producer i (done s) s) s ≡ by_tests s (writing_test i s) (done s)
by-writing done s i = writes-by s (done s) s.closed (is_ended (instance_of i s).phase)
    (epoch_in (instance_of i s).epoch == last_epoch (tid_of (instance_of i s).item) s) (Gone i)
    (Fenced (epoch_in (instance_of i s).epoch) (last_epoch (tid_of (instance_of i s).item) s))

produces-by : {A : Type 0} (s : Cluster) (done : Answer A) (test : Result (Unit {0}) WorldFault) (bad : Bool) (fault : WorldFault) →
    by_tests s test (if bad then refused fault s else done) ≡ by_tests s (result_and test (if bad then Err fault else Ok tt)) done
produces-by s done (Ok u) true fault = refl
produces-by s done (Ok u) false fault = refl
produces-by s done (Err other) bad fault = refl

-- what a task produces
abbrev pub produced : Setting → ℕ → Cut → Cluster → Answer (Unit {0})
produced setting i cut s =
    appends_data (batch_of setting.feeds (instance_of i s) cut) (changes_instance i (taking phase.Produced cut)) tt s

pub by-producing : (setting : Setting) (i : ℕ) (cut : Cut) (s : Cluster) →
    produce setting i cut s ≡ by_tests s (producing_test setting i cut s) (produced setting i cut s)
by-producing setting i cut s =
    by-writing (λ s. if is_bad_cut setting.feeds (instance_of i s) cut then refused (BadCut cut.from cut.to) s else produced setting i cut s) s i
    ∙ produces-by s (produced setting i cut s) (writing_test i s) (is_bad_cut setting.feeds (instance_of i s) cut) (BadCut cut.from cut.to)

-- ---- where the tests passed

pub first-passed : (test other : Result (Unit {0}) WorldFault) → result_and test other ≡ Ok tt → test ≡ Ok tt
first-passed (Ok u) other passed = refl
first-passed (Err fault) other passed = passed

pub second-passed : (test other : Result (Unit {0}) WorldFault) → result_and test other ≡ Ok tt → other ≡ Ok tt
second-passed (Ok u) other passed = passed
second-passed (Err fault) other passed = absurd (cc)

is-open : (closed : Option (DiskName × ℕ)) (test : Result (Unit {0}) WorldFault) → open_test closed test ≡ Ok tt → closed ≡ None
is-open None test passed = refl
is-open (Some fault) test passed = absurd (cc)

pub writing-open : (i : ℕ) (s : Cluster) → writing_test i s ≡ Ok tt → s.closed ≡ None
writing-open i s passed = is-open s.closed _ (first-passed (instance_test i s) (producer_test i s) passed)

runs-on : (closed : Option (DiskName × ℕ)) (ended : Bool) (fault : WorldFault) →
    open_test closed (if ended then Err fault else Ok tt) ≡ Ok tt → ended ≡ false
runs-on None true fault passed = absurd (cc)
runs-on None false fault passed = refl
runs-on (Some closed) ended fault passed = absurd (cc)

pub writing-runs : (i : ℕ) (s : Cluster) → writing_test i s ≡ Ok tt → is_ended (instance_of i s).phase ≡ false
writing-runs i s passed = runs-on s.closed (is_ended (instance_of i s).phase) (Gone i) (first-passed (instance_test i s) (producer_test i s) passed)

abbrev unless_bad : Bool → WorldFault → Result (Unit {0}) WorldFault
unless_bad bad fault = if bad then Err fault else Ok tt

not-bad : (bad : Bool) (fault : WorldFault) → unless_bad bad fault ≡ Ok tt → bad ≡ false
not-bad true fault passed = absurd (cc)
not-bad false fault passed = refl

-- the cut that passed isn't bad
pub cut-passed : (setting : Setting) (i : ℕ) (cut : Cut) (s : Cluster) → cut_test setting.feeds cut (instance_of i s) ≡ Ok tt →
    is_bad_cut setting.feeds (instance_of i s) cut ≡ false
cut-passed setting i cut s passed = not-bad (is_bad_cut setting.feeds (instance_of i s) cut) (BadCut cut.from cut.to) passed

-- a batch that passed its tests is one entry more
pub produces : (setting : Setting) (i : ℕ) (cut : Cut) (s : Cluster) (entry : DataEntry) → entry ≡ batch_of setting.feeds (instance_of i s) cut →
    producing_test setting i cut s ≡ Ok tt → AddsData (produce setting i cut) entry (changes_instance i (taking phase.Produced cut)) tt s
produces setting i cut s entry is passed = record {
  alive = writing-open i s (first-passed (writing_test i s) (cut_test setting.feeds cut (instance_of i s)) passed);
  comes = tests-pass s (producing_test setting i cut s) _ _ (by-producing setting i cut s) passed ∙
      ap (λ (e : DataEntry). appends_data e (changes_instance i (taking phase.Produced cut)) tt s) (sym is);
}

pub produce-refused : (setting : Setting) (i : ℕ) (cut : Cut) (s : Cluster) (fault : WorldFault) →
    producing_test setting i cut s ≡ Err fault → produce setting i cut s ≡ refused fault s
produce-refused setting i cut s fault failed = tests-refuse s (producing_test setting i cut s) _ _ fault (by-producing setting i cut s) failed

-- ---- what writes an entry to the data log

if-false : {A : Type 0} (b : Bool) (x y : A) → b ≡ false → (if b then x else y) ≡ y
if-false true x y is = absurd (cc)
if-false false x y is = refl

pub has-bytes : (entry : DataEntry) → 1 ≤ length (entry_bytes entry)
has-bytes (InBatch batch) = omega arith
has-bytes (Mark tag committed) = omega arith

module _ {A : Type 0} (event : Cluster → Answer A) (entry : DataEntry) (change : Cluster → Cluster) (answer : A) (s : Cluster)
    (adds : AddsData event entry change answer s) where
  -- where there is room, it is done
  pub data-put : has_room (data_length s) (frame_of (entry_bytes entry)) ≡ true → event s ≡ (Ok answer, change (with_data entry s))
  data-put room = adds.comes ∙ if-true (fits_data entry s) _ _ room

  -- it is to write the frame, where the change touches no log
  pub data-due : stored_of (change (with_data entry s)) ≡ stored_of (with_data entry s) → IsDue Batches event (entry_bytes entry) s
  data-due logs = record {
    some = has-bytes entry;
    alive = adds.alive;
    full = λ none. adds.comes ∙ if-false (fits_data entry s) _ _ none;
    room = λ room. record {
      answer = answer;
      done = ap (λ (a : Answer A). a.0) (data-put room);
      stored = ap (λ (a : Answer A). stored_of a.1) (data-put room) ∙ logs ∙
          ap (λ (l : List (List ℕ)). record (stored_of s) { batches = l }) (map-push entry_bytes s.batches entry);
    };
  }

-- ---- refusals

-- it is refused, or memory is wanting, and nothing has changed
pub refuses-so : {A : Type 0} (event : Cluster → Answer A) (fault : WorldFault) (old new : Kept) → new.state ≡ old.state → new.setting ≡ old.setting →
    (fault ≢ Memory → event old.state ≡ refused fault old.state) → Refuses event fault old new
refuses-so {A} event fault old new same setting row = record {
  row = λ other. row other ∙ ap (λ (t : Cluster). refused {A = A} fault t) (sym same);
  wants = λ e. same;
  setting = setting;
  logs = subst (λ (t : Cluster). HasSameLogs old.state t) (sym same)
      (record { config = refl; offsets = refl; status = refl; txn = refl; batches = refl; closed = refl });
}

-- a batch that no log has room for is refused as in a full one
pub refuses-long : (i : ℕ) (cut : Cut) (batch : Batch) (bytes : ℕ) (fault : WorldFault) (old new : Kept) → new.state ≡ old.state → new.setting ≡ old.setting →
    InBatch batch ≡ batch_of old.setting.feeds (instance_of i old.state) cut → producing_test old.setting i cut old.state ≡ Ok tt →
    (old.state.closed ≡ None → bytes ≡ data_length old.state) → (fault ≢ Memory → IsTooLong batch bytes fault) →
    Refuses (produce old.setting i cut) fault old new
refuses-long i cut batch bytes fault old new same setting is passed size long =
    refuses-so (produce old.setting i cut) fault old new same setting (λ other. row (long other))
  where
    adds : AddsData (produce old.setting i cut) (InBatch batch) (changes_instance i (taking phase.Produced cut)) tt old.state
    adds = produces old.setting i cut old.state (InBatch batch) is passed

    none : IsTooLong batch bytes fault → fits_data (InBatch batch) old.state ≡ false
    none l = false_from_ne_true (fits_data (InBatch batch) old.state) (λ fits.
        absurd (omega (arith, l.long, leb-true (data_length old.state + (length (entry_bytes (InBatch batch)) + 5)) (2 ^ 28) fits)))

    row : IsTooLong batch bytes fault → produce old.setting i cut old.state ≡ refused fault old.state
    row l = adds.comes ∙ if-false (fits_data (InBatch batch) old.state) _ _ (none l) ∙
        ap (λ (f : WorldFault). refused {A = Unit {0}} f old.state)
        (ap (λ (n : ℕ). Full Batches n (frame_of (entry_bytes (InBatch batch)))) (sym (size adds.alive)) ∙ sym l.full)

-- ---- markers

opens-by : {A : Type 0} (s : Cluster) (done : Answer A) (closed : Option (DiskName × ℕ)) →
    unless_closed closed done s ≡ by_tests s (open_test closed (Ok tt)) done
opens-by s done None = refl
opens-by s done (Some fault) = refl

-- the answer that tells of a marker
abbrev pub told_mark : LogName → Cluster → Tag × Bool
told_mark log s = (marked_tag log s, marked_so log s)

by-marking : (s : Cluster) → mark Batches s ≡ by_tests s (open_test s.closed (Ok tt)) (appends_data (data_marker s) (λ t. t) (told_mark Batches s) s)
by-marking s = opens-by s (appends_data (data_marker s) (λ t. t) (told_mark Batches s) s) s.closed

pub marks-data : (s : Cluster) → s.closed ≡ None → AddsData (mark Batches) (data_marker s) (λ t. t) (told_mark Batches s) s
marks-data s alive = record {
  alive = alive;
  comes = tests-pass s (open_test s.closed (Ok tt)) _ _ (by-marking s) (ap (λ (c : Option (DiskName × ℕ)). open_test c (Ok tt)) alive);
}

pub mark-refused : (s : Cluster) (fault : WorldFault) → open_test s.closed (Ok tt) ≡ Err fault → mark Batches s ≡ refused fault s
mark-refused s fault failed = tests-refuse s (open_test s.closed (Ok tt)) _ _ fault (by-marking s) failed

pub open-passed : (s : Cluster) → open_test s.closed (Ok tt) ≡ Ok tt → s.closed ≡ None
open-passed s passed = is-open s.closed (Ok tt) passed

-- ---- the halves of each event

pub producing-runs : (setting : Setting) (i : ℕ) (cut : Cut) (s : Cluster) → producing_test setting i cut s ≡ Ok tt →
    is_ended (instance_of i s).phase ≡ false
producing-runs setting i cut s passed =
    writing-runs i s (first-passed (writing_test i s) (cut_test setting.feeds cut (instance_of i s)) passed)

module _ {A : Type 0} (event : Cluster → Answer A) (entry : DataEntry) (change : Cluster → Cluster) (answer : A) (old new : Kept)
    (adds : AddsData event entry change answer old.state) (setting : new.setting ≡ old.setting) where
  readies-data : stored_of (change (with_data entry old.state)) ≡ stored_of (with_data entry old.state) → new.state ≡ old.state →
      Readies Batches event (entry_bytes entry) old new
  readies-data logs same = record { due = data-due event entry change answer old.state adds logs; state = same; setting = setting }

  puts-data : has_room (data_length old.state) (frame_of (entry_bytes entry)) ≡ true → new.state ≡ change (with_data entry old.state) →
      new.state.closed ≡ old.state.closed → Puts event answer old new
  puts-data room is closed = record {
    row = data-put event entry change answer old.state adds room ∙ ap (λ (t : Cluster). (Ok answer, t)) (sym is);
    setting = setting;
    closed = closed;
  }

module _ (i : ℕ) (cut : Cut) (entry : DataEntry) (old new : Kept) (is : entry ≡ batch_of old.setting.feeds (instance_of i old.state) cut)
    (passed : producing_test old.setting i cut old.state ≡ Ok tt) (setting : new.setting ≡ old.setting) where
  pub readies-produce : new.state ≡ old.state → Readies Batches (produce old.setting i cut) (entry_bytes entry) old new
  readies-produce same = readies-data (produce old.setting i cut) entry (changes_instance i (taking phase.Produced cut)) tt old new
      (produces old.setting i cut old.state entry is passed) setting refl same

  pub puts-produce : has_room (data_length old.state) (frame_of (entry_bytes entry)) ≡ true →
      new.state ≡ changes_instance i (taking phase.Produced cut) (with_data entry old.state) → Puts (produce old.setting i cut) tt old new
  puts-produce room now = puts-data (produce old.setting i cut) entry (changes_instance i (taking phase.Produced cut)) tt old new
      (produces old.setting i cut old.state entry is passed) setting room now (ap (λ (t : Cluster). t.closed) now)

pub refuses-produce : (i : ℕ) (cut : Cut) (fault : WorldFault) (old new : Kept) → new.state ≡ old.state → new.setting ≡ old.setting →
    (fault ≢ Memory → producing_test old.setting i cut old.state ≡ Err fault) → Refuses (produce old.setting i cut) fault old new
refuses-produce i cut fault old new same setting failed =
    refuses-so (produce old.setting i cut) fault old new same setting (λ other. produce-refused old.setting i cut old.state fault (failed other))

module _ (entry : DataEntry) (old new : Kept) (is : entry ≡ data_marker old.state) (passed : open_test old.state.closed (Ok tt) ≡ Ok tt)
    (setting : new.setting ≡ old.setting) where
  marks-so : AddsData (mark Batches) entry (λ t. t) (told_mark Batches old.state) old.state
  marks-so = subst (λ (e : DataEntry). AddsData (mark Batches) e (λ t. t) (told_mark Batches old.state) old.state) (sym is)
      (marks-data old.state (open-passed old.state passed))

  pub readies-mark : new.state ≡ old.state → Readies Batches (mark Batches) (entry_bytes entry) old new
  readies-mark same = readies-data (mark Batches) entry (λ t. t) (told_mark Batches old.state) old new marks-so setting refl same

  pub puts-mark : has_room (data_length old.state) (frame_of (entry_bytes entry)) ≡ true → new.state ≡ with_data entry old.state →
      Puts (mark Batches) (told_mark Batches old.state) old new
  puts-mark room now = puts-data (mark Batches) entry (λ t. t) (told_mark Batches old.state) old new marks-so setting room now
      (ap (λ (t : Cluster). t.closed) now)

pub refuses-mark : (fault : WorldFault) (old new : Kept) → new.state ≡ old.state → new.setting ≡ old.setting →
    (fault ≢ Memory → open_test old.state.closed (Ok tt) ≡ Err fault) → Refuses (mark Batches) fault old new
refuses-mark fault old new same setting failed =
    refuses-so (mark Batches) fault old new same setting (λ other. mark-refused old.state fault (failed other))

-- the state once a batch was put in and its cut was taken
pub state-produced : (topics now : TopicsState) (crew after : CrewState) (circle : CircleState) (journal : List JournalEntry)
    (closed : Option (DiskName × ℕ)) (entry : DataEntry) (reserved : List DataEntry) (i : ℕ) (cut : Cut) (s : Cluster) →
    state_of topics circle crew journal closed ≡ s →
    now ≡ record topics { batches = record { entries = topics.batches.entries ++ entry ∷ []; reserved = reserved } } →
    after ≡ with_instance i (taking phase.Produced cut) crew →
    state_of now circle after journal closed ≡ changes_instance i (taking phase.Produced cut) (with_data entry s)
state-produced topics now crew after circle journal closed entry reserved i cut s is added taken =
    ap (λ (t : TopicsState). state_of t circle after journal closed) added ∙
    ap (λ (k : CrewState). state_of (record topics { batches = record { entries = topics.batches.entries ++ entry ∷ []; reserved = reserved } }) circle k journal closed) taken ∙
    ap (λ (t : Cluster). changes_instance i (taking phase.Produced cut) (with_data entry t)) is
