-- What the row of an event is that writes an entry to the offset log.
use Rattle.std.proofs.Common.{◌≡◌, ◌≢◌, ℕ, ◌≤◌, ◌<◌, ◌^◌, ◌&&◌, Bool, true, false, List, [], ◌∷◌, ◌++◌, length, Option, Some, None, Ok, Err, if◌then◌else◌, nat_lt, refl, sym, ◌∙◌, ap, subst, arith, length-append}
use Rattle.std.proofs.lemmas.Bool.{lt-ltb, le-ltb}
use Rattle.cw_types.specs.declared.ids.Span.{Span}
use Rattle.cw_types.specs.declared.ids.Tag.{Tag}
use Rattle.cw_types.specs.declared.logs.DiskName.{DiskName}
use Rattle.cw_types.specs.declared.logs.LogName.TheVariants.{Offsets}
use Rattle.cw_bytes.specs.Spelling.{long, word, tag_bytes, text, value_bytes, records_bytes}
use Rattle.cw_keys.specs.Parts.{part_text}
use Rattle.cw_keys.specs.Offsets.{offset_text}
use Rattle.cw_offset.specs.Body.{entry_bytes}
use Rattle.cw_offset.specs.Calls.{Calls}
use Rattle.cw_offset.specs.Log.{offset_tag, is_marked}
use Rattle.cw_offset.specs.declared.body.OffsetEntry.{OffsetEntry}
use Rattle.cw_offset.specs.declared.body.OffsetEntry.TheVariants.{Records, Mark}
use Rattle.cw_group.specs.Circle.{CircleState}
use Rattle.cw_model.specs.declared.fault.WorldFault.{WorldFault}
use Rattle.cw_model.specs.declared.fault.WorldFault.TheVariants.{Full, Memory}
use Rattle.cw_model.specs.declared.instance.InstancePhase.TheVariants as phase
use Rattle.cw_model.specs.declared.journal.JournalEntry.{JournalEntry}
use Rattle.cw_model.specs.State.{Cluster}
use Rattle.cw_model.specs.Answers.{Answer, refused, unless_closed}
use Rattle.cw_model.specs.Bodies.{offsets_length, frame_of, has_room}
use Rattle.cw_model.specs.EventsMarking.{mark}
use Rattle.cw_model.specs.EventsSources.{put_offsets}
use Rattle.cw_model.specs.Lookups.{instance_of}
use Rattle.cw_model.specs.Reopening.{stored_of}
use Rattle.cw_model.specs.Tasks.{tag_of}
use Rattle.cw_model.specs.Updates.{with_offset, fits_offset, appends_offset, changes_instance, in_phase, next_offset}
use Rattle.cw_rows.specs.Crew.{CrewState, with_instance}
use Rattle.cw_topics.specs.Topics.{TopicsState}
use Rattle.cw_rows.specs.Kept.{Kept, state_of, open_test}
use Rattle.cw_rows.specs.Marking.{marked_tag, marked_so}
use Rattle.cw_rows.specs.Offsets.{AddsOffset, offset_marker, offered, record_at}
use Rattle.cw_rows.specs.Producing.{writing_test}
use Rattle.cw_rows.specs.Writes.{IsDue, Readies, Refuses, Puts}
use Rattle.cw_rows.proofs.DataDue.{by_tests, tests-pass, tests-refuse, by-writing, writing-open, open-passed, refuses-so}
use Rattle.cw_rows.proofs.Lists.{if-true, map-push}

if-false : {A : Type 0} (b : Bool) (x y : A) → b ≡ false → (if b then x else y) ≡ y
if-false true x y is = absurd (cc)
if-false false x y is = refl

has-bytes : (entry : OffsetEntry) → 1 ≤ length (entry_bytes entry)
has-bytes (Records tag records) = omega arith
has-bytes (Mark mark) = omega arith

-- ---- what writes an entry to the offset log

module _ {A : Type 0} (event : Cluster → Answer A) (entry : OffsetEntry) (change : Cluster → Cluster) (answer : A) (s : Cluster)
    (adds : AddsOffset event entry change answer s) where
  roomy : fits_offset entry s ≡ has_room (offsets_length s) (frame_of (entry_bytes entry))
  roomy = ap (λ (b : Bool). b && has_room (offsets_length s) (frame_of (entry_bytes entry))) adds.fits

  -- where there is room, it is done
  pub offset-put : has_room (offsets_length s) (frame_of (entry_bytes entry)) ≡ true → event s ≡ (Ok answer, change (with_offset entry s))
  offset-put room = adds.comes ∙ if-true (fits_offset entry s) _ _ (roomy ∙ room)

  -- it is to write the frame, where the change touches no log
  pub offset-due : stored_of (change (with_offset entry s)) ≡ stored_of (with_offset entry s) → IsDue Offsets event (entry_bytes entry) s
  offset-due logs = record {
    some = has-bytes entry;
    alive = adds.alive;
    full = λ none. adds.comes ∙ if-false (fits_offset entry s) _ _ (roomy ∙ none);
    room = λ room. record {
      answer = answer;
      done = ap (λ (a : Answer A). a.0) (offset-put room);
      stored = ap (λ (a : Answer A). stored_of a.1) (offset-put room) ∙ logs ∙
          ap (λ (l : List (List ℕ)). record (stored_of s) { offsets = record { frames = l; side = s.offsets.side } }) (map-push entry_bytes s.offsets.frames entry);
    };
  }

module _ {A : Type 0} (event : Cluster → Answer A) (entry : OffsetEntry) (change : Cluster → Cluster) (answer : A) (old new : Kept)
    (adds : AddsOffset event entry change answer old.state) (setting : new.setting ≡ old.setting) where
  readies-offset : stored_of (change (with_offset entry old.state)) ≡ stored_of (with_offset entry old.state) → new.state ≡ old.state →
      Readies Offsets event (entry_bytes entry) old new
  readies-offset logs same = record { due = offset-due event entry change answer old.state adds logs; state = same; setting = setting }

  puts-offset : has_room (offsets_length old.state) (frame_of (entry_bytes entry)) ≡ true → new.state ≡ change (with_offset entry old.state) →
      new.state.closed ≡ old.state.closed → Puts event answer old new
  puts-offset room is closed = record {
    row = offset-put event entry change answer old.state adds room ∙ ap (λ (t : Cluster). (Ok answer, t)) (sym is);
    setting = setting;
    closed = closed;
  }

-- ---- markers

opens-by : {A : Type 0} (s : Cluster) (done : Answer A) (closed : Option (DiskName × ℕ)) →
    unless_closed closed done s ≡ by_tests s (open_test closed (Ok tt)) done
opens-by s done None = refl
opens-by s done (Some fault) = refl

-- the answer that tells of a marker
abbrev pub told_mark : Cluster → Tag × Bool
told_mark s = (marked_tag Offsets s, marked_so Offsets s)

by-marking : (s : Cluster) → mark Offsets s ≡ by_tests s (open_test s.closed (Ok tt)) (appends_offset (offset_marker s) (λ t. t) (told_mark s) s)
by-marking s = opens-by s (appends_offset (offset_marker s) (λ t. t) (told_mark s) s) s.closed

module _ (entry : OffsetEntry) (old new : Kept) (is : entry ≡ offset_marker old.state) (passed : open_test old.state.closed (Ok tt) ≡ Ok tt)
    (setting : new.setting ≡ old.setting) where
  marks-so : AddsOffset (mark Offsets) entry (λ t. t) (told_mark old.state) old.state
  marks-so = subst (λ (e : OffsetEntry). AddsOffset (mark Offsets) e (λ t. t) (told_mark old.state) old.state) (sym is) (record {
    alive = open-passed old.state passed;
    fits = refl;
    comes = tests-pass old.state (open_test old.state.closed (Ok tt)) _ _ (by-marking old.state) passed;
  })

  pub readies-offset_mark : new.state ≡ old.state → Readies Offsets (mark Offsets) (entry_bytes entry) old new
  readies-offset_mark same = readies-offset (mark Offsets) entry (λ t. t) (told_mark old.state) old new marks-so setting refl same

  pub puts-offset_mark : has_room (offsets_length old.state) (frame_of (entry_bytes entry)) ≡ true → new.state ≡ with_offset entry old.state →
      Puts (mark Offsets) (told_mark old.state) old new
  puts-offset_mark room now = puts-offset (mark Offsets) entry (λ t. t) (told_mark old.state) old new marks-so setting room now
      (ap (λ (t : Cluster). t.closed) now)

pub refuses-offset_mark : (fault : WorldFault) (old new : Kept) → new.state ≡ old.state → new.setting ≡ old.setting →
    (fault ≢ Memory → open_test old.state.closed (Ok tt) ≡ Err fault) → Refuses (mark Offsets) fault old new
refuses-offset_mark fault old new same setting failed =
    refuses-so (mark Offsets) fault old new same setting (λ other. tests-refuse old.state (open_test old.state.closed (Ok tt)) _ _ fault (by-marking old.state) (failed other))

-- ---- a task's offset

-- what a task does once it may write
abbrev pub offers : ℕ → Cluster → Answer (Unit {0})
offers i s = appends_offset (offered i s) (changes_instance i (in_phase phase.Offered)) tt s

by-offering : (i : ℕ) (s : Cluster) → put_offsets i s ≡ by_tests s (writing_test i s) (offers i s)
by-offering i s = by-writing (offers i) s i

pub put_offsets-refused : (i : ℕ) (s : Cluster) (fault : WorldFault) → writing_test i s ≡ Err fault → put_offsets i s ≡ refused fault s
put_offsets-refused i s fault failed = tests-refuse s (writing_test i s) _ _ fault (by-offering i s) failed

has-offset : (n : ℕ) → n < 2 ^ 64 → (nat_lt n (2 ^ 64) && true) ≡ true
has-offset n small = ap (λ (b : Bool). b && true) (lt-ltb n (2 ^ 64) small)

-- no offset is left
pub put_offsets-full : (i : ℕ) (s : Cluster) (size : ℕ) (fault : WorldFault) → writing_test i s ≡ Ok tt → 2 ^ 64 ≤ next_offset s →
    (s.closed ≡ None → size ≡ offsets_length s) → fault ≡ Full Offsets size (frame_of (entry_bytes (offered i s))) → put_offsets i s ≡ refused fault s
put_offsets-full i s size fault passed past length_is full =
    tests-pass s (writing_test i s) _ _ (by-offering i s) passed ∙
    if-false (fits_offset (offered i s) s) _ _ (ap (λ (b : Bool). (b && true) && has_room (offsets_length s) (frame_of (entry_bytes (offered i s)))) none) ∙
    ap (λ (f : WorldFault). refused {A = Unit {0}} f s)
    (ap (λ (n : ℕ). Full Offsets n (frame_of (entry_bytes (offered i s)))) (sym (length_is (writing-open i s passed))) ∙ sym full)
  where
    none : nat_lt (next_offset s) (2 ^ 64) ≡ false
    none = le-ltb (next_offset s) (2 ^ 64) past

-- the frame of a task's offset is as long whatever number its record has
abbrev numbered : Tag → Span → ℕ → ℕ → OffsetEntry
numbered tag span stamp n = Records tag (record_at n stamp span ∷ [])

length-long : (n : ℕ) → length (long n) ≡ 8
unfolding long
length-long n = refl

pub as_long : (tag : Tag) (span : Span) (stamp m n : ℕ) → length (entry_bytes (numbered tag span stamp m)) ≡ length (entry_bytes (numbered tag span stamp n))
as_long tag span stamp m n =
    let tail : List ℕ = long stamp ++ (text (part_text span.part) ++ value_bytes (Some (offset_text span.part span.to))) in
    omega (
      arith,
      length-long m,
      length-long n,
      length-append (tag_bytes tag) (records_bytes (record_at m stamp span ∷ [])),
      length-append (tag_bytes tag) (records_bytes (record_at n stamp span ∷ [])),
      length-append (word 1) ((long m ++ tail) ++ []),
      length-append (word 1) ((long n ++ tail) ++ []),
      length-append (long m ++ tail) [],
      length-append (long n ++ tail) [],
      length-append (long m) tail,
      length-append (long n) tail,
    )

module _ (i : ℕ) (entry : OffsetEntry) (old new : Kept) (is : entry ≡ offered i old.state) (passed : writing_test i old.state ≡ Ok tt)
    (small : next_offset old.state < 2 ^ 64) (setting : new.setting ≡ old.setting) where
  offers-so : AddsOffset (put_offsets i) entry (changes_instance i (in_phase phase.Offered)) tt old.state
  offers-so = subst (λ (e : OffsetEntry). AddsOffset (put_offsets i) e (changes_instance i (in_phase phase.Offered)) tt old.state) (sym is) (record {
    alive = writing-open i old.state passed;
    fits = has-offset (next_offset old.state) small;
    comes = tests-pass old.state (writing_test i old.state) _ _ (by-offering i old.state) passed;
  })

  pub readies-offered : new.state ≡ old.state → Readies Offsets (put_offsets i) (entry_bytes entry) old new
  readies-offered same = readies-offset (put_offsets i) entry (changes_instance i (in_phase phase.Offered)) tt old new offers-so setting refl same

  pub puts-offered : has_room (offsets_length old.state) (frame_of (entry_bytes entry)) ≡ true →
      new.state ≡ changes_instance i (in_phase phase.Offered) (with_offset entry old.state) → Puts (put_offsets i) tt old new
  puts-offered room now = puts-offset (put_offsets i) entry (changes_instance i (in_phase phase.Offered)) tt old new offers-so setting room now
      (ap (λ (t : Cluster). t.closed) now)

-- the state once an entry was put in
pub state-offset : (topics now : TopicsState) (crew : CrewState) (circle : CircleState) (journal : List JournalEntry)
    (closed : Option (DiskName × ℕ)) (entry : OffsetEntry) (told : Calls) (s : Cluster) →
    state_of topics circle crew journal closed ≡ s →
    now ≡ record topics { offsets = record topics.offsets { frames = topics.offsets.frames ++ entry ∷ []; told = told } } →
    state_of now circle crew journal closed ≡ with_offset entry s
state-offset topics now crew circle journal closed entry told s is added =
    ap (λ (t : TopicsState). state_of t circle crew journal closed) added ∙ ap (λ (t : Cluster). with_offset entry t) is

-- and the instance goes on
pub state-offered : (topics now : TopicsState) (crew after : CrewState) (circle : CircleState) (journal : List JournalEntry)
    (closed : Option (DiskName × ℕ)) (entry : OffsetEntry) (told : Calls) (i : ℕ) (s : Cluster) →
    state_of topics circle crew journal closed ≡ s →
    now ≡ record topics { offsets = record topics.offsets { frames = topics.offsets.frames ++ entry ∷ []; told = told } } →
    after ≡ with_instance i (in_phase phase.Offered) crew →
    state_of now circle after journal closed ≡ changes_instance i (in_phase phase.Offered) (with_offset entry s)
state-offered topics now crew after circle journal closed entry told i s is added on =
    ap (λ (t : TopicsState). state_of t circle after journal closed) added ∙
    ap (λ (k : CrewState). state_of (record topics { offsets = record topics.offsets { frames = topics.offsets.frames ++ entry ∷ []; told = told } }) circle k journal closed) on ∙
    ap (λ (t : Cluster). changes_instance i (in_phase phase.Offered) (with_offset entry t)) is

-- ---- no frame stands behind its transaction's marker

pub unmarked-offered : (i : ℕ) (frame : OffsetEntry) (s : Cluster) (frames : List OffsetEntry) → frame ≡ offered i s → frames ≡ s.offsets.frames →
    is_marked (tag_of (instance_of i s)) s.offsets.frames ≡ false → (tag : Tag) → offset_tag frame ≡ Some tag → is_marked tag frames ≡ false
unmarked-offered i frame s frames is same unmarked tag told =
    let both : Some (tag_of (instance_of i s)) ≡ Some tag = sym (ap (λ (e : OffsetEntry). offset_tag e) is) ∙ told in
    let one : tag_of (instance_of i s) ≡ tag = cc in
    subst (λ (l : List OffsetEntry). is_marked tag l ≡ false) (sym same) (subst (λ (t : Tag). is_marked t s.offsets.frames ≡ false) one unmarked)

pub unmarked-marker : (frame : OffsetEntry) (s : Cluster) (frames : List OffsetEntry) → frame ≡ offset_marker s →
    (tag : Tag) → offset_tag frame ≡ Some tag → is_marked tag frames ≡ false
unmarked-marker frame s frames is tag told =
    let none : ◌≡◌ {A = Option Tag} None (Some tag) = sym (ap (λ (e : OffsetEntry). offset_tag e) is) ∙ told in
    absurd (cc)
