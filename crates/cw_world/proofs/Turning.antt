-- A log that is compacted onto its other side holds what its row says, and the world has all facts behind it.
use Rattle.std.proofs.Common.{◌≡◌, ◌≢◌, ◌⊎◌, [], ◌∷◌, inl, inr, ⊎_elim, ℕ, ◌+◌, ◌-◌, ◌<◌, ◌≤◌, ◌^◌, All, true, List, length, map, nat_lt, Bool, false, if◌then◌else◌, Option, Some, None, Result, Ok, Err, option_map, refl, sym, ◌∙◌, ap, subst, arith}
use Rattle.std.proofs.lemmas.Bool.Decides.{nat_tests}
use Rattle.std.specs.List.{AllByRecursion, flat_map}
use Rattle.std.proofs.lemmas.List.Elements.{All-from_recursion}
use Rattle.logbook.specs.Pages.{Book}
use Rattle.cw_types.specs.declared.logs.DiskName.{DiskName}
use Rattle.cw_types.specs.declared.logs.LogName.{LogName}
use Rattle.cw_types.specs.declared.logs.LogName.TheVariants.{Config, Offsets, Status, Txn, Batches}
use Rattle.cw_bytes.specs.Spelling.{AreRecords, records_bytes}
use Rattle.cw_bytes.specs.Frames.{joined}
use Rattle.cw_disk.specs.declared.device.Disk.{Ghosts}
use Rattle.cw_disk.specs.Disk.{AddsOf}
use Rattle.cw_log.specs.Log.{IsBody, length_of}
use Rattle.cw_pair.specs.State.{PairState, StandsSince, bodies_of, disks_of, faults_of}
use Rattle.cw_compact.specs.Left.{Fits}
use Rattle.cw_config.specs.Compaction.{compact_configs}
use Rattle.cw_offset.specs.declared.body.OffsetEntry.{OffsetEntry}
use Rattle.cw_offset.specs.declared.body.OffsetEntry.TheVariants.{Records, Mark}
use Rattle.cw_offset.specs.Body.{IsEntry, HasRecords, entry_bytes}
use Rattle.cw_offset.specs.Log.{offset_records}
use Rattle.cw_offset.specs.Compaction.{compact_offsets}
use Rattle.cw_status.specs.Compaction.{compact_statuses}
use Rattle.cw_model.specs.declared.fault.WorldFault.{WorldFault}
use Rattle.cw_model.specs.declared.fault.WorldFault.TheVariants.{Fenced, StaleGeneration, PendingFence, BadCut, Gone, Full, StoreFault, Closed, Dead, Group, TooMany, Memory}
use Rattle.cw_model.specs.State.{Setting, Cluster}
use Rattle.cw_model.specs.Answers.{Answer, answered, refused, at_open, unless_closed}
use Rattle.cw_model.specs.Bodies.{config_length, offsets_length, status_length, most_log}
use Rattle.cw_model.specs.EventsCompaction.{compact, compacts}
use Rattle.cw_model.specs.Facts.{AreFacts}
use Rattle.cw_model.specs.Reopening.{stored_of, closed_by}
use Rattle.cw_model.specs.StandsFor.{Stored}
use Rattle.cw_laws.specs.Laws.{Keeps}
use Rattle.cw_laws.proofs.Clock.{closes-keeps}
use Rattle.cw_rows.specs.Kept.{Kept, open_test}
use Rattle.cw_rows.specs.Writes.{Puts, Refuses, bytes_in}
use Rattle.cw_world.specs.Logs.{LogsState, HoldsList, Holds, HoldAll, HaveSameOthers, HasSameBodies, KeepsOn, AreSides, AddsTo, LeavesNow, PairLeavesNow, IsApart, view_in, view_of_pair, list_in, faults_in}
use Rattle.cw_world.specs.Rewrite.{IsRewrite, MayTurn}
use Rattle.cw_world.specs.World.{WorldState, IsWorld, Writes}
use Rattle.cw_world.proofs.Sides.{keep-sides}
use Rattle.cw_world.proofs.Holding.{lists-apart, AreSameOthers, same-others, hold-behind, holds-same, less-added, less-left, only-config, only-offsets, only-status}
use Rattle.cw_world.proofs.Writing.{Comes}

-- ---- what is stored then

-- one log has this list, of two sides on the side of this number
abbrev pub turned : LogName → List (List ℕ) → ℕ → Stored → Stored
turned Config bodies side stored = record stored { config = record { frames = bodies; side = side } }
turned Offsets bodies side stored = record stored { offsets = record { frames = bodies; side = side } }
turned Status bodies side stored = record stored { status = record { frames = bodies; side = side } }
turned Txn bodies side stored = record stored { txn = bodies }
turned Batches bodies side stored = record stored { batches = bodies }

list-turned : (name : LogName) (bodies : List (List ℕ)) (side : ℕ) (stored : Stored) → list_in name (turned name bodies side stored) ≡ bodies
list-turned Config bodies side stored = refl
list-turned Offsets bodies side stored = refl
list-turned Status bodies side stored = refl
list-turned Txn bodies side stored = refl
list-turned Batches bodies side stored = refl

others-turned : (name : LogName) (bodies : List (List ℕ)) (side : ℕ) (stored : Stored) → AreSameOthers name stored (turned name bodies side stored)
others-turned Config bodies side stored = record { config = λ n. absurd (n refl); offsets = λ n. refl; status = λ n. refl; txn = λ n. refl; batches = λ n. refl }
others-turned Offsets bodies side stored = record { config = λ n. refl; offsets = λ n. absurd (n refl); status = λ n. refl; txn = λ n. refl; batches = λ n. refl }
others-turned Status bodies side stored = record { config = λ n. refl; offsets = λ n. refl; status = λ n. absurd (n refl); txn = λ n. refl; batches = λ n. refl }
others-turned Txn bodies side stored = record { config = λ n. refl; offsets = λ n. refl; status = λ n. refl; txn = λ n. absurd (n refl); batches = λ n. refl }
others-turned Batches bodies side stored = record { config = λ n. refl; offsets = λ n. refl; status = λ n. refl; txn = λ n. refl; batches = λ n. absurd (n refl) }

abbrev number : {D : Type 0} → PairState D → ℕ
number pair = pair.log.number

sides-turned : {D : Type 0} (G : Ghosts D) (name : LogName) (bodies : List (List ℕ)) (side : ℕ) (stored : Stored) (old new : LogsState D) → HaveSameOthers name old new →
    (view_in G name new).number ≡ side → AreSides stored old → AreSides (turned name bodies side stored) new
sides-turned G Config bodies side stored old new others is sides = record {
  config = is;
  offsets = ap number (others.offsets (λ e. cc)) ∙ sides.offsets;
  status = ap number (others.status (λ e. cc)) ∙ sides.status;
}
sides-turned G Offsets bodies side stored old new others is sides = record {
  config = ap number (others.config (λ e. cc)) ∙ sides.config;
  offsets = is;
  status = ap number (others.status (λ e. cc)) ∙ sides.status;
}
sides-turned G Status bodies side stored old new others is sides = record {
  config = ap number (others.config (λ e. cc)) ∙ sides.config;
  offsets = ap number (others.offsets (λ e. cc)) ∙ sides.offsets;
  status = is;
}
sides-turned G Txn bodies side stored old new others is sides = record {
  config = ap number (others.config (λ e. cc)) ∙ sides.config;
  offsets = ap number (others.offsets (λ e. cc)) ∙ sides.offsets;
  status = ap number (others.status (λ e. cc)) ∙ sides.status;
}
sides-turned G Batches bodies side stored old new others is sides = record {
  config = ap number (others.config (λ e. cc)) ∙ sides.config;
  offsets = ap number (others.offsets (λ e. cc)) ∙ sides.offsets;
  status = ap number (others.status (λ e. cc)) ∙ sides.status;
}

told-turned : (old : Option (List (List ℕ))) (bodies own : List (List ℕ)) → option_map (λ list. bodies) old ≡ Some own → own ≡ bodies
told-turned None bodies own is = absurd (cc)
told-turned (Some known) bodies own is = cc

-- ---- the bodies

pub carried : (bodies : List (List ℕ)) → AllByRecursion Fits bodies → All IsBody bodies
carried bodies fit = All-from_recursion IsBody bodies (each bodies fit)
  where
    each : (bodies : List (List ℕ)) → AllByRecursion Fits bodies → AllByRecursion IsBody bodies
    each [] fit = tt
    each (body ∷ bodies) fit = (record { some = omega (arith, fit.0.some); few = fit.0.few }, each bodies fit.1)

pub have-records : (log : List OffsetEntry) → AllByRecursion IsEntry log → AllByRecursion HasRecords log
have-records [] written = tt
have-records (Records tag records ∷ log) written = (written.0.1, have-records log written.1)
have-records (Mark mark ∷ log) written = (tt, have-records log written.1)

-- ---- a compaction that is due

-- what it answers, and what is then stored
pub record Turns (name : LogName) (answer : ℕ × ℕ) (bodies : List (List ℕ)) (side : ℕ) (s : Cluster) : Type 0 where
  pub alive : s.closed ≡ None
  pub done : (compact name s).0 ≡ Ok answer
  pub stored : stored_of (compact name s).1 ≡ turned name bodies side (stored_of s)

next-side : (side : ℕ) → side < 2 ^ 64 - 1 → nat_lt side (2 ^ 64 - 1) ≡ true
next-side side next = grind (arith, nat_tests, next)

last-side : (side : ℕ) → side ≡ 2 ^ 64 - 1 → nat_lt side (2 ^ 64 - 1) ≡ false
last-side side greatest = grind (arith, nat_tests, greatest)

at-none : {A : Type 0} (event : Cluster → Answer A) (s : Cluster) → s.closed ≡ None → at_open event s ≡ event s
at-none {A} event s alive = ap (λ (closed : Option (DiskName × ℕ)). unless_closed closed (event s) s) alive

turn-next : {A : Type 0} (done worn : Answer A) (side : ℕ) → side < 2 ^ 64 - 1 → (if nat_lt side (2 ^ 64 - 1) then done else worn) ≡ done
turn-next done worn side next = ap (λ (b : Bool). if b then done else worn) (next-side side next)

turn-last : {A : Type 0} (done worn : Answer A) (side : ℕ) → side ≡ 2 ^ 64 - 1 → (if nat_lt side (2 ^ 64 - 1) then done else worn) ≡ worn
turn-last done worn side greatest = ap (λ (b : Bool). if b then done else worn) (last-side side greatest)

-- the test whether writing goes on
pub open-passed : (closed : Option (DiskName × ℕ)) (u : Unit {0}) → Ok u ≡ open_test closed (Ok tt) → closed ≡ None
open-passed None u passed = refl
open-passed (Some fault) u passed = absurd (cc)

pub open-refused : {A : Type 0} (event : Cluster → Answer A) (s : Cluster) (why : WorldFault) → Err why ≡ open_test s.closed (Ok tt) → at_open event s ≡ (Err why, s)
open-refused event s why failed = refused-so s.closed failed
  where
    refused-so : (closed : Option (DiskName × ℕ)) → Err why ≡ open_test closed (Ok tt) → unless_closed closed (event s) s ≡ (Err why, s)
    refused-so None failed = absurd (cc)
    refused-so (Some fault) failed = let same : Closed fault.0 fault.1 ≡ why = cc in ap (λ (f : WorldFault). refused f s) same

pub configs-row : (s : Cluster) → MayTurn s.closed s.config.side → compact Config s ≡ answered (length (joined s.config.frames), length (joined (compact_configs s.config.frames)))
    (record s { config = record { frames = compact_configs s.config.frames; side = s.config.side + 1 } })
configs-row s may = at-none (compacts Config) s may.alive ∙ turn-next _ _ s.config.side may.next

pub configs-worn : (s : Cluster) (size : ℕ) → s.closed ≡ None → s.config.side ≡ 2 ^ 64 - 1 → size ≡ config_length s → compact Config s ≡ (Err (Full Config size 0), s)
configs-worn s size alive greatest is = at-none (compacts Config) s alive ∙ turn-last _ _ s.config.side greatest ∙ ap (λ (n : ℕ). refused (Full Config n 0) s) (sym is)

pub configs-turn : (s : Cluster) (own : ℕ) (bodies : List (List ℕ)) → MayTurn s.closed s.config.side → own ≡ s.config.side → bodies ≡ map records_bytes (compact_configs s.config.frames) →
    Turns Config (length (joined s.config.frames), length (joined (compact_configs s.config.frames))) bodies (own + 1) s
configs-turn s own bodies may is are = record {
  alive = may.alive;
  done = ap (λ (a : Answer (ℕ × ℕ)). a.0) (configs-row s may);
  stored = ap (λ (a : Answer (ℕ × ℕ)). stored_of a.1) (configs-row s may) ∙ rw (is, are) refl;
}

pub statuses-row : (s : Cluster) → MayTurn s.closed s.status.side → compact Status s ≡ answered (length (joined s.status.frames), length (joined (compact_statuses s.status.frames)))
    (record s { status = record { frames = compact_statuses s.status.frames; side = s.status.side + 1 } })
statuses-row s may = at-none (compacts Status) s may.alive ∙ turn-next _ _ s.status.side may.next

pub statuses-worn : (s : Cluster) (size : ℕ) → s.closed ≡ None → s.status.side ≡ 2 ^ 64 - 1 → size ≡ status_length s → compact Status s ≡ (Err (Full Status size 0), s)
statuses-worn s size alive greatest is = at-none (compacts Status) s alive ∙ turn-last _ _ s.status.side greatest ∙ ap (λ (n : ℕ). refused (Full Status n 0) s) (sym is)

pub statuses-turn : (s : Cluster) (own : ℕ) (bodies : List (List ℕ)) → MayTurn s.closed s.status.side → own ≡ s.status.side → bodies ≡ map records_bytes (compact_statuses s.status.frames) →
    Turns Status (length (joined s.status.frames), length (joined (compact_statuses s.status.frames))) bodies (own + 1) s
statuses-turn s own bodies may is are = record {
  alive = may.alive;
  done = ap (λ (a : Answer (ℕ × ℕ)). a.0) (statuses-row s may);
  stored = ap (λ (a : Answer (ℕ × ℕ)). stored_of a.1) (statuses-row s may) ∙ rw (is, are) refl;
}

pub offsets-row : (s : Cluster) → MayTurn s.closed s.offsets.side → compact Offsets s ≡ answered (length (flat_map offset_records s.offsets.frames), length (flat_map offset_records (compact_offsets s.entries s.offsets.frames)))
    (record s { offsets = record { frames = compact_offsets s.entries s.offsets.frames; side = s.offsets.side + 1 } })
offsets-row s may = at-none (compacts Offsets) s may.alive ∙ turn-next _ _ s.offsets.side may.next

pub offsets-worn : (s : Cluster) (size : ℕ) → s.closed ≡ None → s.offsets.side ≡ 2 ^ 64 - 1 → size ≡ offsets_length s → compact Offsets s ≡ (Err (Full Offsets size 0), s)
offsets-worn s size alive greatest is = at-none (compacts Offsets) s alive ∙ turn-last _ _ s.offsets.side greatest ∙ ap (λ (n : ℕ). refused (Full Offsets n 0) s) (sym is)

pub offsets-turn : (s : Cluster) (own : ℕ) (bodies : List (List ℕ)) → MayTurn s.closed s.offsets.side → own ≡ s.offsets.side → bodies ≡ map entry_bytes (compact_offsets s.entries s.offsets.frames) →
    Turns Offsets (length (flat_map offset_records s.offsets.frames), length (flat_map offset_records (compact_offsets s.entries s.offsets.frames))) bodies (own + 1) s
offsets-turn s own bodies may is are = record {
  alive = may.alive;
  done = ap (λ (a : Answer (ℕ × ℕ)). a.0) (offsets-row s may);
  stored = ap (λ (a : Answer (ℕ × ℕ)). stored_of a.1) (offsets-row s may) ∙ rw (is, are) refl;
}

-- what is left was written, by the law
module _ (setting : Setting) (s : Cluster) (facts : AreFacts setting s) (law : (name : LogName) → Keeps setting s (compact name s)) where
  pub configs-written : MayTurn s.closed s.config.side → AllByRecursion AreRecords (compact_configs s.config.frames)
  configs-written may = (subst (λ (a : Answer (ℕ × ℕ)). AreFacts setting a.1) (configs-row s may) (law Config facts)).logs.written.config

  pub statuses-written : MayTurn s.closed s.status.side → AllByRecursion AreRecords (compact_statuses s.status.frames)
  statuses-written may = (subst (λ (a : Answer (ℕ × ℕ)). AreFacts setting a.1) (statuses-row s may) (law Status facts)).logs.written.status

  pub offsets-written : MayTurn s.closed s.offsets.side → AllByRecursion HasRecords (compact_offsets s.entries s.offsets.frames)
  offsets-written may = have-records (compact_offsets s.entries s.offsets.frames)
      (subst (λ (a : Answer (ℕ × ℕ)). AreFacts setting a.1) (offsets-row s may) (law Offsets facts)).logs.written.offsets

-- a refusal changes nothing
pub refused-by : {A : Type 0} (event : Cluster → Answer A) (fault : WorldFault) (old : Kept) → (fault ≢ Memory → event old.state ≡ (Err fault, old.state)) → Refuses event fault old old
refused-by event fault old row = record {
  row = row;
  wants = λ memory. refl;
  setting = refl;
  logs = record { config = refl; offsets = refl; status = refl; txn = refl; batches = refl; closed = refl };
}

-- ---- the event

module _ {D : Type 0} (G : Ghosts D) (name : LogName) (answer : ℕ × ℕ) (bodies : List (List ℕ)) (old after : Kept) (old_logs new_logs : LogsState D)
    (old_pair new_pair : PairState D) (others : HaveSameOthers name old_logs new_logs) (known : IsWorld G old.setting old.state old_logs)
    (due : Turns name answer bodies (old_pair.log.number + 1) old.state) (next : old_pair.log.number < 2 ^ 64 - 1)
    (old_view : view_in G name old_logs ≡ view_of_pair G old_pair) (new_view : view_in G name new_logs ≡ view_of_pair G new_pair)
    (old_faults : faults_in G name old_logs ≡ faults_of G (disks_of old_pair)) (new_faults : faults_in G name new_logs ≡ faults_of G (disks_of new_pair))
    (adds : (P : List (List ℕ) → Type 0) → AddsOf (λ (pair : PairState D). length pair.past) (StandsSince G) old_pair new_pair P → AddsTo G name old_logs new_logs P)
    (now : (P : List (List ℕ) → Type 0) → PairLeavesNow G new_pair P → LeavesNow G name new_logs P) where
  holds-old : HoldAll G (stored_of old.state) old_logs
  holds-old = known.holds due.alive

  -- what a stop leaves of the log
  leaves-of : (told : List (List ℕ)) → (view_in G name old_logs).bodies ≡ Some told →
      ((list : List (List ℕ)) → bodies_of G old_pair ≡ Some list →
      AddsOf (λ (pair : PairState D). length pair.past) (StandsSince G) old_pair new_pair (λ left. (left ≡ list) ⊎ (left ≡ bodies))) →
      AddsTo G name old_logs new_logs (λ list. (list ≡ list_in name (stored_of old.state)) ⊎ (list ≡ list_in name (stored_of (compact name old.state).1)))
  leaves-of told is leaves =
      let list : List (List ℕ) = list_in name (stored_of old.state) in
      let told-is : told ≡ list = (holds-old name).told told is in
      let behind : bodies ≡ list_in name (stored_of (compact name old.state).1) =
      sym (list-turned name bodies (old_pair.log.number + 1) (stored_of old.state)) ∙ ap (λ (s : Stored). list_in name s) (sym due.stored) in
      less-added G name old_logs new_logs (λ left. (left ≡ told) ⊎ (left ≡ bodies)) (λ left. (left ≡ list) ⊎ (left ≡ list_in name (stored_of (compact name old.state).1)))
      (adds (λ left. (left ≡ told) ⊎ (left ≡ bodies)) (leaves told (ap (λ (v : _). v.bodies) (sym old_view) ∙ is)))
      (λ left p. ⊎_elim (λ (e : left ≡ told). inl (e ∙ told-is)) (λ (e : left ≡ bodies). inr (e ∙ behind)) p)

  -- what it leaves now
  left-of : (told : List (List ℕ)) → (view_in G name old_logs).bodies ≡ Some told →
      ((list : List (List ℕ)) → bodies_of G old_pair ≡ Some list → PairLeavesNow G new_pair (λ left. (left ≡ list) ⊎ (left ≡ bodies))) →
      LeavesNow G name new_logs (λ list. (list ≡ list_in name (stored_of old.state)) ⊎ (list ≡ list_in name (stored_of (compact name old.state).1)))
  left-of told is left =
      let list : List (List ℕ) = list_in name (stored_of old.state) in
      let told-is : told ≡ list = (holds-old name).told told is in
      let behind : bodies ≡ list_in name (stored_of (compact name old.state).1) =
      sym (list-turned name bodies (old_pair.log.number + 1) (stored_of old.state)) ∙ ap (λ (s : Stored). list_in name s) (sym due.stored) in
      less-left G name new_logs (λ left. (left ≡ told) ⊎ (left ≡ bodies)) (λ left. (left ≡ list) ⊎ (left ≡ list_in name (stored_of (compact name old.state).1)))
      (now (λ left. (left ≡ told) ⊎ (left ≡ bodies)) (left told (ap (λ (v : _). v.bodies) (sym old_view) ∙ is)))
      (λ left p. ⊎_elim (λ (e : left ≡ told). inl (e ∙ told-is)) (λ (e : left ≡ bodies). inr (e ∙ behind)) p)

  same-list : HasSameBodies (view_of_pair G old_pair) (view_of_pair G new_pair) → HasSameBodies (view_in G name old_logs) (view_in G name new_logs)
  same-list same = rw (old_view, new_view) same

  keep-on : KeepsOn (view_of_pair G old_pair) (view_of_pair G new_pair) (faults_of G (disks_of old_pair)) (faults_of G (disks_of new_pair)) →
      KeepsOn (view_in G name old_logs) (view_in G name new_logs) (faults_in G name old_logs) (faults_in G name new_logs)
  keep-on keeps = rw (old_view, new_view, old_faults, new_faults) keeps

  pub not-turned : (fault : WorldFault) → IsRewrite G name bodies old_pair new_pair old after (Err fault) → Comes G name (compact name) old old_logs after new_logs (Err fault)
  not-turned (Full log size frame) w = absurd (omega (arith, next, w.answer.greatest))
  not-turned Memory w =
      let same : HasSameBodies (view_in G name old_logs) (view_in G name new_logs) = same-list w.answer.same in
      let shut : (view_in G name new_logs).shut ≡ (view_in G name old_logs).shut = rw (old_view, new_view) w.answer.shut in
      let all : HoldAll G (stored_of old.state) new_logs = hold-behind G (stored_of old.state) (stored_of old.state) old_logs new_logs name (same-others name (stored_of old.state)) others holds-old
      (holds-same name (stored_of old.state) (view_in G name old_logs) (view_in G name new_logs) (holds-old name) same shut) in
      let sides : AreSides (stored_of old.state) new_logs = keep-sides G (stored_of old.state) name old_logs new_logs others same.number (known.sides due.alive) in
      let there : IsWorld G old.setting old.state new_logs = record { facts = known.facts; holds = λ alive. all; sides = λ alive. sides } in (
        λ called. record {
          name = refl;
          answers = inr (inl (record { answer = refl; state = ap (λ (k : Kept). k.state) w.answer.kept; same = same }));
          setting = ap (λ (k : Kept). k.setting) w.answer.kept;
          others = others;
          leaves = λ told is. leaves-of told is w.leaves;
          keeps = keep-on w.keeps;
        },
        rw (w.answer.kept) there,
      )
  not-turned (StoreFault disk count) w = (
    λ called. record {
      name = refl;
      answers = inr (inr (record {
        disk = disk;
        count = count;
        answer = refl;
        meant = answer;
        due = due.done;
        state = w.answer.state;
        fails = rw (old_faults, new_faults) w.answer.fails;
        same = same-list w.answer.same;
        left = λ told is. left-of told is w.answer.left;
        apart = subst (λ (those : Stored). IsApart name (stored_of old.state) those) (sym due.stored)
            (lists-apart name (stored_of old.state) _ (others-turned name bodies (old_pair.log.number + 1) (stored_of old.state)));
      }));
      setting = w.answer.setting;
      others = others;
      leaves = λ told is. leaves-of told is w.leaves;
      keeps = keep-on w.keeps;
    },
    rw (w.answer.setting, w.answer.state) (record { facts = closes-keeps old.setting disk count old.state known.facts; holds = λ alive. absurd (cc); sides = λ alive. absurd (cc) }),
  )
  not-turned (Fenced own current) w = absurd w.answer
  not-turned (StaleGeneration own current) w = absurd w.answer
  not-turned PendingFence w = absurd w.answer
  not-turned (BadCut from to) w = absurd w.answer
  not-turned (Gone i) w = absurd w.answer
  not-turned (Closed disk count) w = absurd w.answer
  not-turned (Dead n) w = absurd w.answer
  not-turned (Group fault) w = absurd w.answer
  not-turned TooMany w = absurd w.answer

  pub is-turned : (new : Kept) (counts : ℕ × ℕ) (side : ℕ) → Keeps old.setting old.state (compact name old.state) →
      IsRewrite G name bodies old_pair new_pair old after (Ok side) → Puts (compact name) counts after new → Comes G name (compact name) old old_logs new new_logs (Ok counts)
  is-turned new counts side law w put =
      let row : compact name old.state ≡ (Ok counts, new.state) = ap (λ (k : Kept). compact name k.state) (sym w.answer.kept) ∙ put.row in
      let setting : new.setting ≡ old.setting = put.setting ∙ ap (λ (k : Kept). k.setting) w.answer.kept in
      let own : ℕ = old_pair.log.number + 1 in
      let behind : Stored = turned name bodies own (stored_of old.state) in
      let stored_is : stored_of new.state ≡ behind = ap (λ (a : Answer (ℕ × ℕ)). stored_of a.1) (sym row) ∙ due.stored in
      let here : HoldsList bodies (view_of_pair G new_pair) = record {
        told = λ list is. told-turned (bodies_of G old_pair) bodies list (sym w.answer.told ∙ is);
        count = w.answer.size;
        ready = record { bytes_are = w.answer.bytes; limit = w.answer.limit ∙ ap (λ (v : _). v.limit) (sym old_view) ∙ (holds-old name).ready.limit; alive = w.answer.alive };
      } in
      let there : HoldsList (list_in name behind) (view_in G name new_logs) = rw (list-turned name bodies own (stored_of old.state), new_view) here in
      let all : HoldAll G behind new_logs = hold-behind G (stored_of old.state) behind old_logs new_logs name (others-turned name bodies own (stored_of old.state)) others holds-old there in
      let sides : AreSides behind new_logs = sides-turned G name bodies own (stored_of old.state) old_logs new_logs others (ap (λ (v : _). v.number) new_view ∙ w.answer.number) (known.sides due.alive) in
      let facts : AreFacts old.setting new.state = subst (λ (a : Answer (ℕ × ℕ)). AreFacts old.setting a.1) row (law known.facts) in (
        λ called. record {
          name = refl;
          answers = inl row;
          setting = setting;
          others = others;
          leaves = λ told is. leaves-of told is w.leaves;
          keeps = keep-on w.keeps;
        },
        record {
          facts = subst (λ (setting : Setting). AreFacts setting new.state) (sym setting) facts;
          holds = λ alive. subst (λ (s : Stored). HoldAll G s new_logs) (sym stored_is) all;
          sides = λ alive. subst (λ (s : Stored). AreSides s new_logs) (sym stored_is) sides;
        },
      )

-- ---- each log

module _ {D : Type 0} (G : Ghosts D) (old after : Kept) (logs : LogsState D) (new_pair : PairState D) (bodies : List (List ℕ)) (known : IsWorld G old.setting old.state logs) where
  pub configs-not : MayTurn old.state.closed old.state.config.side → bodies ≡ map records_bytes (compact_configs old.state.config.frames) → (fault : WorldFault) →
      IsRewrite G Config bodies logs.config new_pair old after (Err fault) → Comes G Config (compact Config) old logs after (record logs { config = new_pair }) (Err fault)
  configs-not may are fault w = not-turned G Config _ bodies old after logs (record logs { config = new_pair }) logs.config new_pair (only-config logs new_pair) known
      (configs-turn old.state logs.config.log.number bodies may (known.sides may.alive).config are)
      (subst (λ (n : ℕ). n < 2 ^ 64 - 1) (sym (known.sides may.alive).config) may.next) refl refl refl refl (λ P a. a) (λ P n. n) fault w

  pub configs-done : MayTurn old.state.closed old.state.config.side → bodies ≡ map records_bytes (compact_configs old.state.config.frames) → (new : Kept) (counts : ℕ × ℕ) (side : ℕ) → Keeps old.setting old.state (compact Config old.state) →
      IsRewrite G Config bodies logs.config new_pair old after (Ok side) → Puts (compact Config) counts after new →
      Comes G Config (compact Config) old logs new (record logs { config = new_pair }) (Ok counts)
  configs-done may are new counts side law w put = is-turned G Config _ bodies old after logs (record logs { config = new_pair }) logs.config new_pair (only-config logs new_pair) known
      (configs-turn old.state logs.config.log.number bodies may (known.sides may.alive).config are)
      (subst (λ (n : ℕ). n < 2 ^ 64 - 1) (sym (known.sides may.alive).config) may.next) refl refl refl refl (λ P a. a) (λ P n. n) new counts side law w put

  pub statuses-not : MayTurn old.state.closed old.state.status.side → bodies ≡ map records_bytes (compact_statuses old.state.status.frames) → (fault : WorldFault) →
      IsRewrite G Status bodies logs.status new_pair old after (Err fault) → Comes G Status (compact Status) old logs after (record logs { status = new_pair }) (Err fault)
  statuses-not may are fault w = not-turned G Status _ bodies old after logs (record logs { status = new_pair }) logs.status new_pair (only-status logs new_pair) known
      (statuses-turn old.state logs.status.log.number bodies may (known.sides may.alive).status are)
      (subst (λ (n : ℕ). n < 2 ^ 64 - 1) (sym (known.sides may.alive).status) may.next) refl refl refl refl (λ P a. a) (λ P n. n) fault w

  pub statuses-done : MayTurn old.state.closed old.state.status.side → bodies ≡ map records_bytes (compact_statuses old.state.status.frames) → (new : Kept) (counts : ℕ × ℕ) (side : ℕ) → Keeps old.setting old.state (compact Status old.state) →
      IsRewrite G Status bodies logs.status new_pair old after (Ok side) → Puts (compact Status) counts after new →
      Comes G Status (compact Status) old logs new (record logs { status = new_pair }) (Ok counts)
  statuses-done may are new counts side law w put = is-turned G Status _ bodies old after logs (record logs { status = new_pair }) logs.status new_pair (only-status logs new_pair) known
      (statuses-turn old.state logs.status.log.number bodies may (known.sides may.alive).status are)
      (subst (λ (n : ℕ). n < 2 ^ 64 - 1) (sym (known.sides may.alive).status) may.next) refl refl refl refl (λ P a. a) (λ P n. n) new counts side law w put

  pub offsets-not : MayTurn old.state.closed old.state.offsets.side → bodies ≡ map entry_bytes (compact_offsets old.state.entries old.state.offsets.frames) → (fault : WorldFault) →
      IsRewrite G Offsets bodies logs.offsets new_pair old after (Err fault) → Comes G Offsets (compact Offsets) old logs after (record logs { offsets = new_pair }) (Err fault)
  offsets-not may are fault w = not-turned G Offsets _ bodies old after logs (record logs { offsets = new_pair }) logs.offsets new_pair (only-offsets logs new_pair) known
      (offsets-turn old.state logs.offsets.log.number bodies may (known.sides may.alive).offsets are)
      (subst (λ (n : ℕ). n < 2 ^ 64 - 1) (sym (known.sides may.alive).offsets) may.next) refl refl refl refl (λ P a. a) (λ P n. n) fault w

  pub offsets-done : MayTurn old.state.closed old.state.offsets.side → bodies ≡ map entry_bytes (compact_offsets old.state.entries old.state.offsets.frames) → (new : Kept) (counts : ℕ × ℕ) (side : ℕ) → Keeps old.setting old.state (compact Offsets old.state) →
      IsRewrite G Offsets bodies logs.offsets new_pair old after (Ok side) → Puts (compact Offsets) counts after new →
      Comes G Offsets (compact Offsets) old logs new (record logs { offsets = new_pair }) (Ok counts)
  offsets-done may are new counts side law w put = is-turned G Offsets _ bodies old after logs (record logs { offsets = new_pair }) logs.offsets new_pair (only-offsets logs new_pair) known
      (offsets-turn old.state logs.offsets.log.number bodies may (known.sides may.alive).offsets are)
      (subst (λ (n : ℕ). n < 2 ^ 64 - 1) (sym (known.sides may.alive).offsets) may.next) refl refl refl refl (λ P a. a) (λ P n. n) new counts side law w put
