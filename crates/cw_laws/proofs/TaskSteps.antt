-- A task's step makes the event of its phase where that may be made, and fails the task where it finds it fenced: what
-- these events keep, the step keeps.
use Rattle.std.proofs.Common.{◌≡◌, ℕ, zero, suc, ◌+◌, ◌-◌, ◌<◌, ◌≤◌, ◌∷◌, [], ◌&&◌, Bool, true, false, not, cond, min, List, Option, Some, None, Result, Ok, is_some, nat_le, length, take, option_map, if◌then◌else◌, refl, subst, arith, length-take}
use Rattle.cw_laws.proofs.Lists.{each-map, each-append}
use Rattle.std.proofs.lemmas.List.{length-map}
use Rattle.std.specs.Option.{IsSomeAnd, option_map_or}
use Rattle.std.specs.List.{AllByRecursion, find, filter, fold, range_with_len, enumerate_from}
use Rattle.cw_data.proofs.Lists.{each_taken}
use borrow.Author.Tests.{leb-true}
use Rattle.cw_types.specs.declared.ids.Item.{Item}
use Rattle.cw_types.specs.declared.ids.Item.TheVariants.{Connector, Task}
use Rattle.cw_config.specs.declared.records.ConfigRecord.{ConfigRecord}
use Rattle.cw_data.specs.declared.entry.DataEntry.{DataEntry}
use Rattle.cw_data.specs.Log.{Record, records, stable, marker_of, is_commit, taken}
use Rattle.cw_feed.specs.declared.cut.CutAnswer.{CutAnswer}
use Rattle.cw_feed.specs.declared.cut.CutAnswer.TheVariants.{Cut, AtEnd, LineTooLong}
use Rattle.cw_plugin.specs.Classes.{row_of as class_row_of}
use Rattle.cw_plugin.specs.declared.task.TaskSpec.{TaskSpec}
use Rattle.cw_model.specs.declared.did.Did.{Did}
use Rattle.cw_model.specs.declared.did.Did.TheVariants as did
use Rattle.cw_model.specs.declared.fault.WorldFault.{WorldFault}
use Rattle.cw_model.specs.declared.instance.Instance.{Instance}
use Rattle.cw_model.specs.declared.instance.InstancePhase.{InstancePhase}
use Rattle.cw_model.specs.declared.instance.InstancePhase.TheVariants as phase
use Rattle.cw_model.specs.declared.instance.Cut.{Cut as TaskCut}
use Rattle.cw_model.specs.declared.instance.Trace.{Trace}
use Rattle.cw_model.specs.declared.instance.Trace.TheVariants as trace
use Rattle.cw_model.specs.State.{Setting, Cluster}
use Rattle.cw_model.specs.Phases.{is_working, is_ended}
use Rattle.cw_model.specs.Lookups.{instance_of}
use Rattle.cw_model.specs.Answers.{Answer, answered}
use Rattle.cw_model.specs.Tasks.{parts_of, part_at, position_at, is_source, is_sink, cut_of}
use Rattle.cw_model.specs.EventsSources.{init, verify, fetch, produce, put_offsets, commit, MayInit, MayVerify, MayFetch, MayProduce, MayPutOffsets, MayCommit}
use Rattle.cw_model.specs.EventsSinks.{sink_cut, deliver, put_sink, topic_in, MayDeliver, MayPutSink}
use Rattle.cw_model.specs.EventsReports.{fail}
use Rattle.cw_model.specs.FactsRows.{IsSoundInstance, IsOfItem, IsTaskSpecOf}
use Rattle.cw_model.specs.Polls.{turn_behind, turns_of, cut_at, is_something, source_turn, most_records, records_from, Delivery, delivery_at, gathered}
use Rattle.cw_model.specs.Steps.{told, fails_if_fenced, tells, span_to, takes_cut, polls_source, polls_sink, polls, does, waits, step}
use Rattle.cw_laws.proofs.Disks.{and-first}

-- ---- whose turn it is

-- what is found is one of the list, and passes
pub found-holds : {X : Type 0} (P : X → Type 0) (test : X → Bool) (xs : List X) (x : X) → AllByRecursion P xs → find test xs ≡ Some x → P x × (test x ≡ true)
found-holds P test [] x each found = absurd (cc)
found-holds P test (y ∷ ys) x each found = at (test y) refl found (found-holds P test ys x each.1) where
  at : (b : Bool) → test y ≡ b → cond b (Some y) (find test ys) ≡ Some x → (find test ys ≡ Some x → P x × (test x ≡ true)) → P x × (test x ≡ true)
  at true passes is later = let same : y ≡ x = cc in (subst P same each.0, subst (λ z. test z ≡ true) same passes)
  at false fails is later = later is

range-within : (a n top : ℕ) → a + n ≤ top → AllByRecursion (λ x. x < top) (range_with_len a n)
range-within a zero top fits = tt
range-within a (suc n) top fits = (omega arith, range-within (a + 1) n top (omega arith))

-- a turn is one of a part
pub turns-within : (i : Instance) → AllByRecursion (λ turn. turn < length (parts_of i)) (turns_of i)
turns-within i =
    let first : ℕ = turn_behind i.last in
    let count : ℕ = length (parts_of i) in
    each-append (λ turn. turn < count) (range_with_len (min first count) (count - first)) (range_with_len 0 (min first count))
    (range-within (min first count) (count - first) count (omega arith)) (range-within 0 (min first count) count (omega arith))

-- ---- what a sink gathers

-- a place lies between
abbrev Between : ℕ → ℕ → {A : Type 0} → ℕ × A → Type 0
Between from top p = (from ≤ p.0) × (p.0 < top)

each-numbered : {A : Type 0} (first top : ℕ) (xs : List A) → first + length xs ≤ top → AllByRecursion (λ p. p.0 < top) (enumerate_from first xs)
each-numbered first top [] fits = tt
each-numbered first top (x ∷ xs) fits = (omega arith, each-numbered (first + 1) top xs (omega arith))

each-filtered : {X : Type 0} (P Q : X → Type 0) (test : X → Bool) (xs : List X) → ((x : X) → P x → test x ≡ true → Q x) → AllByRecursion P xs → AllByRecursion Q (filter test xs)
each-filtered P Q test [] so each = tt
each-filtered P Q test (x ∷ xs) so each = at (test x) refl (each-filtered P Q test xs so each.1) where
  at : (b : Bool) → test x ≡ b → AllByRecursion Q (filter test xs) → AllByRecursion Q (cond b (x ∷ filter test xs) (filter test xs))
  at true passes rest = (so x each.0 passes, rest)
  at false fails rest = rest

some-filtered : {X : Type 0} (test : X → Bool) (xs : List X) → is_some (find test xs) ≡ true → 1 ≤ length (filter test xs)
some-filtered test [] some = absurd (let never : false ≡ true = some in cc)
some-filtered test (x ∷ xs) some = at (test x) some (some-filtered test xs) where
  at : (b : Bool) → is_some (cond b (Some x) (find test xs)) ≡ true → (is_some (find test xs) ≡ true → 1 ≤ length (filter test xs)) → 1 ≤ length (cond b (x ∷ filter test xs) (filter test xs))
  at true there later = omega arith
  at false there later = later there

-- behind the last of some places that lie between
end-between : {A : Type 0} (from top start : ℕ) (xs : List (ℕ × A)) → from < start → start ≤ top → AllByRecursion (Between from top) xs →
    (from < fold (λ end (p : ℕ × A). p.0 + 1) start xs) × (fold (λ end (p : ℕ × A). p.0 + 1) start xs ≤ top)
end-between from top start [] above within each = (above, within)
end-between from top start (x ∷ xs) above within each = end-between from top (x.0 + 1) xs (omega (arith, each.0.0)) (omega (arith, each.0.1)) each.1

end-of-some : {A : Type 0} (from top : ℕ) (xs : List (ℕ × A)) → 1 ≤ length xs → AllByRecursion (Between from top) xs →
    (from < fold (λ end (p : ℕ × A). p.0 + 1) from xs) × (fold (λ end (p : ℕ × A). p.0 + 1) from xs ≤ top)
end-of-some from top [] some each = absurd (omega arith)
end-of-some from top (x ∷ xs) some each = end-between from top (x.0 + 1) xs (omega (arith, each.0.0)) (omega (arith, each.0.1)) each.1

-- a record with its place, as it is handed out
abbrev placed : ℕ × Record → ℕ × List ℕ
placed p = (p.0, p.1.value)

module _ (topic : List ℕ) (from : ℕ) (log : List DataEntry) where
  abbrev standing : List (ℕ × Record)
  standing = enumerate_from 0 (take (stable topic log) (records topic log))

  abbrev wanted : ℕ × Record → Bool
  wanted p = nat_le from p.0 && is_commit (marker_of p.1.tag log)

  between : AllByRecursion (Between from (stable topic log)) (filter wanted standing)
  between = each-filtered (λ (p : ℕ × Record). p.0 < stable topic log) (Between from (stable topic log)) wanted standing
      (λ p below passes. (leb-true from p.0 (and-first (nat_le from p.0) (is_commit (marker_of p.1.tag log)) passes), below))
      (each-numbered 0 (stable topic log) (take (stable topic log) (records topic log)) (omega (arith, length-take (stable topic log) (records topic log))))

  pub each-gathered : AllByRecursion (Between from (stable topic log)) (take most_records (records_from topic from log))
  each-gathered = each_taken (Between from (stable topic log)) most_records (records_from topic from log)
      (each-map (Between from (stable topic log)) (Between from (stable topic log)) placed (filter wanted standing) (λ p there. there) between)

  pub some-gathered : is_some (taken topic from log) ≡ true → 1 ≤ length (take most_records (records_from topic from log))
  some-gathered there =
      let found : is_some (find wanted standing) ≡ true = is-found (find wanted standing) there in
      let some : 1 ≤ length (filter wanted standing) = some-filtered wanted standing found in
      omega (arith, some, length-take most_records (records_from topic from log), length-map (filter wanted standing) placed) where
        is-found : (o : Option (ℕ × Record)) → is_some (option_map placed o) ≡ true → is_some o ≡ true
        is-found None some = some
        is-found (Some p) some = refl

-- ---- the events of a task

-- each event of a task's step keeps something that holds of the state
pub record EventsKeep (P : Cluster → Type 0) (setting : Setting) (i : ℕ) (s : Cluster) : Type 0 where
  pub same : P s
  pub init : MayInit i s → P (init i s).1
  pub verify : MayVerify i s → P (verify i s).1
  pub fetch : MayFetch i s → P (fetch i s).1
  pub produce : (cut : TaskCut) → MayProduce i cut s → P (produce setting i cut s).1
  pub put_offsets : MayPutOffsets i s → P (put_offsets i s).1
  pub commit : MayCommit i s → P (commit i s).1
  pub deliver : (turn to : ℕ) → MayDeliver i turn to s → P (deliver i turn to s).1
  pub put_sink : (to : ℕ) → MayPutSink i to s → P (put_sink i to s).1
  pub fail : (trace : Trace) (t : Cluster) → P t → P (fail i trace t).1

-- a task at work is one of a source or of a sink
pub source-or-sink : (records : List ConfigRecord) (item : Item) (i : Instance) → is_working i.phase ≡ true → IsOfItem records item i → is_sink i ≡ false → is_source i ≡ true
source-or-sink records (Connector name) i works o fails = absurd (let idle : is_working i.phase ≡ false = o.idle in cc)
source-or-sink records (Task id) i works o fails = of (i.task) o.task fails where
  other : (b : Bool) → not b ≡ false → b ≡ true
  other true fails = refl
  other false fails = absurd (cc)

  of : (task : Option TaskSpec) → IsSomeAnd task (IsTaskSpecOf id.connector) → option_map_or (λ task. not (class_row_of task.class).is_source) task false ≡ false →
      option_map_or (λ task. (class_row_of task.class).is_source) task false ≡ true
  of None none fails = absurd none
  of (Some task) some fails = other (class_row_of task.class).is_source fails

-- what a source's task cuts of the part whose turn it is may be written
pub may-produce : (setting : Setting) (i turn to : ℕ) (s : Cluster) → (is_ended (instance_of i s).phase ≡ false → IsSoundInstance s (instance_of i s)) →
    (instance_of i s).phase ≡ phase.Polling → is_sink (instance_of i s) ≡ false → source_turn setting.feeds (instance_of i s) ≡ Some turn →
    MayProduce i (sink_cut turn to (instance_of i s)) s
may-produce setting i turn to s sound polling source is =
    let own : Instance = instance_of i s in
    record {
      polling = polling;
      source = source-or-sink s.configs own.item own (rw polling refl) (sound (rw polling refl)).of_item source;
      turn = (found-holds (λ turn. turn < length (parts_of own)) (λ turn. is_something (cut_at setting.feeds own turn)) (turns_of own) turn (turns-within own) is).0;
    }

-- whether a topic has a record that a sink's task may hand out
abbrev has_record : Instance → List DataEntry → ℕ → Bool
has_record i log turn = is_some (taken (topic_in (part_at turn i)) (position_at turn i) log)

-- what a sink's task gathers of a topic may be handed out
deliver-turn : (i turn : ℕ) (s : Cluster) → (instance_of i s).phase ≡ phase.Polling → is_sink (instance_of i s) ≡ true →
    find (has_record (instance_of i s) s.batches) (turns_of (instance_of i s)) ≡ Some turn →
    MayDeliver i turn (delivery_at (instance_of i s) s.batches turn).to s
deliver-turn i turn s polling sink is =
    let own : Instance = instance_of i s in
    let found = found-holds (λ turn. turn < length (parts_of own)) (has_record own s.batches) (turns_of own) turn (turns-within own) is in
    let topic : List ℕ = topic_in (part_at turn own) in
    let ends = end-of-some (position_at turn own) (stable topic s.batches) (take most_records (records_from topic (position_at turn own) s.batches))
    (some-gathered topic (position_at turn own) s.batches found.1) (each-gathered topic (position_at turn own) s.batches) in
    record { polling = polling; sink = sink; within = found.0; some = ends.0; settled = ends.1 }

pub may-deliver : (i : ℕ) (s : Cluster) (d : Delivery) → (instance_of i s).phase ≡ phase.Polling → is_sink (instance_of i s) ≡ true →
    gathered (instance_of i s) s.batches ≡ Some d → MayDeliver i d.turn d.to s
may-deliver i s d polling sink is = at (find (has_record (instance_of i s) s.batches) (turns_of (instance_of i s))) refl is where
  at : (o : Option ℕ) → find (has_record (instance_of i s) s.batches) (turns_of (instance_of i s)) ≡ o →
      option_map (delivery_at (instance_of i s) s.batches) o ≡ Some d → MayDeliver i d.turn d.to s
  at None none is = absurd (cc)
  at (Some turn) found is =
      let same : delivery_at (instance_of i s) s.batches turn ≡ d = cc in
      subst (λ (x : Delivery). MayDeliver i x.turn x.to s) same (deliver-turn i turn s polling sink found)

module _ (P : Cluster → Type 0) (setting : Setting) (i : ℕ) (s : Cluster) (e : EventsKeep P setting i s) (sound : is_ended (instance_of i s).phase ≡ false → IsSoundInstance s (instance_of i s)) where
  abbrev own : Instance
  own = instance_of i s

  fails-keep : (answer : Result Did WorldFault) (t : Cluster) → P t → P (fails_if_fenced i answer t)
  fails-keep (Ok (did.Fenced mine current)) t kept = e.fail (trace.Fenced mine current) t kept
  fails-keep answer t kept = kept

  tells-keep : {A : Type 0} (done : Answer A) (tell : A → Did) → P done.1 → P (tells i done tell).1
  tells-keep done tell kept = fails-keep (told tell done.0) done.1 kept

  cut-keeps : (turn : ℕ) → ((to : ℕ) → MayProduce i (sink_cut turn to own) s) → (answer : CutAnswer) → P (takes_cut setting i s turn answer).1
  cut-keeps turn may AtEnd = e.same
  cut-keeps turn may (LineTooLong at) = e.fail (trace.LineTooLong at) s e.same
  cut-keeps turn may (Cut to) = tells-keep (produce setting i (sink_cut turn to own) s) (λ _. did.Produce (span_to turn to own)) (e.produce (sink_cut turn to own) (may to))

  source-keeps : own.phase ≡ phase.Polling → is_sink own ≡ false → (o : Option ℕ) → source_turn setting.feeds own ≡ o → P (polls_source setting i s o).1
  source-keeps polling source None is = e.same
  source-keeps polling source (Some turn) is = cut-keeps turn (λ to. may-produce setting i turn to s sound polling source is) (cut_at setting.feeds own turn)

  sink-keeps : own.phase ≡ phase.Polling → is_sink own ≡ true → (o : Option Delivery) → gathered own s.batches ≡ o → P (polls_sink i s o).1
  sink-keeps polling sink None is = e.same
  sink-keeps polling sink (Some d) is = tells-keep (deliver i d.turn d.to s) (λ _. did.Deliver d.topic d.from d.to) (e.deliver d.turn d.to (may-deliver i s d polling sink is))

  polls-keep : own.phase ≡ phase.Polling → P (polls setting i s).1
  polls-keep polling = either (is_sink own) refl where
    either : (b : Bool) → is_sink own ≡ b →
        P (if b then polls_sink i s (gathered own s.batches) else polls_source setting i s (source_turn setting.feeds own)).1
    either true sink = sink-keeps polling sink (gathered own s.batches) refl
    either false source = source-keeps polling source (source_turn setting.feeds own) refl

  does-keeps : (p : InstancePhase) → own.phase ≡ p → P (does setting i s p).1
  does-keeps phase.Connector is = e.same
  does-keeps phase.New is = tells-keep (init i s) (λ epoch. did.Init epoch.0) (e.init is)
  does-keeps phase.Inited is = tells-keep (verify i s) (λ generation. did.Verify generation) (e.verify is)
  does-keeps phase.Verified is = tells-keep (fetch i s) (λ _. did.Fetch) (e.fetch is)
  does-keeps phase.Polling is = polls-keep is
  does-keeps phase.Produced is = tells-keep (put_offsets i s) (λ _. did.Offsets) (e.put_offsets is)
  does-keeps phase.Offered is = tells-keep (commit i s) (λ span. did.Commit span) (e.commit is)
  does-keeps phase.Delivered is = tells-keep (put_sink i (cut_of own).to s) (λ _. did.Offsets) (e.put_sink (cut_of own).to record { delivered = is; as_far = refl })
  does-keeps phase.Failed is = e.same
  does-keeps phase.Ended is = e.same

  -- what the events of a step keep, the step keeps
  pub step-keeps : P (step setting i s).1
  step-keeps = either (waits own s) where
    either : (b : Bool) → P (if b then answered did.Paused s else does setting i s own.phase).1
    either true = e.same
    either false = does-keeps own.phase refl
