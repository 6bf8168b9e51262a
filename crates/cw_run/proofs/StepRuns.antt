-- A task's step is a run: the event of its phase, which may be made, and then its failure where it is fenced; or
-- nothing.
use Rattle.std.proofs.Common.{◌≡◌, ℕ, ◌==◌, ◌∷◌, [], List, Bool, true, false, Option, Some, None, Result, Ok, Err, map, if◌then◌else◌, refl, subst, sym}
use Rattle.cw_types.specs.declared.ids.Tid.{Tid}
use Rattle.cw_types.specs.declared.logs.DiskName.{DiskName}
use Rattle.cw_txn.specs.declared.entry.Entry.{Entry}
use Rattle.cw_txn.specs.declared.entry.Entry.TheVariants.{Bump, Commit}
use Rattle.cw_offset.specs.declared.body.OffsetEntry.{OffsetEntry}
use Rattle.cw_offset.specs.declared.body.OffsetEntry.TheVariants.{Records}
use Rattle.cw_data.specs.declared.entry.DataEntry.{DataEntry}
use Rattle.cw_config.specs.View.{is_pending}
use Rattle.cw_feed.specs.declared.cut.CutAnswer.{CutAnswer}
use Rattle.cw_feed.specs.declared.cut.CutAnswer.TheVariants.{Cut, AtEnd, LineTooLong}
use Rattle.cw_model.specs.declared.did.Did.{Did}
use Rattle.cw_model.specs.declared.did.Did.TheVariants as did
use Rattle.cw_model.specs.declared.fault.WorldFault.{WorldFault}
use Rattle.cw_model.specs.declared.fault.WorldFault.TheVariants as fault
use Rattle.cw_model.specs.declared.instance.Cut.{Cut as TaskCut}
use Rattle.cw_model.specs.declared.instance.Instance.{Instance}
use Rattle.cw_model.specs.declared.instance.InstancePhase.{InstancePhase}
use Rattle.cw_model.specs.declared.instance.InstancePhase.TheVariants as phase
use Rattle.cw_model.specs.declared.instance.Trace.TheVariants as trace
use Rattle.cw_model.specs.State.{Setting, Cluster}
use Rattle.cw_model.specs.Facts.{AreFacts}
use Rattle.cw_model.specs.Phases.{has_failed, is_ended}
use Rattle.cw_model.specs.Lookups.{instance_of, last_epoch, end_or_start}
use Rattle.cw_model.specs.Refusals.{Stays}
use Rattle.cw_model.specs.Updates.{as_producer, epoch_in, tid_of, task_id_of, changes_instance, in_phase, next_epoch, with_entries, with_data, with_offset, fits_entries, fits_data, fits_offset}
use Rattle.cw_model.specs.Answers.{Answer, answered, refused, unless_closed}
use Rattle.cw_model.specs.Tasks.{is_sink, cut_of, span_of, tag_of, taking, polling_from, parts_of}
use Rattle.cw_model.specs.EventsSources.{init, with_epoch, verify, is_stale, fetch, at_positions, produce, batch_of, is_bad_cut, put_offsets, offset_record, commit, committed_to, MayProduce}
use Rattle.cw_model.specs.EventsSinks.{sink_cut, deliver, put_sink, sink_offset}
use Rattle.cw_model.specs.EventsReports.{fail}
use Rattle.cw_model.specs.Polls.{Delivery, cut_at, source_turn, gathered}
use Rattle.cw_model.specs.Steps.{told, fails_if_fenced, tells, span_to, takes_cut, polls_source, polls_sink, polls, does, waits, step as task_step}
use Rattle.cw_model.specs.Runs.{Step, May, behind}
use Rattle.cw_model.specs.Runs as step
use Rattle.cw_laws.proofs.Runs.{lives-sound}
use Rattle.cw_laws.proofs.TaskSteps.{may-produce, may-deliver}
use Rattle.cw_run.specs.Reaches.{Reaches}
use Rattle.cw_run.proofs.Reaching.{stays, makes, goes_on}

-- ---- what a refused event of a task leaves

-- what is refused, and what is done
stays-refused : {A : Type 0} (s : Cluster) (e : WorldFault) → Stays {A = A} s (refused e s)
stays-refused s e = λ fault is. refl

stays-done : {A : Type 0} (s t : Cluster) (x : A) → Stays s (answered x t)
stays-done s t x = λ fault is. absurd (cc)

-- either of two
stays-either : {A : Type 0} (s : Cluster) (b : Bool) (x y : Answer A) → Stays s x → Stays s y → Stays s (if b then x else y)
stays-either s true x y one other = one
stays-either s false x y one other = other

-- an event of an instance
stays-instance : {A : Type 0} (i : ℕ) (s : Cluster) (done : Answer A) → Stays s done →
    Stays s (unless_closed s.closed (if is_ended (instance_of i s).phase then refused (fault.Gone i) s else done) s)
stays-instance i s done stays = at s.closed where
  at : (closed : Option (DiskName × ℕ)) → Stays s (unless_closed closed (if is_ended (instance_of i s).phase then refused (fault.Gone i) s else done) s)
  at None = stays-either s (is_ended (instance_of i s).phase) (refused (fault.Gone i) s) done (stays-refused s (fault.Gone i)) stays
  at (Some disk) = stays-refused s (fault.Closed disk.0 disk.1)

-- what is written where there is room
stays-room : {A : Type 0} (s t : Cluster) (fits : Bool) (x : A) (e : WorldFault) → Stays s (if fits then answered x t else refused e s)
stays-room s t fits x e = stays-either s fits (answered x t) (refused e s) (stays-done s t x) (stays-refused s e)

-- what a task writes as a producer
stays-producer : {A : Type 0} (i : ℕ) (s : Cluster) (done : Answer A) → Stays s done → Stays s (as_producer i done s)
stays-producer i s done stays =
    let own : ℕ = epoch_in (instance_of i s).epoch in let last : ℕ = last_epoch (tid_of (instance_of i s).item) s in
    stays-either s (own == last) done (refused (fault.Fenced own last) s) stays (stays-refused s (fault.Fenced own last))

pub init-stays : (i : ℕ) (s : Cluster) → Stays s (init i s)
init-stays i s =
    let tid : Tid = tid_of (instance_of i s).item in
    stays-instance i s _ (stays-room s (changes_instance i (with_epoch (next_epoch tid s)) (with_entries (Bump tid ∷ []) s)) (fits_entries (Bump tid ∷ []) s) (next_epoch tid s) _)

pub verify-stays : (i : ℕ) (s : Cluster) → Stays s (verify i s)
verify-stays i s =
    let own : Instance = instance_of i s in let name : List ℕ = (task_id_of own.item).connector in
    stays-instance i s _ (stays-either s (is_stale own s) _ _ (stays-refused s _)
    (stays-either s (is_pending name s.configs) _ _ (stays-refused s fault.PendingFence) (stays-done s (changes_instance i (in_phase phase.Verified) s) own.generation)))

pub fetch-stays : (i : ℕ) (s : Cluster) → Stays s (fetch i s)
fetch-stays i s = stays-instance i s _ (stays-done s (changes_instance i (at_positions (map (λ part. end_or_start part s.entries) (parts_of (instance_of i s)))) s) tt)

pub produce-stays : (setting : Setting) (i : ℕ) (cut : TaskCut) (s : Cluster) → Stays s (produce setting i cut s)
produce-stays setting i cut s =
    let own : Instance = instance_of i s in let batch : DataEntry = batch_of setting.feeds own cut in
    stays-instance i s _ (stays-producer i s _ (stays-either s (is_bad_cut setting.feeds own cut) _ _ (stays-refused s (fault.BadCut cut.from cut.to))
    (stays-room s (changes_instance i (taking phase.Produced cut) (with_data batch s)) (fits_data batch s) tt _)))

pub put_offsets-stays : (i : ℕ) (s : Cluster) → Stays s (put_offsets i s)
put_offsets-stays i s =
    let own : Instance = instance_of i s in let entry : OffsetEntry = Records (tag_of own) (offset_record (span_of own) s ∷ []) in
    stays-instance i s _ (stays-producer i s _ (stays-room s (changes_instance i (in_phase phase.Offered) (with_offset entry s)) (fits_offset entry s) tt _))

pub commit-stays : (i : ℕ) (s : Cluster) → Stays s (commit i s)
commit-stays i s =
    let own : Instance = instance_of i s in let frame : List Entry = Commit (tag_of own) own.generation (span_of own ∷ []) ∷ [] in
    stays-instance i s _ (stays-producer i s _ (stays-room s (changes_instance i (committed_to (cut_of own).to) (with_entries frame s)) (fits_entries frame s) (span_of own) _))

pub deliver-stays : (i turn to : ℕ) (s : Cluster) → Stays s (deliver i turn to s)
deliver-stays i turn to s = stays-instance i s _ (stays-done s (changes_instance i (taking phase.Delivered (sink_cut turn to (instance_of i s))) s) tt)

pub put_sink-stays : (i to : ℕ) (s : Cluster) → Stays s (put_sink i to s)
put_sink-stays i to s =
    let own : Instance = instance_of i s in let frame : List Entry = sink_offset own to ∷ [] in
    stays-instance i s _ (stays-producer i s _ (stays-room s (changes_instance i (polling_from phase.Polling to) (with_entries frame s)) (fits_entries frame s) tt _))

-- ---- a step

module _ (setting : Setting) (i : ℕ) (s : Cluster) (f : AreFacts setting s) where
  abbrev own : Instance
  own = instance_of i s

  -- an event, and the failure where it is fenced
  tells-run : {A : Type 0} (done : Answer A) (tell : A → Did) → has_failed own.phase ≡ false → Stays s done →
      ((x : A) → fails_if_fenced i (Ok (tell x)) done.1 ≡ done.1) → Reaches setting s done.1 → Reaches setting s (tells i done tell).1
  tells-run {A} done tell alive stays plain reached = at done.0 refl where
    at : (r : Result A WorldFault) → done.0 ≡ r → Reaches setting s (fails_if_fenced i (told tell r) done.1)
    at (Ok x) is = subst (Reaches setting s) (sym (plain x)) reached
    at (Err (fault.Fenced mine current)) is =
        goes_on setting s done.1 (fail i (trace.Fenced mine current) done.1).1 reached
        (makes setting done.1 (step.fail i (trace.Fenced mine current)) (subst (λ t. has_failed (instance_of i t).phase ≡ false) (sym (stays (fault.Fenced mine current) is)) alive))
    at (Err (fault.StaleGeneration mine current)) is = reached
    at (Err fault.PendingFence) is = reached
    at (Err (fault.BadCut from to)) is = reached
    at (Err (fault.Gone j)) is = reached
    at (Err (fault.Full log length frame)) is = reached
    at (Err (fault.StoreFault disk count)) is = reached
    at (Err (fault.Closed disk count)) is = reached
    at (Err (fault.Dead w)) is = reached
    at (Err (fault.Group cause)) is = reached
    at (Err fault.TooMany) is = reached
    at (Err fault.Memory) is = reached

  -- what a source's task cuts is written, or fails it
  cut-runs : own.phase ≡ phase.Polling → (turn : ℕ) → ((to : ℕ) → MayProduce i (sink_cut turn to own) s) → (answer : CutAnswer) → Reaches setting s (takes_cut setting i s turn answer).1
  cut-runs polling turn may AtEnd = stays setting s
  cut-runs polling turn may (LineTooLong at) = makes setting s (step.fail i (trace.LineTooLong at)) (rw polling refl)
  cut-runs polling turn may (Cut to) =
      tells-run (produce setting i (sink_cut turn to own) s) (λ _. did.Produce (span_to turn to own)) (rw polling refl) (produce-stays setting i (sink_cut turn to own) s) (λ x. refl)
      (makes setting s (step.produce i (sink_cut turn to own)) (may to))

  source-runs : own.phase ≡ phase.Polling → is_sink own ≡ false → (o : Option ℕ) → source_turn setting.feeds own ≡ o → Reaches setting s (polls_source setting i s o).1
  source-runs polling source None is = stays setting s
  source-runs polling source (Some turn) is = cut-runs polling turn (λ to. may-produce setting i turn to s (lives-sound s f.rows i) polling source is) (cut_at setting.feeds own turn)

  sink-runs : own.phase ≡ phase.Polling → is_sink own ≡ true → (o : Option Delivery) → gathered own s.batches ≡ o → Reaches setting s (polls_sink i s o).1
  sink-runs polling sink None is = stays setting s
  sink-runs polling sink (Some d) is =
      tells-run (deliver i d.turn d.to s) (λ _. did.Deliver d.topic d.from d.to) (rw polling refl) (deliver-stays i d.turn d.to s) (λ x. refl)
      (makes setting s (step.deliver i d.turn d.to) (may-deliver i s d polling sink is))

  polls-run : own.phase ≡ phase.Polling → Reaches setting s (polls setting i s).1
  polls-run polling = either (is_sink own) refl where
    either : (b : Bool) → is_sink own ≡ b → Reaches setting s (if b then polls_sink i s (gathered own s.batches) else polls_source setting i s (source_turn setting.feeds own)).1
    either true sink = sink-runs polling sink (gathered own s.batches) refl
    either false source = source-runs polling source (source_turn setting.feeds own) refl

  does-runs : (p : InstancePhase) → own.phase ≡ p → Reaches setting s (does setting i s p).1
  does-runs phase.Connector is = stays setting s
  does-runs phase.New is = tells-run (init i s) (λ epoch. did.Init epoch.0) (rw is refl) (init-stays i s) (λ x. refl) (makes setting s (step.init i) is)
  does-runs phase.Inited is = tells-run (verify i s) (λ generation. did.Verify generation) (rw is refl) (verify-stays i s) (λ x. refl) (makes setting s (step.verify i) is)
  does-runs phase.Verified is = tells-run (fetch i s) (λ _. did.Fetch) (rw is refl) (fetch-stays i s) (λ x. refl) (makes setting s (step.fetch i) is)
  does-runs phase.Polling is = polls-run is
  does-runs phase.Produced is = tells-run (put_offsets i s) (λ _. did.Offsets) (rw is refl) (put_offsets-stays i s) (λ x. refl) (makes setting s (step.put_offsets i) is)
  does-runs phase.Offered is = tells-run (commit i s) (λ span. did.Commit span) (rw is refl) (commit-stays i s) (λ x. refl) (makes setting s (step.commit i) is)
  does-runs phase.Delivered is =
      tells-run (put_sink i (cut_of own).to s) (λ _. did.Offsets) (rw is refl) (put_sink-stays i (cut_of own).to s) (λ x. refl)
      (makes setting s (step.put_sink i (cut_of own).to) (record { delivered = is; as_far = refl }))
  does-runs phase.Failed is = stays setting s
  does-runs phase.Ended is = stays setting s

  pub step-runs : Reaches setting s (task_step setting i s).1
  step-runs = either (waits own s) where
    either : (b : Bool) → Reaches setting s (if b then answered did.Paused s else does setting i s own.phase).1
    either true = stays setting s
    either false = does-runs own.phase refl
