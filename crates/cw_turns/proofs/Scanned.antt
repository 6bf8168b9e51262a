-- A step that was handed what its poll takes leads on as any other: its event may be made, closes nothing and keeps
-- nothing in the journal.
use Rattle.std.proofs.Common.{◌≡◌, ◌≢◌, ◌<◌, ℕ, Bool, true, false, length, None, Result, Ok, Err, refl, sym, ◌∙◌, subst}
use Rattle.cw_data.specs.declared.entry.DataEntry.{DataEntry}
use Rattle.cw_feed.specs.declared.cut.CutAnswer.{CutAnswer}
use Rattle.cw_feed.specs.declared.cut.CutAnswer.TheVariants.{Cut, AtEnd, LineTooLong}
use Rattle.cw_model.specs.declared.did.Did.{Did}
use Rattle.cw_model.specs.declared.did.Did.TheVariants as did
use Rattle.cw_model.specs.declared.fault.WorldFault.{WorldFault}
use Rattle.cw_model.specs.declared.fault.WorldFault.TheVariants as fault
use Rattle.cw_model.specs.declared.instance.Cut.{Cut as TaskCut}
use Rattle.cw_model.specs.declared.instance.Instance.{Instance}
use Rattle.cw_model.specs.declared.instance.InstancePhase.{InstancePhase}
use Rattle.cw_model.specs.declared.instance.InstancePhase.TheVariants as phase
use Rattle.cw_model.specs.declared.instance.Trace.{Trace}
use Rattle.cw_model.specs.declared.instance.Trace.TheVariants as trace
use Rattle.cw_model.specs.State.{Setting, Cluster}
use Rattle.cw_model.specs.Answers.{Answer}
use Rattle.cw_model.specs.EventsReports.{fail}
use Rattle.cw_model.specs.EventsSinks.{sink_cut}
use Rattle.cw_model.specs.EventsSources.{produce, batch_of, is_bad_cut}
use Rattle.cw_model.specs.Facts.{AreFacts}
use Rattle.cw_model.specs.Lookups.{instance_of}
use Rattle.cw_model.specs.Phases.{has_failed}
use Rattle.cw_model.specs.Polls.{is_something}
use Rattle.cw_model.specs.Refusals.{Stays}
use Rattle.cw_model.specs.Runs as step
use Rattle.cw_model.specs.Steps.{told, fails_if_fenced, tells, takes_cut, span_to, waits, step as task_step}
use Rattle.cw_model.specs.Tasks.{is_sink, parts_of, taking}
use Rattle.cw_model.specs.Updates.{changes_instance, with_data}
use Rattle.cw_laws.proofs.Wrappers.{instance-keeps, producer-keeps, if-keeps, data-keeps}
use Rattle.cw_tasks.proofs.Stepped.{step-does}
use Rattle.cw_sourcetask.specs.Sourced.{source_step}
use Rattle.cw_sourcetask.proofs.Batches.{polls-source}
use Rattle.cw_sourcetask.proofs.Handed.{handed-waits, handed-does, handed-in, elsewhere}
use Rattle.cw_run.specs.Reaches.{Reaches}
use Rattle.cw_run.proofs.Living.{step-lives}
use Rattle.cw_run.proofs.Reaching.{stays, makes, goes_on}
use Rattle.cw_run.proofs.StepRuns.{produce-stays, step-runs}
use Rattle.cw_desk.specs.Keeping.{KeepsJournal}
use Rattle.cw_desk.proofs.Quiet.{fail-quiet, keeps-same, keeps-trans, produce-quiet, task_step-quiet}

-- one state leads to another in which no disk has failed, and keeps nothing in the journal
pub record Leads (setting : Setting) (s t : Cluster) : Type 0 where
  pub reached : Reaches setting s t
  pub unclosed : t.closed ≡ None
  pub kept : KeepsJournal s t

leads-same : (setting : Setting) (s : Cluster) → s.closed ≡ None → Leads setting s s
leads-same setting s unclosed = record { reached = stays setting s; unclosed = unclosed; kept = keeps-same s }

leads-then : (setting : Setting) (s t u : Cluster) → Leads setting s t → Leads setting t u → Leads setting s u
leads-then setting s t u one two = record {
  reached = goes_on setting s t u one.reached two.reached;
  unclosed = two.unclosed;
  kept = keeps-trans s t u one.kept two.kept;
}

-- an instance fails
fail-leads : (setting : Setting) (i : ℕ) (why : Trace) (s : Cluster) → s.closed ≡ None → has_failed (instance_of i s).phase ≡ false → Leads setting s (fail i why s).1
fail-leads setting i why s unclosed alive = record {
  reached = makes setting s (step.fail i why) alive;
  unclosed = instance-keeps (λ (t : Cluster). t.closed ≡ None) i s _ unclosed (λ lives. unclosed);
  kept = fail-quiet i why s;
}

-- a write of what was cut closes nothing
produce-open : (setting : Setting) (i : ℕ) (cut : TaskCut) (s : Cluster) → s.closed ≡ None → (produce setting i cut s).1.closed ≡ None
produce-open setting i cut s unclosed =
    let P : Cluster → Type 0 = λ t. t.closed ≡ None in
    let batch : DataEntry = batch_of setting.feeds (instance_of i s) cut in
    instance-keeps P i s _ unclosed (λ lives. producer-keeps P i s _ unclosed (λ own.
    if-keeps P (is_bad_cut setting.feeds (instance_of i s) cut) _ _ (λ bad. unclosed) (λ fits.
    data-keeps P s batch (changes_instance i (taking phase.Produced cut) (with_data batch s)) tt unclosed (λ room. unclosed))))

module _ (setting : Setting) (i : ℕ) (s : Cluster) (f : AreFacts setting s) (unclosed : s.closed ≡ None) where
  abbrev own : Instance
  own = instance_of i s

  -- an event, and the failure where it is fenced
  tells-leads : {A : Type 0} (done : Answer A) (tell : A → Did) → has_failed own.phase ≡ false → Stays s done →
      ((x : A) → fails_if_fenced i (Ok (tell x)) done.1 ≡ done.1) → Leads setting s done.1 → Leads setting s (tells i done tell).1
  tells-leads {A} done tell alive stays plain leads = at done.0 refl where
    at : (r : Result A WorldFault) → done.0 ≡ r → Leads setting s (fails_if_fenced i (told tell r) done.1)
    at (Ok x) is = subst (λ (t : Cluster). Leads setting s t) (sym (plain x)) leads
    at (Err (fault.Fenced mine current)) is =
        leads-then setting s done.1 (fail i (trace.Fenced mine current) done.1).1 leads
        (fail-leads setting i (trace.Fenced mine current) done.1 leads.unclosed
        (subst (λ (t : Cluster). has_failed (instance_of i t).phase ≡ false) (sym (stays (fault.Fenced mine current) is)) alive))
    at (Err (fault.StaleGeneration mine current)) is = leads
    at (Err fault.PendingFence) is = leads
    at (Err (fault.BadCut from to)) is = leads
    at (Err (fault.Gone j)) is = leads
    at (Err (fault.Full log length frame)) is = leads
    at (Err (fault.StoreFault disk count)) is = leads
    at (Err (fault.Closed disk count)) is = leads
    at (Err (fault.Dead w)) is = leads
    at (Err (fault.Group cause)) is = leads
    at (Err fault.TooMany) is = leads
    at (Err fault.Memory) is = leads

  -- what was cut is written, or fails the task
  cut-leads : own.phase ≡ phase.Polling → is_sink own ≡ false → (turn : ℕ) (found : CutAnswer) → (is_something found ≡ true → turn < length (parts_of own)) →
      Leads setting s (takes_cut setting i s turn found).1
  cut-leads polling source turn AtEnd within = leads-same setting s unclosed
  cut-leads polling source turn (LineTooLong at) within = fail-leads setting i (trace.LineTooLong at) s unclosed (rw polling refl)
  cut-leads polling source turn (Cut to) within =
      let cut : TaskCut = sink_cut turn to own in
      tells-leads (produce setting i cut s) (λ _. did.Produce (span_to turn to own)) (rw polling refl) (produce-stays setting i cut s) (λ x. refl) (record {
        reached = makes setting s (step.produce i cut) (record { polling = polling; source = polls-source setting s i f polling source; turn = within refl });
        unclosed = produce-open setting i cut s unclosed;
        kept = produce-quiet setting i cut s;
      })

  -- a step that looks for itself
  step-leads : Leads setting s (task_step setting i s).1
  step-leads = record { reached = step-runs setting i s f; unclosed = (step-lives setting i s unclosed).unclosed; kept = task_step-quiet setting i s f }

  module _ (turn : ℕ) (found : CutAnswer) (source : own.phase ≡ phase.Polling → is_sink own ≡ false) (within : own.phase ≡ phase.Polling → is_something found ≡ true → turn < length (parts_of own)) where
    -- where it isn't in Polling it is such a step
    other-leads : waits own s ≡ false → (p : InstancePhase) → p ≢ phase.Polling → own.phase ≡ p → Leads setting s (source_step setting i turn found s).1
    other-leads runs p other is = subst (λ (a : Answer Did). Leads setting s a.1)
        (step-does setting i s runs p is ∙ sym (handed-does setting i s turn found runs ∙ handed-in setting i s turn found p is ∙ elsewhere setting i s turn found p other)) step-leads

    by-phase : waits own s ≡ false → (p : InstancePhase) → own.phase ≡ p → Leads setting s (source_step setting i turn found s).1
    by-phase runs phase.Polling is = subst (λ (a : Answer Did). Leads setting s a.1)
        (sym (handed-does setting i s turn found runs ∙ handed-in setting i s turn found phase.Polling is)) (cut-leads is (source is) turn found (within is))
    by-phase runs phase.Connector is = other-leads runs phase.Connector (λ e. cc) is
    by-phase runs phase.New is = other-leads runs phase.New (λ e. cc) is
    by-phase runs phase.Inited is = other-leads runs phase.Inited (λ e. cc) is
    by-phase runs phase.Verified is = other-leads runs phase.Verified (λ e. cc) is
    by-phase runs phase.Produced is = other-leads runs phase.Produced (λ e. cc) is
    by-phase runs phase.Offered is = other-leads runs phase.Offered (λ e. cc) is
    by-phase runs phase.Delivered is = other-leads runs phase.Delivered (λ e. cc) is
    by-phase runs phase.Failed is = other-leads runs phase.Failed (λ e. cc) is
    by-phase runs phase.Ended is = other-leads runs phase.Ended (λ e. cc) is

    pub found-leads : Leads setting s (source_step setting i turn found s).1
    found-leads = at (waits own s) refl where
      at : (b : Bool) → waits own s ≡ b → Leads setting s (source_step setting i turn found s).1
      at true is = subst (λ (a : Answer Did). Leads setting s a.1) (sym (handed-waits setting i s turn found is)) (leads-same setting s unclosed)
      at false is = by-phase is own.phase refl
