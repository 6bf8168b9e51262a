-- The directive that an instance takes a step is played.
use Rattle.std.proofs.Common.{◌≡◌, inr, ℕ, List, Option, Some, None, is_none, Result, Ok, Err, if◌then◌else◌, refl, sym, ap, ◌∙◌, subst}
use Rattle.std.specs.Option.{option_map}
use Rattle.cw_types.specs.declared.logs.DiskName.{DiskName}
use Rattle.cw_disk.specs.declared.device.Disk.{Ghosts}
use Rattle.cw_io.specs.declared.outlet.Outlet as outlet
use Rattle.cw_io.specs.Shelf.{Files}
use Rattle.cw_script.specs.declared.directive.Directive.{Directive}
use Rattle.cw_script.specs.declared.directive.Directive.TheVariants as directive
use Rattle.cw_model.specs.declared.did.Did.{Did}
use Rattle.cw_model.specs.declared.fault.WorldFault.{WorldFault}
use Rattle.cw_model.specs.declared.fault.WorldFault.TheVariants as fault
use Rattle.cw_model.specs.State.{Cluster}
use Rattle.cw_model.specs.Answers.{Answer}
use Rattle.cw_model.specs.Lookups.{instance_of}
use Rattle.cw_model.specs.Reopening.{stored_of}
use Rattle.cw_model.specs.Steps.{step}
use Rattle.cw_edges.specs.Handing.{file_of, with_delivery}
use Rattle.cw_world.specs.Logs.{HoldAll}
use Rattle.cw_world.specs.World.{WorldState, Acts}
use Rattle.cw_world.proofs.Keeping.{keeps-all}
use Rattle.cw_sinktask.specs.declared.fault.SinkFault.{SinkFault}
use Rattle.cw_sinktask.specs.declared.fault.SinkFault.TheVariants.{World, Outlet}
use Rattle.cw_lines.specs.declared.end.DriveEnd.{DriveEnd}
use Rattle.cw_lines.specs.declared.end.DriveEnd.TheVariants as ends
use Rattle.cw_run.specs.Answers.{text_of}
use Rattle.cw_run.specs.Deliveries.{delivery_of}
use Rattle.cw_run.proofs.Deliveries.{stepped-refused}
use Rattle.cw_cluster.specs.declared.outcome.Outcome.{Outcome}
use Rattle.cw_cluster.specs.declared.outcome.Outcome.TheVariants as came
use Rattle.cw_cluster.specs.Breaking.{IsAlive, ran_with}
use Rattle.cw_cluster.specs.Events.{came_to, event_of}
use Rattle.cw_cluster.specs.Outcomes.{outcome_words}
use Rattle.cw_cluster.specs.Playing.{IsOutletKept, PlaysDirective}
use Rattle.cw_cluster.specs.Playing.HasStopped.{left}
use Rattle.cw_cluster.specs.Saying.{Says}
use Rattle.cw_cluster.specs.Stepping.{Steps}
use Rattle.cw_cluster.proofs.Broken.{IsUnsettling}
use Rattle.cw_cluster.proofs.Coming.{acts-comes}
use Rattle.cw_cluster.proofs.EventLives.{event-lives}
use Rattle.cw_cluster.proofs.Played.{is-played}
use Rattle.cw_cluster.proofs.StepLeaves.{files-as, same-files}

-- ---- the step

came-refused : {A : Type 0} (outcome : A → Outcome) (result : Result A WorldFault) (why : WorldFault) → came_to outcome result ≡ Err why → result ≡ Err why
came-refused outcome (Ok x) why is = absurd (cc)
came-refused outcome (Err own) why is = let same : own ≡ why = cc in ap (λ (e : WorldFault). Err e) same

module _ {D U : Type 0} (G : Ghosts D) (O : outlet.Ghosts U) (i : ℕ) (old new : WorldState D) (out_old out_new : U) (alive : IsAlive G old) where
  abbrev request : Directive
  request = directive.Step i

  unsettling : IsUnsettling request
  unsettling most is = cc

  event-acts : (result : Result Did WorldFault) → Acts G (step old.setting i) old new result → Acts G (event_of old.setting request) old new (came_to (came.Step i) result)
  unfolding event_of
  event-acts result acts = acts-comes G (step old.setting i) (event_of old.setting request) (came.Step i) old new result (came_to (came.Step i) result) refl refl acts

  row-refused : (why : WorldFault) (t : Cluster) → event_of old.setting request old.state ≡ (Err why, t) → (step old.setting i old.state).0 ≡ Err why
  unfolding event_of
  row-refused why t row = came-refused (came.Step i) (step old.setting i old.state).0 why (ap (λ (a : Answer Outcome). a.0) row)

  module _ (holds : HoldAll G (stored_of old.state) old.logs) (before after : List ℕ) (result : Result (Unit {0}) DriveEnd) where
    pub done-played : (x : Did) → Steps G O i old new out_old out_new (Ok x) → Says (text_of i (Ok (came.Step i x)) (outcome_words old.setting.group)) before after result →
        PlaysDirective G request old new (O.files out_old) (O.files out_new) before after result
    done-played x steps said =
        is-played G request old new (O.files out_old) (O.files out_new) (Ok (came.Step i x)) unsettling alive holds (event-lives old.setting request old.state unsettling alive.alive)
        (event-acts (Ok x) steps.world)
        (λ row. files-as (with_delivery (file_of (instance_of i old.state)) (delivery_of i old.state)) (O.files out_old) (O.files out_new) steps.told (λ files is. let kept = steps.files files is in kept.1 ∙ ap (λ (f : Files). Some f) kept.2)
        ∙ ap (λ (o : Option (DiskName × ℕ)). option_map (with_delivery (file_of (instance_of i old.state)) (if is_none o then delivery_of i old.state else None)) (O.files out_old)) (sym alive.alive))
        (λ why is. absurd (cc)) before after result said

    pub refused-played : (why : WorldFault) → Steps G O i old new out_old out_new (Err (World why)) → Says (text_of i (Err why) (outcome_words old.setting.group)) before after result →
        PlaysDirective G request old new (O.files out_old) (O.files out_new) before after result
    refused-played why steps said =
        let same : O.files out_new ≡ O.files out_old = same-files (O.files out_old) (O.files out_new) steps.told (λ files is. let kept = steps.files files is in kept.1 ∙ ap (λ (f : Files). Some f) kept.2) in
        is-played G request old new (O.files out_old) (O.files out_new) (Err why) unsettling alive holds (event-lives old.setting request old.state unsettling alive.alive)
        (event-acts (Err why) steps.world)
        (λ row. same ∙ sym (stepped-refused old.setting i old.state why (O.files out_old) (row-refused why new.state row)))
        (λ e is. same) before after result said

  -- the outlet failed
  pub cut-off-played : (before : List ℕ) → Steps G O i old new out_old out_new (Err Outlet) →
      PlaysDirective G request old new (O.files out_old) (O.files out_new) before before (Err ends.OutletFault)
  cut-off-played before steps =
      let same : new ≡ old = steps.world in
      record {
        outcome = left (record {
          because = refl;
          is_amid = inr (inr (record {
            cluster = ap (λ (x : WorldState D). x.state) same;
            tells = ap (λ (x : WorldState D). (ran_with G x None).tells) same;
            told = steps.told;
            files = steps.files;
          }));
          text = refl;
          lives = subst (IsAlive G) (sym same) alive;
        });
        setting = ap (λ (x : WorldState D). x.setting) same;
        name = ap (λ (x : WorldState D). x.name) same;
        keeps = λ any. keeps-all G any old.logs new.logs (ap (λ (x : WorldState D). x.logs) same);
      }

-- ---- what the outlet says

-- what is said is never that an outlet failed
pub not-outlet : (n : ℕ) (done : Result Outcome WorldFault) (text : Outcome → List (List ℕ)) (before after : List ℕ) (result : Result (Unit {0}) DriveEnd) → Says (text_of n done text) before after result →
    result ≡ Err ends.OutletFault → ⊥
not-outlet n done text before after (Ok _) says is = cc
not-outlet n (Ok x) text before after (Err end) says is = let why = says.why in cc
not-outlet n (Err (fault.Fenced own current)) text before after (Err end) says is = let why = says.why in cc
not-outlet n (Err (fault.StaleGeneration own current)) text before after (Err end) says is = let why = says.why in cc
not-outlet n (Err fault.PendingFence) text before after (Err end) says is = let why = says.why in cc
not-outlet n (Err (fault.BadCut from to)) text before after (Err end) says is = let why = says.why in cc
not-outlet n (Err (fault.Gone j)) text before after (Err end) says is = let why = says.why in cc
not-outlet n (Err (fault.Full log length frame)) text before after (Err end) says is = let why = says.why in cc
not-outlet n (Err (fault.StoreFault disk count)) text before after (Err end) says is = let why = says.why in cc
not-outlet n (Err (fault.Closed disk count)) text before after (Err end) says is = let why = says.why in cc
not-outlet n (Err (fault.Dead w)) text before after (Err end) says is = let why = says.why in cc
not-outlet n (Err (fault.Group cause)) text before after (Err end) says is = let why = says.why in cc
not-outlet n (Err fault.TooMany) text before after (Err end) says is = let why = says.why in cc
not-outlet n (Err fault.Memory) text before after (Err end) says is = let why = says.why in cc

module _ {D U : Type 0} (G : Ghosts D) (O : outlet.Ghosts U) (i : ℕ) (old new : WorldState D) (out_old out_new : U) where
  pub said-kept : (n : ℕ) (done : Result Outcome WorldFault) (text : Outcome → List (List ℕ)) (before after : List ℕ) (answer : Result Did SinkFault) (result : Result (Unit {0}) DriveEnd) →
      Steps G O i old new out_old out_new answer → Says (text_of n done text) before after result → IsOutletKept O out_old out_new result
  said-kept n done text before after answer result steps says = record {
    told = steps.told;
    later = steps.later;
    rose = λ is. absurd (not-outlet n done text before after result says is);
  }

  pub cut-off-kept : Steps G O i old new out_old out_new (Err Outlet) → IsOutletKept O out_old out_new (Err ends.OutletFault)
  cut-off-kept steps = record { told = steps.told; later = steps.later; rose = λ is. steps.counted }
