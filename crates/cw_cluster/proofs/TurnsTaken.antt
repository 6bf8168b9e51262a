-- A turn over a world is that of the cluster that runs.
use Rattle.std.proofs.Common.{◌≡◌, ◌≢◌, ◌⊎◌, inl, inr, ⊎_elim, ℕ, List, Bool, Option, Some, None, is_none, Result, Ok, Err, IfErr, if◌then◌else◌, refl, sym, ap, ◌∙◌, subst}
use Rattle.std.specs.Option.{option_map}
use Rattle.cw_types.specs.declared.logs.DiskName.{DiskName}
use Rattle.cw_types.specs.declared.logs.LogName.{LogName}
use Rattle.cw_disk.specs.declared.device.Disk.{Ghosts}
use Rattle.cw_io.specs.declared.outlet.Outlet as outlet
use Rattle.cw_io.specs.Shelf.{Files}
use Rattle.cw_model.specs.declared.did.Did.{Did}
use Rattle.cw_model.specs.declared.fault.WorldFault.{WorldFault}
use Rattle.cw_model.specs.declared.fault.WorldFault.TheVariants as fault
use Rattle.cw_model.specs.declared.tick.Tick.{Tick}
use Rattle.cw_model.specs.State.{Setting, Cluster}
use Rattle.cw_model.specs.Answers.{Answer}
use Rattle.cw_model.specs.Lookups.{instance_of}
use Rattle.cw_model.specs.Reopening.{stored_of}
use Rattle.cw_model.specs.Steps.{step}
use Rattle.cw_model.specs.Tick.{tick}
use Rattle.cw_edges.specs.Handing.{file_of, with_delivery}
use Rattle.cw_world.specs.Logs.{LogsState, HoldAll}
use Rattle.cw_world.specs.Moments.{at_moment}
use Rattle.cw_world.specs.World.{WorldState, Acts, RunsOut, Breaks}
use Rattle.cw_world.proofs.Keeping.{keeps-all}
use Rattle.cw_herder.proofs.Asked.{at-own}
use Rattle.cw_lines.specs.Players.{NoneFell}
use Rattle.cw_sinktask.specs.declared.fault.SinkFault.{SinkFault}
use Rattle.cw_sinktask.specs.declared.fault.SinkFault.TheVariants.{World, Outlet}
use Rattle.cw_run.specs.Deliveries.{delivery_of}
use Rattle.cw_run.specs.Ran.{Ran, RanAnswer, ran_tick, ran_step, stepped_files, IsCutIn}
use Rattle.cw_run.proofs.Deliveries.{stepped-refused, stepped-done}
use Rattle.cw_run.proofs.Living.{IsOwnAnswer, IsOwnFault, Lives, tick-lives, step-lives}
use Rattle.cw_cluster.specs.declared.turn.TurnFault.{TurnFault}
use Rattle.cw_cluster.specs.declared.turn.TurnFault.TheVariants as turn
use Rattle.cw_cluster.specs.Breaking.{IsAlive, ran_of, tell_all}
use Rattle.cw_cluster.specs.Broken.{IsBrokenAt}
use Rattle.cw_cluster.specs.Driven.{faults_of}
use Rattle.cw_cluster.specs.Stepping.{Steps}
use Rattle.cw_cluster.specs.Turning.{IsTurn, IsTick, IsStep, TurnCaused, UnlessBroken, fault_of_turn}
use Rattle.cw_cluster.proofs.Broken.{KeepAll, kinds-same, tells-same, told-in, others-hold}
use Rattle.cw_cluster.proofs.Lined.{has-risen, none-fell, same-counts}
use Rattle.cw_cluster.proofs.Played.{same-ran}
use Rattle.cw_cluster.proofs.StepLeaves.{files-as, same-files}

-- what an event came to, as a turn
abbrev pub as_turn : {A : Type 0} → Result A WorldFault → Result A TurnFault
as_turn (Ok x) = Ok x
as_turn (Err why) = Err (fault_of_turn why)

-- all that is so of a turn
pub record Taken {D U A : Type 0} (G : Ghosts D) (O : outlet.Ghosts U) (cut : Ran → Ran → Type 0) (due : RanAnswer A) (old new : WorldState D) (out_old out_new : U)
    (result : Result A TurnFault) : Type 0 where
  pub turn : IsTurn (λ at next. IsBrokenAt G at next new (O.files out_new)) cut due (ran_of G O old out_old) (ran_of G O new out_new) result
  pub setting : new.setting ≡ old.setting
  pub alive : UnlessBroken (IsAlive G new) result
  pub later : NoneFell (faults_of G O old out_old) (faults_of G O new out_new)
  pub caused : IfErr result (TurnCaused (faults_of G O old out_old) (faults_of G O new out_new))

module _ {D U A : Type 0} (G : Ghosts D) (O : outlet.Ghosts U) (cut : Ran → Ran → Type 0) (event : Cluster → Answer A) (files : Option Files) (old new : WorldState D) (out_old out_new : U)
    (alive : IsAlive G old) (holds : HoldAll G (stored_of old.state) old.logs) (lives : Lives (event old.state)) (later : NoneFell (faults_of G O old out_old) (faults_of G O new out_new)) where
  abbrev r : Ran
  r = ran_of G O old out_old

  abbrev t : Ran
  t = ran_of G O new out_new

  -- what is due
  abbrev due : RanAnswer A
  due = ((event old.state).0, record { cluster = (event old.state).1; files = files; tells = r.tells })

  abbrev Is : Result A WorldFault → Type 0
  Is result = Taken G O cut due old new out_old out_new (as_turn result)

  module _ (result : Result A WorldFault) (acts : Acts G event old new result) (behind : event old.state ≡ (result, new.state) → O.files out_new ≡ files)
      (stay : (why : WorldFault) → result ≡ Err why → O.files out_new ≡ O.files out_old) where
    tells : t.tells ≡ r.tells
    tells = tells-same G old.logs new.logs acts.keeps

    lives-at : new.state.closed ≡ None → IsAlive G new
    lives-at unclosed = record { alive = unclosed; kinds = kinds-same G old.logs new.logs acts.keeps alive.kinds }

    -- it was done or refused
    row-open : event old.state ≡ (result, new.state) → IsAlive G new
    row-open row = lives-at (subst (λ (a : Answer A). a.1.closed ≡ None) row lives.unclosed)

    row-due : event old.state ≡ (result, new.state) → due ≡ (result, t)
    row-due row =
        ap (λ (a : Answer A). (a.0, record { cluster = a.1; files = files; tells = r.tells })) row
        ∙ ap (λ (x : Ran). (result, x)) (same-ran {s = new.state} refl (sym (behind row)) (sym tells))

    row-own : event old.state ≡ (result, new.state) → IsOwnAnswer result
    row-own row = subst (λ (a : Answer A). IsOwnAnswer a.0) row lives.own

    -- memory was wanting
    short-same : (why : WorldFault) → result ≡ Err why → new.state ≡ old.state → t ≡ r
    short-same why is same = same-ran same (stay why is) tells

    short-alive : new.state ≡ old.state → IsAlive G new
    short-alive same = lives-at (ap (λ (s : Cluster). s.closed) same ∙ alive.alive)

    -- a disk failed
    broken-at : (why : WorldFault) → result ≡ Err why → Breaks G acts.log event old new result → IsBrokenAt G r (event old.state).1 new (O.files out_new)
    broken-at why is breaks = record {
      log = acts.log;
      apart = breaks.apart;
      left = λ all. let own = told-in G acts.log old.logs all in breaks.left own.0 own.1;
      others = others-hold G acts.log (stored_of old.state) old.logs new.logs acts.others holds;
      kinds = kinds-same G old.logs new.logs acts.keeps alive.kinds;
      tells = tells;
      same = stay why is;
    }

  -- a refusal
  refused-taken : (why : WorldFault) → (acts : Acts G event old new (Err why)) → (event old.state ≡ (Err why, new.state) → O.files out_new ≡ files) →
      (O.files out_new ≡ O.files out_old) → (why ≢ fault.Memory) → ((disk : DiskName) (count : ℕ) → why ≢ fault.StoreFault disk count) → fault_of_turn why ≡ turn.Refused why → Is (Err why)
  refused-taken why acts behind stay full kept refuses =
      let row : event old.state ≡ (Err why, new.state) = ⊎_elim (λ is. is) (λ stops. absurd (⊎_elim
      (λ (out : RunsOut G acts.log old new (Err why)). full (let e : Err why ≡ Err fault.Memory = out.answer in cc))
      (λ (breaks : Breaks G acts.log event old new (Err why)). kept breaks.disk breaks.count (let e : Err why ≡ Err (fault.StoreFault breaks.disk breaks.count) = breaks.answer in cc)) stops)) acts.answers in
      subst (λ (f : TurnFault). Taken G O cut due old new out_old out_new (Err f)) (sym refuses) (record {
        turn = row-due (Err why) acts behind (λ w e. stay) row;
        setting = acts.setting;
        alive = row-open (Err why) acts behind (λ w e. stay) row;
        later = later;
        caused = tt;
      })

  pub taken : (result : Result A WorldFault) → Acts G event old new result → (event old.state ≡ (result, new.state) → O.files out_new ≡ files) →
      ((why : WorldFault) → result ≡ Err why → O.files out_new ≡ O.files out_old) → Is result
  taken (Ok x) acts behind stay =
      let row : event old.state ≡ (Ok x, new.state) = ⊎_elim (λ is. is) (λ stops. absurd (⊎_elim
      (λ (out : RunsOut G acts.log old new (Ok x)). let e : Ok x ≡ Err fault.Memory = out.answer in cc)
      (λ (breaks : Breaks G acts.log event old new (Ok x)). let e : Ok x ≡ Err (fault.StoreFault breaks.disk breaks.count) = breaks.answer in cc) stops)) acts.answers in
      record { turn = row-due (Ok x) acts behind stay row; setting = acts.setting; alive = row-open (Ok x) acts behind stay row; later = later; caused = tt }
  taken (Err (fault.Fenced own current)) acts behind stay = refused-taken (fault.Fenced own current) acts behind (stay _ refl) (λ e. cc) (λ d c e. cc) refl
  taken (Err (fault.StaleGeneration own current)) acts behind stay = refused-taken (fault.StaleGeneration own current) acts behind (stay _ refl) (λ e. cc) (λ d c e. cc) refl
  taken (Err fault.PendingFence) acts behind stay = refused-taken fault.PendingFence acts behind (stay _ refl) (λ e. cc) (λ d c e. cc) refl
  taken (Err (fault.BadCut from to)) acts behind stay = refused-taken (fault.BadCut from to) acts behind (stay _ refl) (λ e. cc) (λ d c e. cc) refl
  taken (Err (fault.Gone i)) acts behind stay = refused-taken (fault.Gone i) acts behind (stay _ refl) (λ e. cc) (λ d c e. cc) refl
  taken (Err (fault.Full log length frame)) acts behind stay = refused-taken (fault.Full log length frame) acts behind (stay _ refl) (λ e. cc) (λ d c e. cc) refl
  taken (Err (fault.Closed disk count)) acts behind stay = refused-taken (fault.Closed disk count) acts behind (stay _ refl) (λ e. cc) (λ d c e. cc) refl
  taken (Err (fault.Dead w)) acts behind stay = refused-taken (fault.Dead w) acts behind (stay _ refl) (λ e. cc) (λ d c e. cc) refl
  taken (Err (fault.Group cause)) acts behind stay = refused-taken (fault.Group cause) acts behind (stay _ refl) (λ e. cc) (λ d c e. cc) refl
  taken (Err fault.TooMany) acts behind stay = refused-taken fault.TooMany acts behind (stay _ refl) (λ e. cc) (λ d c e. cc) refl
  taken (Err fault.Memory) acts behind stay =
      let same : new.state ≡ old.state = ⊎_elim (λ row. absurd (row-own (Err fault.Memory) acts behind stay row)) (λ stops. ⊎_elim
      (λ (out : RunsOut G acts.log old new (Err fault.Memory)). out.state)
      (λ (breaks : Breaks G acts.log event old new (Err fault.Memory)). absurd (let e : Err fault.Memory ≡ Err (fault.StoreFault breaks.disk breaks.count) = breaks.answer in cc)) stops) acts.answers in
      record {
        turn = short-same (Err fault.Memory) acts behind stay fault.Memory refl same;
        setting = acts.setting;
        alive = short-alive (Err fault.Memory) acts behind stay same;
        later = later;
        caused = tt;
      }
  taken (Err (fault.StoreFault disk count)) acts behind stay =
      let breaks : Breaks G acts.log event old new (Err (fault.StoreFault disk count)) = ⊎_elim (λ row. absurd (row-own (Err (fault.StoreFault disk count)) acts behind stay row)) (λ stops. ⊎_elim
      (λ (out : RunsOut G acts.log old new (Err (fault.StoreFault disk count))). absurd (let e : Err (fault.StoreFault disk count) ≡ Err fault.Memory = out.answer in cc))
      (λ (b : Breaks G acts.log event old new (Err (fault.StoreFault disk count))). b) stops) acts.answers in
      let told : Err (fault.StoreFault disk count) ≡ Err (fault.StoreFault breaks.disk breaks.count) = breaks.answer in
      let disk_is : breaks.disk ≡ disk = cc in let count_is : breaks.count ≡ count = cc in
      record {
        turn = broken-at (Err (fault.StoreFault disk count)) acts behind stay (fault.StoreFault disk count) refl breaks;
        setting = acts.setting;
        alive = tt;
        later = later;
        caused = subst (λ (d : DiskName). TurnCaused (faults_of G O old out_old) (faults_of G O new out_new) (turn.Store d count)) disk_is
            (subst (λ (n : ℕ). TurnCaused (faults_of G O old out_old) (faults_of G O new out_new) (turn.Store breaks.disk n)) count_is
            (has-risen G old.logs new.logs acts.log breaks.disk breaks.count breaks.fails));
      }

-- ---- a tick

pub tick-taken : {D U : Type 0} (G : Ghosts D) (O : outlet.Ghosts U) (w : ℕ) (old new : WorldState D) (out : U) → IsAlive G old → HoldAll G (stored_of old.state) old.logs →
    (result : Result Tick WorldFault) → Acts G (tick w) old new result → Taken G O (λ a b. ⊥) (ran_tick w (ran_of G O old out)) old new out out (as_turn result)
tick-taken G O w old new out alive holds result acts =
    taken G O (λ a b. ⊥) (tick w) (O.files out) old new out out alive holds (tick-lives old.state alive.alive w) (none-fell G O old new out out acts.keeps (same-counts G O old out).outlet)
    result acts (λ row. refl) (λ why is. refl)

-- ---- a step

-- what a step came to, as a turn
abbrev pub step_turn : Result Did SinkFault → Result Did TurnFault
step_turn (Ok did) = Ok did
step_turn (Err (World why)) = Err (fault_of_turn why)
step_turn (Err Outlet) = Err turn.Outlet

module _ {D U : Type 0} (G : Ghosts D) (O : outlet.Ghosts U) (i : ℕ) (old new : WorldState D) (out_old out_new : U) (alive : IsAlive G old) (holds : HoldAll G (stored_of old.state) old.logs) where
  abbrev next : RanAnswer Did
  next = ran_step old.setting i (ran_of G O old out_old)

  pub step-taken : (result : Result Did SinkFault) → Steps G O i old new out_old out_new result → Taken G O (IsCutIn i) next old new out_old out_new (step_turn result)
  step-taken (Ok x) steps =
      taken G O (IsCutIn i) (step old.setting i) (stepped_files i old.state (O.files out_old)) old new out_old out_new alive holds (step-lives old.setting i old.state alive.alive)
      (none-fell G O old new out_old out_new steps.world.keeps steps.later) (Ok x) steps.world
      (λ row. files-as (with_delivery (file_of (instance_of i old.state)) (delivery_of i old.state)) (O.files out_old) (O.files out_new) steps.told
      (λ held is. let left = steps.files held is in left.1 ∙ ap (λ (f : Files). Some f) left.2)
      ∙ sym (stepped-done old.setting i old.state x (O.files out_old) (ap (λ (a : Answer Did). a.0) row)))
      (λ why is. absurd (cc))
  step-taken (Err (World why)) steps =
      let same : O.files out_new ≡ O.files out_old = same-files (O.files out_old) (O.files out_new) steps.told (λ held is. let left = steps.files held is in left.1 ∙ ap (λ (f : Files). Some f) left.2) in
      taken G O (IsCutIn i) (step old.setting i) (stepped_files i old.state (O.files out_old)) old new out_old out_new alive holds (step-lives old.setting i old.state alive.alive)
      (none-fell G O old new out_old out_new steps.world.keeps steps.later) (Err why) steps.world
      (λ row. same ∙ sym (stepped-refused old.setting i old.state why (O.files out_old) (ap (λ (a : Answer Did). a.0) row)))
      (λ e is. same)
  step-taken (Err Outlet) steps =
      let same : new ≡ old = steps.world in
      record {
        turn = record {
          cluster = ap (λ (x : WorldState D). x.state) same;
          tells = ap (λ (x : WorldState D). tell_all G x.logs) same;
          told = steps.told;
          files = steps.files;
        };
        setting = ap (λ (x : WorldState D). x.setting) same;
        alive = subst (IsAlive G) (sym same) alive;
        later = none-fell G O old new out_old out_new (λ any. keeps-all G any old.logs new.logs (ap (λ (x : WorldState D). x.logs) same)) steps.later;
        caused = steps.counted;
      }

-- ---- as they are taken

module _ {D U : Type 0} (G : Ghosts D) (O : outlet.Ghosts U) (w now : ℕ) (old new : WorldState D) (out : U) (alive : IsAlive G old) (holds : HoldAll G (stored_of old.state) old.logs)
    (own : now ≡ old.state.moment) (result : Result Tick WorldFault) (acts : Acts G (tick w) (at_moment now old) new result) where
  abbrev Ticked : Result Tick TurnFault → Type 0
  Ticked answer = Taken G O (λ a b. ⊥) (ran_tick w (ran_of G O old out)) old new out out answer

  all-ticked : Ticked (as_turn result)
  all-ticked = tick-taken G O w old new out alive holds result (subst (λ (o : WorldState D). Acts G (tick w) o new result) (at-own old now own) acts)

  pub tick-done : (x : Tick) → result ≡ Ok x → Ticked (Ok x)
  tick-done x is = subst (λ (r : Result Tick WorldFault). Ticked (as_turn r)) is all-ticked

  pub tick-refused : (why : WorldFault) (told : TurnFault) → result ≡ Err why → told ≡ fault_of_turn why → Ticked (Err told)
  tick-refused why told is tells = subst (λ (f : TurnFault). Ticked (Err f)) (sym tells) (subst (λ (r : Result Tick WorldFault). Ticked (as_turn r)) is all-ticked)

module _ {D U : Type 0} (G : Ghosts D) (O : outlet.Ghosts U) (i : ℕ) (old new : WorldState D) (out_old out_new : U) (alive : IsAlive G old) (holds : HoldAll G (stored_of old.state) old.logs)
    (result : Result Did SinkFault) (steps : Steps G O i old new out_old out_new result) where
  abbrev Stepped : Result Did TurnFault → Type 0
  Stepped answer = Taken G O (IsCutIn i) (ran_step old.setting i (ran_of G O old out_old)) old new out_old out_new answer

  pub step-made : (x : Did) → result ≡ Ok x → Stepped (Ok x)
  step-made x is = subst (λ (r : Result Did SinkFault). Stepped (step_turn r)) is (step-taken G O i old new out_old out_new alive holds result steps)

  pub step-refused : (why : WorldFault) (told : TurnFault) → result ≡ Err (World why) → told ≡ fault_of_turn why → Stepped (Err told)
  step-refused why told is tells =
      subst (λ (f : TurnFault). Stepped (Err f)) (sym tells) (subst (λ (r : Result Did SinkFault). Stepped (step_turn r)) is (step-taken G O i old new out_old out_new alive holds result steps))
