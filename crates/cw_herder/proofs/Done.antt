-- An event that a leader's operation makes, as the operation does it and tells of it.
use Rattle.std.proofs.Common.{◌≡◌, ℕ, Bool, List, if◌then◌else◌, Result, Ok, Err, sym, ◌∙◌, ap, subst}
use Rattle.cw_types.specs.declared.logs.LogName.{LogName}
use Rattle.cw_keys.specs.declared.target.Target.{Target}
use Rattle.cw_config.specs.View.{Properties}
use Rattle.cw_txn.specs.declared.entry.SetOffset.{SetOffset}
use Rattle.cw_disk.specs.declared.device.Disk.{Ghosts}
use Rattle.cw_model.specs.declared.fault.WorldFault.{WorldFault}
use Rattle.cw_model.specs.State.{Cluster}
use Rattle.cw_model.specs.Answers.{Answer}
use Rattle.cw_model.specs.EventsLeading.{fence_one, append_fence}
use Rattle.cw_world.specs.World.{WorldState, Writes, Acts}
use Rattle.cw_world.proofs.Acting.{writes-acts}
use Rattle.cw_herder.specs.declared.op.Op.{Op}
use Rattle.cw_herder.specs.declared.op.Op.TheVariants as op
use Rattle.cw_herder.specs.declared.op.OpDone.{OpDone}
use Rattle.cw_herder.specs.declared.op.OpDone.TheVariants as done
use Rattle.cw_herder.specs.Operations.{told_as, done_as, claims, proposes, fences, marks, writes, records_of, sets, op_event}
use Rattle.cw_herder.proofs.Acted.{AnswersAs, acts-as}

module _ {D A : Type 0} (G : Ghosts D) (event : Cluster → Answer A) (tell : A → OpDone) (other : Cluster → Answer OpDone)
    (old new : WorldState D) (result : Result A WorldFault) (is : other old.state ≡ done_as (event old.state) tell) where
  done-as : (answer : Result OpDone WorldFault) → answer ≡ told_as result tell → AnswersAs (event old.state) (other old.state) result answer new.state
  done-as answer telling = record {
    state = ap (λ (a : Answer OpDone). a.1) is;
    done = λ row. ap (λ (a : Answer OpDone). a.0) is ∙ ap (λ (a : Answer A). told_as a.0 tell) row ∙ sym telling;
    wants = λ e. telling ∙ ap (λ (r : Result A WorldFault). told_as r tell) e;
    fails = λ disk count e. telling ∙ ap (λ (r : Result A WorldFault). told_as r tell) e;
    due = λ x e. (tell x, ap (λ (a : Answer OpDone). a.0) is ∙ ap (λ (r : Result A WorldFault). told_as r tell) e);
  }

  acts : (log : LogName) → Writes G log event old new result → (answer : Result OpDone WorldFault) → answer ≡ told_as result tell →
      Acts G other old new answer
  acts log writes answer telling =
      acts-as G event other old new result answer (done-as answer telling) (writes-acts G event old new log result writes)

  -- it was done, and is told
  pub done-op : (log : LogName) → Writes G log event old new result → (x : A) → result ≡ Ok x → Acts G other old new (Ok (tell x))
  done-op log writes x done = acts log writes (Ok (tell x)) (sym (ap (λ (r : Result A WorldFault). told_as r tell) done))

  -- it was refused, and so is the operation
  pub failed-op : (log : LogName) → Writes G log event old new result → (fault : WorldFault) → result ≡ Err fault → Acts G other old new (Err fault)
  failed-op log writes fault fails = acts log writes (Err fault) (sym (ap (λ (r : Result A WorldFault). told_as r tell) fails))

-- a fencing goes on by one of both
abbrev pub fences_if : (w : ℕ) (name : List ℕ) (s : Cluster) → Bool → Answer OpDone
fences_if w name s left =
    if left then done_as (fence_one w name s) (λ did. done.Fenced did.0 did.1) else done_as (append_fence w name s) done.Recorded

-- ---- what each arm does is the operation's event

module _ {D : Type 0} (G : Ghosts D) (w : ℕ) (old new : WorldState D) (result : Result OpDone WorldFault) (asked : Op) where
  abbrev made : Op → Type 0
  made own = Acts G (op_event w own) old new result

  pub claims-made : asked ≡ op.Lead → Acts G (claims w) old new result → Acts G (op_event w asked) old new result
  unfolding op_event
  claims-made is acts = subst made (sym is) acts

  pub proposes-made : (name : List ℕ) → asked ≡ op.Propose name → Acts G (proposes w name) old new result → Acts G (op_event w asked) old new result
  unfolding op_event
  proposes-made name is acts = subst made (sym is) acts

  pub fences-made : (name : List ℕ) → asked ≡ op.Fence name → Acts G (fences w name) old new result → Acts G (op_event w asked) old new result
  unfolding op_event
  fences-made name is acts = subst made (sym is) acts

  pub marks-made : asked ≡ op.Mark → Acts G (marks w) old new result → Acts G (op_event w asked) old new result
  unfolding op_event
  marks-made is acts = subst made (sym is) acts

  abbrev recorded : Op → Type 0
  recorded own = Acts G (writes w (records_of own)) old new result

  pub connector-made : (name : List ℕ) (props : Properties) → asked ≡ op.Connector name props → Acts G (writes w (records_of asked)) old new result →
      Acts G (op_event w asked) old new result
  unfolding op_event
  connector-made name props is acts = subst made (sym is) (subst recorded is acts)

  pub target-made : (name : List ℕ) (target : Target) → asked ≡ op.SetTarget name target → Acts G (writes w (records_of asked)) old new result →
      Acts G (op_event w asked) old new result
  unfolding op_event
  target-made name target is acts = subst made (sym is) (subst recorded is acts)

  pub delete-made : (name : List ℕ) → asked ≡ op.Delete name → Acts G (writes w (records_of asked)) old new result →
      Acts G (op_event w asked) old new result
  unfolding op_event
  delete-made name is acts = subst made (sym is) (subst recorded is acts)

  pub sets-made : (name : List ℕ) (list : List SetOffset) → asked ≡ op.Offsets name list → Acts G (sets w name list) old new result →
      Acts G (op_event w asked) old new result
  unfolding op_event
  sets-made name list is acts = subst made (sym is) acts
