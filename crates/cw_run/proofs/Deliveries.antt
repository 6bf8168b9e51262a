-- What a step hands out: where it delivers it is answered so, and where it is refused or moves nothing the files stay.
use Rattle.std.proofs.Common.{◌≡◌, ℕ, Bool, true, false, List, Option, Some, None, is_none, Result, Ok, Err, if◌then◌else◌, refl, sym, ap, ◌∙◌, subst}
use Rattle.std.specs.Option.{option_map}
use Rattle.cw_io.specs.Shelf.{Files}
use Rattle.cw_types.specs.declared.logs.DiskName.{DiskName}
use Rattle.cw_model.specs.declared.did.Did.{Did}
use Rattle.cw_model.specs.declared.did.Did.TheVariants as did
use Rattle.cw_model.specs.declared.fault.WorldFault.{WorldFault}
use Rattle.cw_model.specs.declared.fault.WorldFault.TheVariants as fault
use Rattle.cw_model.specs.declared.instance.Instance.{Instance}
use Rattle.cw_model.specs.declared.instance.InstancePhase.{InstancePhase}
use Rattle.cw_model.specs.declared.instance.InstancePhase.TheVariants as phase
use Rattle.cw_model.specs.State.{Setting, Cluster}
use Rattle.cw_model.specs.Answers.{Answer, answered, refused, unless_closed}
use Rattle.cw_model.specs.EventsSinks.{deliver}
use Rattle.cw_model.specs.Lookups.{instance_of}
use Rattle.cw_model.specs.Phases.{is_ended}
use Rattle.cw_model.specs.Polls.{Delivery, gathered, source_turn}
use Rattle.cw_model.specs.Steps as task
use Rattle.cw_model.specs.Steps.{step, does, waits, polls_sink, polls_source}
use Rattle.cw_model.specs.Tasks.{is_sink}
use Rattle.cw_edges.specs.Handing.{file_of, is_polling, with_delivery}
use Rattle.cw_run.specs.Deliveries.{delivery_of}
use Rattle.cw_run.specs.Ran.{Ran, RanAnswer, with_cluster, ran_tick, ran_step, delivered, stepped_files}
use Rattle.cw_run.specs.Settling.{tick_moves, step_moves}
use Rattle.cw_run.proofs.Still.{tick-still, step-still}

-- where what was done moves nothing, all is as it was
abbrev pub IsStillRan : {A : Type 0} → (A → Bool) → Ran → RanAnswer A → Type 0
IsStillRan {A} moves r answer = (x : A) → answer.0 ≡ Ok x → moves x ≡ false → answer.1 ≡ r

-- an event of an instance that goes on, in a world that is open
at-open : {A : Type 0} (s : Cluster) (o : Option (DiskName × ℕ)) (ended : Bool) (i : ℕ) (x : A) (t : Cluster) → o ≡ None → ended ≡ false →
    (unless_closed o (if ended then refused (fault.Gone i) s else answered x t) s).0 ≡ Ok x
at-open s None false i x t opened live = refl
at-open s None true i x t opened live = absurd (cc)
at-open s (Some why) ended i x t opened live = absurd (cc)

-- any event where all writing has ended
at-closed : {A : Type 0} (s : Cluster) (o : Option (DiskName × ℕ)) (done : Answer A) (why : DiskName × ℕ) → o ≡ Some why →
    (unless_closed o done s).0 ≡ Err (fault.Closed why.0 why.1)
at-closed s o done why closed = ap (λ (c : Option (DiskName × ℕ)). (unless_closed c done s).0) closed

-- nothing is put into a file
map-none : (file : List ℕ) (files : Option Files) → option_map (with_delivery file None) files ≡ files
map-none file None = refl
map-none file (Some held) = refl

module _ (setting : Setting) (i : ℕ) (s : Cluster) where
  abbrev own : Instance
  own = instance_of i s

  -- what a step is answered that delivers
  abbrev told_of : Delivery → Result Did WorldFault
  told_of d = task.told (λ _. did.Deliver d.topic d.from d.to) (deliver i d.turn d.to s).0

  polls-deliver : (d : Delivery) → is_sink own ≡ true → gathered own s.batches ≡ Some d → (does setting i s phase.Polling).0 ≡ told_of d
  polls-deliver d sink found =
      ap (λ (b : Bool). (if b then polls_sink i s (gathered own s.batches) else polls_source setting i s (source_turn setting.feeds own)).0) sink ∙ ap (λ (o : Option Delivery). (polls_sink i s o).0) found

  does-deliver : (p : InstancePhase) → own.phase ≡ p → (d : Delivery) → is_sink own ≡ true → (if is_polling p then gathered own s.batches else None) ≡ Some d →
      ((does setting i s p).0 ≡ told_of d) × (own.phase ≡ phase.Polling)
  does-deliver phase.Connector is d sink found = absurd (cc)
  does-deliver phase.New is d sink found = absurd (cc)
  does-deliver phase.Inited is d sink found = absurd (cc)
  does-deliver phase.Verified is d sink found = absurd (cc)
  does-deliver phase.Polling is d sink found = (polls-deliver d sink found, is)
  does-deliver phase.Produced is d sink found = absurd (cc)
  does-deliver phase.Offered is d sink found = absurd (cc)
  does-deliver phase.Delivered is d sink found = absurd (cc)
  does-deliver phase.Failed is d sink found = absurd (cc)
  does-deliver phase.Ended is d sink found = absurd (cc)

  step-deliver : (d : Delivery) → delivery_of i s ≡ Some d → ((step setting i s).0 ≡ told_of d) × (own.phase ≡ phase.Polling)
  step-deliver d found = at (is_sink own) refl (waits own s) found where
    at : (sink : Bool) → is_sink own ≡ sink → (w : Bool) → (if sink then (if w then None else if is_polling own.phase then gathered own s.batches else None) else None) ≡ Some d →
        ((if w then answered did.Paused s else does setting i s own.phase).0 ≡ told_of d) × (own.phase ≡ phase.Polling)
    at false is w none = absurd (cc)
    at true is true none = absurd (cc)
    at true is false gathers = does-deliver own.phase refl d is gathers

  -- it is answered that the records were delivered
  pub open-deliver : (d : Delivery) → s.closed ≡ None → delivery_of i s ≡ Some d → (step setting i s).0 ≡ Ok (did.Deliver d.topic d.from d.to)
  open-deliver d opened found =
      let stepped = step-deliver d found in
      let done : (deliver i d.turn d.to s).0 ≡ Ok tt = at-open s s.closed (is_ended own.phase) i tt _ opened (ap is_ended stepped.1) in
      stepped.0 ∙ ap (task.told (λ _. did.Deliver d.topic d.from d.to)) done

  -- or that a disk failed before
  closed-deliver : (d : Delivery) (why : DiskName × ℕ) → s.closed ≡ Some why → delivery_of i s ≡ Some d → (step setting i s).0 ≡ Err (fault.Closed why.0 why.1)
  closed-deliver d why closed found =
      (step-deliver d found).0 ∙ ap (task.told (λ _. did.Deliver d.topic d.from d.to)) (at-closed s s.closed _ why closed)

  delivered-open : (d : Delivery) → delivered i s ≡ Some d → (s.closed ≡ None) × (delivery_of i s ≡ Some d)
  delivered-open d found = at s.closed found where
    at : (o : Option (DiskName × ℕ)) → (if is_none o then delivery_of i s else None) ≡ Some d → (o ≡ None) × (delivery_of i s ≡ Some d)
    at None is = (refl, is)
    at (Some why) is = absurd (cc)

  -- ---- the files

  -- they stay where nothing is delivered
  none-delivered : (files : Option Files) → ((d : Delivery) → delivered i s ≡ Some d → ⊥) → stepped_files i s files ≡ files
  none-delivered files never = at (delivered i s) refl where
    at : (o : Option Delivery) → delivered i s ≡ o → option_map (with_delivery (file_of own) o) files ≡ files
    at None is = map-none (file_of own) files
    at (Some d) is = absurd (never d is)

  -- a step that is refused
  pub stepped-refused : (why : WorldFault) (files : Option Files) → (step setting i s).0 ≡ Err why → stepped_files i s files ≡ files
  stepped-refused why files is = none-delivered files (λ d found. let opened = delivered-open d found in let done = open-deliver d opened.0 opened.1 in cc)

  -- one that moves nothing
  stepped-still : (x : Did) (files : Option Files) → (step setting i s).0 ≡ Ok x → step_moves x ≡ false → stepped_files i s files ≡ files
  stepped-still x files is none = none-delivered files (λ d found.
      let opened = delivered-open d found in
      let same : Ok (did.Deliver d.topic d.from d.to) ≡ Ok x = sym (open-deliver d opened.0 opened.1) ∙ is in
      let it : did.Deliver d.topic d.from d.to ≡ x = cc in
      let moves : step_moves x ≡ true = subst (λ (y : Did). step_moves y ≡ true) it refl in
      cc)

  -- one that is done: they have what it hands out
  pub stepped-done : (x : Did) (files : Option Files) → (step setting i s).0 ≡ Ok x → stepped_files i s files ≡ option_map (with_delivery (file_of own) (delivery_of i s)) files
  stepped-done x files is = at s.closed refl (delivery_of i s) refl where
    at : (o : Option (DiskName × ℕ)) → s.closed ≡ o → (found : Option Delivery) → delivery_of i s ≡ found →
        option_map (with_delivery (file_of own) (if is_none o then found else None)) files ≡ option_map (with_delivery (file_of own) found) files
    at None opened found same = refl
    at (Some why) closed None same = refl
    at (Some why) closed (Some d) same = absurd (let never = closed-deliver d why closed same in cc)

-- ---- turns that move nothing

pub tick-still-ran : (w : ℕ) (r : Ran) → IsStillRan tick_moves r (ran_tick w r)
tick-still-ran w r x is none = ap (λ (s : Cluster). with_cluster s r) (tick-still w r.cluster x is none)

pub step-still-ran : (setting : Setting) (i : ℕ) (r : Ran) → IsStillRan step_moves r (ran_step setting i r)
step-still-ran setting i r x is none =
    ap (λ (s : Cluster). record r { cluster = s; files = stepped_files i r.cluster r.files }) (step-still setting i r.cluster x is none)
    ∙ ap (λ (files : Option Files). record r { files = files }) (stepped-still setting i r.cluster x r.files is none)
