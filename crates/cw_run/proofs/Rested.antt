-- An instance whose step finds nothing to do is told by its phase, and by what it might poll.
use Rattle.std.proofs.Common.{◌≡◌, ℕ, Bool, true, false, not, nat_le, ◌==◌, List, [], ◌∷◌, Option, Some, None, is_none, Result, Ok, Err, refl, sym, ap, ◌∙◌, subst, if◌then◌else◌}
use Rattle.std.specs.List.{find}
use Rattle.cw_types.specs.declared.logs.DiskName.{DiskName}
use Rattle.cw_types.specs.declared.logs.LogName.{LogName}
use Rattle.cw_feed.specs.declared.cut.CutAnswer.{CutAnswer}
use Rattle.cw_feed.specs.declared.cut.CutAnswer.TheVariants as cut
use Rattle.cw_model.specs.declared.did.Did.{Did}
use Rattle.cw_model.specs.declared.did.Did.TheVariants as did
use Rattle.cw_model.specs.declared.fault.WorldFault.{WorldFault}
use Rattle.cw_model.specs.declared.fault.WorldFault.TheVariants as fault
use Rattle.cw_model.specs.declared.instance.Cut.{Cut}
use Rattle.cw_model.specs.declared.instance.InstancePhase.{InstancePhase}
use Rattle.cw_model.specs.declared.instance.InstancePhase.TheVariants as phase
use Rattle.cw_model.specs.State.{Setting, Cluster}
use Rattle.cw_model.specs.Answers.{Answer, answered, refused, unless_closed}
use Rattle.cw_model.specs.EventsSinks.{deliver, put_sink, sink_cut}
use Rattle.cw_model.specs.EventsSources.{init, verify, fetch, produce, put_offsets, commit}
use Rattle.cw_model.specs.Lookups.{instance_of}
use Rattle.cw_model.specs.Phases.{is_ended}
use Rattle.cw_model.specs.Polls.{Delivery, cut_at, gathered, source_turn, turns_of, is_something}
use Rattle.cw_model.specs.Steps as steps
use Rattle.cw_model.specs.Steps.{takes_cut, polls_source, polls_sink, does, waits, step}
use Rattle.cw_model.specs.Tasks.{cut_of, is_sink}
use Rattle.cw_run.specs.Resting.{rests, rests_in}
use Rattle.cw_run.specs.Settling.{is_rest}

-- an event that doesn't tell that the instance has ended
abbrev IsNotGone : {A : Type 0} → Result A WorldFault → Type 0
IsNotGone r = (n : ℕ) → r ≡ Err (fault.Gone n) → ⊥

done-not : {A : Type 0} (x : A) → IsNotGone {A = A} (Ok x)
done-not x n e = cc

full-not : {A : Type 0} (log : LogName) (size frame : ℕ) → IsNotGone {A = A} (Err (fault.Full log size frame))
full-not log size frame n e = cc

closed-not : {A : Type 0} (disk : DiskName) (count : ℕ) → IsNotGone {A = A} (Err (fault.Closed disk count))
closed-not disk count n e = cc

fenced-not : {A : Type 0} (own current : ℕ) → IsNotGone {A = A} (Err (fault.Fenced own current))
fenced-not own current n e = cc

stale-not : {A : Type 0} (own current : ℕ) → IsNotGone {A = A} (Err (fault.StaleGeneration own current))
stale-not own current n e = cc

pending-not : {A : Type 0} → IsNotGone {A = A} (Err fault.PendingFence)
pending-not n e = cc

cut-not : {A : Type 0} (from to : ℕ) → IsNotGone {A = A} (Err (fault.BadCut from to))
cut-not from to n e = cc

-- an event of an instance that hasn't ended
at-instance : {A : Type 0} (s : Cluster) (o : Option (DiskName × ℕ)) (ended : Bool) (i : ℕ) (done : Answer A) → ended ≡ false → IsNotGone done.0 →
    IsNotGone (unless_closed o (if ended then refused (fault.Gone i) s else done) s).0
at-instance s (Some why) ended i done live not-it = closed-not why.0 why.1
at-instance s None true i done live not-it = absurd (cc)
at-instance s None false i done live not-it = not-it

-- one thing or the other
chosen : {A : Type 0} (b : Bool) (x y : Answer A) → IsNotGone x.0 → IsNotGone y.0 → IsNotGone (if b then x else y).0
chosen true x y here there = here
chosen false x y here there = there

-- ---- what a step tells

told-busy : {A : Type 0} (tell : A → Did) (r : Result A WorldFault) → ((x : A) → is_rest (Ok (tell x)) ≡ false) → IsNotGone r → is_rest (steps.told tell r) ≡ false
told-busy tell (Ok x) each not-it = each x
told-busy tell (Err (fault.Fenced own current)) each not-it = refl
told-busy tell (Err (fault.StaleGeneration own current)) each not-it = refl
told-busy tell (Err fault.PendingFence) each not-it = refl
told-busy tell (Err (fault.BadCut from to)) each not-it = refl
told-busy tell (Err (fault.Gone n)) each not-it = absurd (not-it n refl)
told-busy tell (Err (fault.Full log size frame)) each not-it = refl
told-busy tell (Err (fault.StoreFault disk count)) each not-it = refl
told-busy tell (Err (fault.Closed disk count)) each not-it = refl
told-busy tell (Err (fault.Dead w)) each not-it = refl
told-busy tell (Err (fault.Group why)) each not-it = refl
told-busy tell (Err fault.TooMany) each not-it = refl
told-busy tell (Err fault.Memory) each not-it = refl

found-step : (p : ℕ → Bool) (y x : ℕ) (b : Bool) (rest : Option ℕ) → p y ≡ b → (rest ≡ Some x → p x ≡ true) → (if b then Some y else rest) ≡ Some x → p x ≡ true
found-step p y x true rest here later e = let same : y ≡ x = cc in subst (λ (z : ℕ). p z ≡ true) same here
found-step p y x false rest here later e = later e

-- what was found is so
found-is : (p : ℕ → Bool) (xs : List ℕ) (x : ℕ) → find p xs ≡ Some x → p x ≡ true
found-is p [] x is = absurd (cc)
found-is p (y ∷ ys) x is = found-step p y x (p y) (find p ys) refl (found-is p ys x) is

module _ (setting : Setting) (i : ℕ) (s : Cluster) where
  abbrev live : Type 0
  live = is_ended (instance_of i s).phase ≡ false

  abbrev ended : Bool
  ended = is_ended (instance_of i s).phase

  init-busy : live → IsNotGone (init i s).0
  init-busy is = at-instance s s.closed ended i _ is (chosen _ _ _ (done-not _) (full-not _ _ _))

  verify-busy : live → IsNotGone (verify i s).0
  verify-busy is = at-instance s s.closed ended i _ is (chosen _ _ _ (stale-not _ _) (chosen _ _ _ pending-not (done-not _)))

  fetch-busy : live → IsNotGone (fetch i s).0
  fetch-busy is = at-instance s s.closed ended i _ is (done-not tt)

  produce-busy : (c : Cut) → live → IsNotGone (produce setting i c s).0
  produce-busy c is = at-instance s s.closed ended i _ is (chosen _ _ _ (chosen _ _ _ (cut-not _ _) (chosen _ _ _ (done-not _) (full-not _ _ _))) (fenced-not _ _))

  put_offsets-busy : live → IsNotGone (put_offsets i s).0
  put_offsets-busy is = at-instance s s.closed ended i _ is (chosen _ _ _ (chosen _ _ _ (done-not _) (full-not _ _ _)) (fenced-not _ _))

  commit-busy : live → IsNotGone (commit i s).0
  commit-busy is = at-instance s s.closed ended i _ is (chosen _ _ _ (chosen _ _ _ (done-not _) (full-not _ _ _)) (fenced-not _ _))

  deliver-busy : (turn to : ℕ) → live → IsNotGone (deliver i turn to s).0
  deliver-busy turn to is = at-instance s s.closed ended i _ is (done-not tt)

  put_sink-busy : (to : ℕ) → live → IsNotGone (put_sink i to s).0
  put_sink-busy to is = at-instance s s.closed ended i _ is (chosen _ _ _ (chosen _ _ _ (done-not _) (full-not _ _ _)) (fenced-not _ _))

  -- ---- by phase

  -- what is cut of a part that has something isn't nothing
  cut-rests : live → (turn : ℕ) (c : CutAnswer) → is_something c ≡ true → is_rest (takes_cut setting i s turn c).0 ≡ false
  cut-rests is turn cut.AtEnd some = absurd (cc)
  cut-rests is turn (cut.LineTooLong at) some = refl
  cut-rests is turn (cut.Cut to) some =
      told-busy (λ _. did.Produce (steps.span_to turn to (instance_of i s))) (produce setting i (sink_cut turn to (instance_of i s)) s).0 (λ x. refl)
      (produce-busy (sink_cut turn to (instance_of i s)) is)

  source-rests : live → (o : Option ℕ) → ((turn : ℕ) → o ≡ Some turn → is_something (cut_at setting.feeds (instance_of i s) turn) ≡ true) →
      is_rest (polls_source setting i s o).0 ≡ is_none o
  source-rests is None some = refl
  source-rests is (Some turn) some = cut-rests is turn (cut_at setting.feeds (instance_of i s) turn) (some turn refl)

  sink-rests : live → (o : Option Delivery) → is_rest (polls_sink i s o).0 ≡ is_none o
  sink-rests is None = refl
  sink-rests is (Some d) = told-busy (λ _. did.Deliver d.topic d.from d.to) (deliver i d.turn d.to s).0 (λ x. refl) (deliver-busy d.turn d.to is)

  polls-rests : live → (b : Bool) →
      is_rest (if b then polls_sink i s (gathered (instance_of i s) s.batches) else polls_source setting i s (source_turn setting.feeds (instance_of i s))).0 ≡
      (if b then is_none (gathered (instance_of i s) s.batches) else is_none (source_turn setting.feeds (instance_of i s)))
  polls-rests is true = sink-rests is (gathered (instance_of i s) s.batches)
  polls-rests is false = source-rests is (source_turn setting.feeds (instance_of i s))
      (λ turn found. found-is (λ t. is_something (cut_at setting.feeds (instance_of i s) t)) (turns_of (instance_of i s)) turn found)

  does-rests : (p : InstancePhase) → (instance_of i s).phase ≡ p → is_rest (does setting i s p).0 ≡ rests_in setting i s p
  does-rests phase.Connector is = refl
  does-rests phase.New is = told-busy (λ epoch. did.Init epoch.0) (init i s).0 (λ x. refl) (init-busy (ap is_ended is))
  does-rests phase.Inited is = told-busy (λ generation. did.Verify generation) (verify i s).0 (λ x. refl) (verify-busy (ap is_ended is))
  does-rests phase.Verified is = told-busy (λ _. did.Fetch) (fetch i s).0 (λ x. refl) (fetch-busy (ap is_ended is))
  does-rests phase.Polling is = polls-rests (ap is_ended is) (is_sink (instance_of i s))
  does-rests phase.Produced is = told-busy (λ _. did.Offsets) (put_offsets i s).0 (λ x. refl) (put_offsets-busy (ap is_ended is))
  does-rests phase.Offered is = told-busy (λ span. did.Commit span) (commit i s).0 (λ x. refl) (commit-busy (ap is_ended is))
  does-rests phase.Delivered is =
      let to : ℕ = (cut_of (instance_of i s)).to in told-busy (λ _. did.Offsets) (put_sink i to s).0 (λ x. refl) (put_sink-busy to (ap is_ended is))
  does-rests phase.Failed is = refl
  does-rests phase.Ended is = refl

  pub rests-is : is_rest (step setting i s).0 ≡ rests setting i s
  rests-is = either (waits (instance_of i s) s) where
    either : (b : Bool) → is_rest (if b then answered did.Paused s else does setting i s (instance_of i s).phase).0 ≡
        (if b then true else rests_in setting i s (instance_of i s).phase)
    either true = refl
    either false = does-rests (instance_of i s).phase refl
