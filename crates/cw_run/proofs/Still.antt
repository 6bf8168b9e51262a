-- A turn that moves nothing leaves the cluster as it is.
use Rattle.std.proofs.Common.{◌≡◌, ℕ, ◌∷◌, [], Bool, true, false, List, Option, Some, None, nat_lt, length, Result, Ok, Err, if◌then◌else◌, refl}
use Rattle.std.specs.Option.{option_or}
use Rattle.cw_feed.specs.declared.cut.CutAnswer.{CutAnswer}
use Rattle.cw_feed.specs.declared.cut.CutAnswer.TheVariants.{Cut, AtEnd, LineTooLong}
use Rattle.cw_model.specs.declared.did.Did.{Did}
use Rattle.cw_model.specs.declared.did.Did.TheVariants as did
use Rattle.cw_model.specs.declared.fault.WorldFault.{WorldFault}
use Rattle.cw_model.specs.declared.fault.WorldFault.TheVariants as fault
use Rattle.cw_model.specs.declared.instance.InstancePhase.{InstancePhase}
use Rattle.cw_model.specs.declared.instance.InstancePhase.TheVariants as phase
use Rattle.cw_model.specs.declared.tick.Tick.{Tick}
use Rattle.cw_model.specs.declared.tick.Tick.TheVariants as outcome
use Rattle.cw_model.specs.State.{Setting, Cluster}
use Rattle.cw_model.specs.Answers.{Answer, answered}
use Rattle.cw_model.specs.Lookups.{row_of, seen, instance_of}
use Rattle.cw_model.specs.Refusals.{Stays}
use Rattle.cw_model.specs.EventsLeading.{append_config, fence_one, append_fence, fencing_of}
use Rattle.cw_model.specs.EventsSources.{init, verify, fetch, produce, put_offsets, commit}
use Rattle.cw_model.specs.EventsSinks.{sink_cut, deliver, put_sink}
use Rattle.cw_model.specs.Polls.{Delivery, cut_at, source_turn, gathered}
use Rattle.cw_model.specs.Tasks.{is_sink, cut_of}
use Rattle.cw_model.specs.Proposals.{proposal_of, are_deferred, task_records}
use Rattle.cw_model.specs.TickRules.{Rule, rule, when, told, tells, or_lost, unless_lost, read_applies, reads, stop_applies, deaf_stop_applies, stops, join_applies, joins, close_applies, closes, plan_applies, plans, sync_applies, syncs, lead_applies, takes_lead, Proposing, propose_applies, proposes, fence_applies, fences, mark_applies, marks_ended, start_applies, starts, report_applies, reports_state}
use Rattle.cw_model.specs.Tick.{rules, deaf_rules, first_rule, rule_for, follows, tick}
use Rattle.cw_model.specs.Steps as task
use Rattle.cw_run.specs.Settling.{tick_moves, step_moves}
use Rattle.cw_run.proofs.StepRuns.{init-stays, verify-stays, fetch-stays, produce-stays, put_offsets-stays, commit-stays, deliver-stays, put_sink-stays}
use Rattle.cw_rest.specs.Operations.{commit_values}

-- where what was done moves nothing, the cluster is as it was
abbrev pub IsStill : {A : Type 0} → (A → Bool) → Cluster → Answer A → Type 0
IsStill {A} moves s answer = (x : A) → answer.0 ≡ Ok x → moves x ≡ false → answer.1 ≡ s

-- what was done moves something
abbrev Moves : {A : Type 0} → (A → Bool) → Result A WorldFault → Type 0
Moves {A} moves result = (x : A) → result ≡ Ok x → moves x ≡ false → ⊥

moves-ok : {A : Type 0} (moves : A → Bool) (x : A) → moves x ≡ true → Moves moves (Ok x)
moves-ok moves x is = λ y same none. cc

moves-err : {A : Type 0} (moves : A → Bool) (e : WorldFault) → Moves moves (Err e)
moves-err moves e = λ y same none. absurd (cc)

-- ---- ticks

told-moves : {A : Type 0} (r : Result A WorldFault) (tell : A → Tick) → ((x : A) → tick_moves (tell x) ≡ true) → Moves tick_moves (told r tell)
told-moves (Ok x) tell each = moves-ok tick_moves (tell x) (each x)
told-moves (Err e) tell each = moves-err tick_moves e

lost-moves : (r : Result Tick WorldFault) → Moves tick_moves r → Moves tick_moves (or_lost r)
lost-moves (Ok x) is = is
lost-moves (Err (fault.Fenced own current)) is = moves-ok tick_moves (outcome.LostLead own current) refl
lost-moves (Err (fault.StaleGeneration own current)) is = is
lost-moves (Err fault.PendingFence) is = is
lost-moves (Err (fault.BadCut from to)) is = is
lost-moves (Err (fault.Gone i)) is = is
lost-moves (Err (fault.Full log length frame)) is = is
lost-moves (Err (fault.StoreFault disk count)) is = is
lost-moves (Err (fault.Closed disk count)) is = is
lost-moves (Err (fault.Dead w)) is = is
lost-moves (Err (fault.Group cause)) is = is
lost-moves (Err fault.TooMany) is = is
lost-moves (Err fault.Memory) is = is

module _ (w : ℕ) (s : Cluster) where
  -- what a rule does moves something, or nothing changes
  abbrev IsStillRule : Rule → Type 0
  IsStillRule r = IsStill tick_moves s (follows r s)

  rule-still : {A : Type 0} (found : Option A) (does : A → Answer Tick) → ((x : A) → Moves tick_moves (does x).0) → IsStillRule (rule found does)
  rule-still None does each = λ x is none. refl
  rule-still (Some found) does each = λ x is none. absurd (each found x is none)

  either-still : (first later : Rule) → IsStillRule first → IsStillRule later → IsStillRule (option_or first later)
  either-still None later here next = next
  either-still (Some does) later here next = here

  proposes-moves : (p : Proposing) → Moves tick_moves (proposes w s p).0
  proposes-moves p = either (are_deferred (seen w s) p.connector) where
    either : (b : Bool) → Moves tick_moves (unless_lost (
        if b then tells (append_config p.leader (commit_values p.connector (length (proposal_of p.connector (seen w s)))) s) (λ offset _. outcome.Commit p.connector offset)
        else tells (append_config p.leader (task_records p.connector (proposal_of p.connector (seen w s))) s) (λ _ _. outcome.Propose p.connector (length (proposal_of p.connector (seen w s)))))).0
    either true =
        let did = append_config p.leader (commit_values p.connector (length (proposal_of p.connector (seen w s)))) s in
        lost-moves (told did.0 (λ offset. outcome.Commit p.connector offset)) (told-moves did.0 (λ offset. outcome.Commit p.connector offset) (λ x. refl))
    either false =
        let did = append_config p.leader (task_records p.connector (proposal_of p.connector (seen w s))) s in
        lost-moves (told did.0 (λ _. outcome.Propose p.connector (length (proposal_of p.connector (seen w s))))) (told-moves did.0 (λ _. outcome.Propose p.connector (length (proposal_of p.connector (seen w s)))) (λ x. refl))

  fences-moves : (name : List ℕ) → Moves tick_moves (fences w s name).0
  fences-moves name = either (nat_lt (fencing_of w name s).next (fencing_of w name s).count) where
    either : (b : Bool) → Moves tick_moves (unless_lost (
        if b then tells (fence_one w name s) (λ did _. outcome.Fence (record { connector = name; index = did.0 }) did.1.0) else tells (append_fence w name s) (λ offset _. outcome.FenceRecord name offset))).0
    either true =
        let did = fence_one w name s in
        lost-moves (told did.0 (λ d. outcome.Fence (record { connector = name; index = d.0 }) d.1.0)) (told-moves did.0 (λ d. outcome.Fence (record { connector = name; index = d.0 }) d.1.0) (λ x. refl))
    either false =
        let did = append_fence w name s in
        lost-moves (told did.0 (λ offset. outcome.FenceRecord name offset)) (told-moves did.0 (λ offset. outcome.FenceRecord name offset) (λ x. refl))

  starting-still : IsStillRule (first_rule (rule (start_applies w s) (starts w s) ∷ rule (report_applies w s) (reports_state w s) ∷ []))
  starting-still =
      either-still (rule (start_applies w s) (starts w s)) _ (rule-still (start_applies w s) (starts w s) (λ item. told-moves _ _ (λ x. refl)))
      (either-still (rule (report_applies w s) (reports_state w s)) None (rule-still (report_applies w s) (reports_state w s) (λ i. told-moves _ _ (λ x. refl))) (λ x is none. refl))

  rules-still : IsStillRule (first_rule (rules w s))
  rules-still =
      either-still (rule (when (read_applies w s)) (λ _. reads w s)) _ (rule-still (when (read_applies w s)) (λ _. reads w s) (λ _. told-moves _ _ (λ x. refl)))
      (either-still (rule (stop_applies w s) (stops w s)) _ (rule-still (stop_applies w s) (stops w s) (λ item. told-moves _ _ (λ x. refl)))
      (either-still (rule (when (join_applies w s)) (λ _. joins w s)) _ (rule-still (when (join_applies w s)) (λ _. joins w s) (λ _. told-moves _ _ (λ x. refl)))
      (either-still (rule (when (close_applies w s)) (λ _. closes w s)) _ (rule-still (when (close_applies w s)) (λ _. closes w s) (λ _. told-moves _ _ (λ x. refl)))
      (either-still (rule (when (plan_applies w s)) (λ _. plans w s)) _ (rule-still (when (plan_applies w s)) (λ _. plans w s) (λ _. told-moves _ _ (λ x. refl)))
      (either-still (rule (when (sync_applies w s)) (λ _. syncs w s)) _ (rule-still (when (sync_applies w s)) (λ _. syncs w s) (λ _. told-moves _ _ (λ x. refl)))
      (either-still (rule (when (lead_applies w s)) (λ _. takes_lead w s)) _ (rule-still (when (lead_applies w s)) (λ _. takes_lead w s) (λ _. told-moves _ _ (λ x. refl)))
      (either-still (rule (propose_applies w s) (proposes w s)) _ (rule-still (propose_applies w s) (proposes w s) proposes-moves)
      (either-still (rule (fence_applies w s) (fences w s)) _ (rule-still (fence_applies w s) (fences w s) fences-moves)
      (either-still (rule (mark_applies w s) (marks_ended s)) _ (rule-still (mark_applies w s) (marks_ended s) (λ log. told-moves _ _ (λ x. refl)))
      starting-still)))))))))

  deaf-still : IsStillRule (first_rule (deaf_rules w s))
  deaf-still = either-still (rule (deaf_stop_applies w s) (stops w s)) _ (rule-still (deaf_stop_applies w s) (stops w s) (λ item. told-moves _ _ (λ x. refl))) starting-still

  pub tick-still : IsStill tick_moves s (tick w s)
  tick-still = alive (row_of w s).live where
    hearing : (b : Bool) → IsStillRule (first_rule (if b then rules w s else deaf_rules w s))
    hearing true = rules-still
    hearing false = deaf-still

    alive : (b : Bool) → IsStill tick_moves s (if b then follows (rule_for w s) s else answered outcome.Dead s)
    alive true = hearing (row_of w s).hearing
    alive false = λ x is none. refl

-- ---- steps

module _ (setting : Setting) (i : ℕ) (s : Cluster) where
  answered-still : (x : Did) → IsStill step_moves s (answered x s)
  answered-still x = λ y is none. refl

  tells-still : {A : Type 0} (done : Answer A) (tell : A → Did) → ((x : A) → step_moves (tell x) ≡ true) → Stays s done → IsStill step_moves s (task.tells i done tell)
  tells-still {A} done tell each stays = at done.0 refl where
    at : (r : Result A WorldFault) → done.0 ≡ r → (y : Did) → task.told tell r ≡ Ok y → step_moves y ≡ false → task.fails_if_fenced i (task.told tell r) done.1 ≡ s
    at (Ok x) is = λ y same none. absurd (moves-ok step_moves (tell x) (each x) y same none)
    at (Err (fault.Fenced own current)) is = λ y same none. absurd (moves-ok step_moves (did.Fenced own current) refl y same none)
    at (Err (fault.StaleGeneration own current)) is = λ y same none. stays (fault.StaleGeneration own current) is
    at (Err fault.PendingFence) is = λ y same none. stays fault.PendingFence is
    at (Err (fault.BadCut from to)) is = λ y same none. stays (fault.BadCut from to) is
    at (Err (fault.Gone j)) is = λ y same none. stays (fault.Gone j) is
    at (Err (fault.Full log length frame)) is = λ y same none. stays (fault.Full log length frame) is
    at (Err (fault.StoreFault disk count)) is = λ y same none. stays (fault.StoreFault disk count) is
    at (Err (fault.Closed disk count)) is = λ y same none. stays (fault.Closed disk count) is
    at (Err (fault.Dead w)) is = λ y same none. stays (fault.Dead w) is
    at (Err (fault.Group cause)) is = λ y same none. stays (fault.Group cause) is
    at (Err fault.TooMany) is = λ y same none. stays fault.TooMany is
    at (Err fault.Memory) is = λ y same none. stays fault.Memory is

  cut-still : (turn : ℕ) (answer : CutAnswer) → IsStill step_moves s (task.takes_cut setting i s turn answer)
  cut-still turn AtEnd = answered-still did.AtEnd
  cut-still turn (LineTooLong at) = λ y same none. absurd (moves-ok step_moves (did.LineTooLong at) refl y same none)
  cut-still turn (Cut to) =
      tells-still (produce setting i (sink_cut turn to (instance_of i s)) s) (λ _. did.Produce (task.span_to turn to (instance_of i s))) (λ x. refl) (produce-stays setting i (sink_cut turn to (instance_of i s)) s)

  source-still : (o : Option ℕ) → IsStill step_moves s (task.polls_source setting i s o)
  source-still None = answered-still did.AtEnd
  source-still (Some turn) = cut-still turn (cut_at setting.feeds (instance_of i s) turn)

  sink-still : (o : Option Delivery) → IsStill step_moves s (task.polls_sink i s o)
  sink-still None = answered-still did.AtEnd
  sink-still (Some d) = tells-still (deliver i d.turn d.to s) (λ _. did.Deliver d.topic d.from d.to) (λ x. refl) (deliver-stays i d.turn d.to s)

  polls-still : IsStill step_moves s (task.polls setting i s)
  polls-still = either (is_sink (instance_of i s)) where
    either : (b : Bool) → IsStill step_moves s (if b then task.polls_sink i s (gathered (instance_of i s) s.batches) else task.polls_source setting i s (source_turn setting.feeds (instance_of i s)))
    either true = sink-still (gathered (instance_of i s) s.batches)
    either false = source-still (source_turn setting.feeds (instance_of i s))

  does-still : (p : InstancePhase) → IsStill step_moves s (task.does setting i s p)
  does-still phase.Connector = answered-still did.AtEnd
  does-still phase.New = tells-still (init i s) (λ epoch. did.Init epoch.0) (λ x. refl) (init-stays i s)
  does-still phase.Inited = tells-still (verify i s) (λ generation. did.Verify generation) (λ x. refl) (verify-stays i s)
  does-still phase.Verified = tells-still (fetch i s) (λ _. did.Fetch) (λ x. refl) (fetch-stays i s)
  does-still phase.Polling = polls-still
  does-still phase.Produced = tells-still (put_offsets i s) (λ _. did.Offsets) (λ x. refl) (put_offsets-stays i s)
  does-still phase.Offered = tells-still (commit i s) (λ span. did.Commit span) (λ x. refl) (commit-stays i s)
  does-still phase.Delivered = tells-still (put_sink i (cut_of (instance_of i s)).to s) (λ _. did.Offsets) (λ x. refl) (put_sink-stays i (cut_of (instance_of i s)).to s)
  does-still phase.Failed = answered-still did.Failed
  does-still phase.Ended = answered-still did.Gone

  pub step-still : IsStill step_moves s (task.step setting i s)
  step-still = either (task.waits (instance_of i s) s) where
    either : (b : Bool) → IsStill step_moves s (if b then answered did.Paused s else task.does setting i s (instance_of i s).phase)
    either true = answered-still did.Paused
    either false = does-still (instance_of i s).phase
