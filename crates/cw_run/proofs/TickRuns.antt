-- A worker's tick is a run: the event of the first rule that applies, which may be made, or nothing.
use Rattle.std.proofs.Common.{◌≡◌, ℕ, ◌∷◌, [], Bool, true, false, List, Option, Some, None, nat_lt, length, if◌then◌else◌, refl, ltb-false}
use Rattle.std.specs.Option.{option_or}
use Rattle.cw_rest.specs.Operations.{commit_values}
use borrow.Author.Tests.{ltb-true}
use Rattle.cw_types.specs.declared.ids.Item.{Item}
use Rattle.cw_model.specs.declared.tick.Tick.{Tick}
use Rattle.cw_model.specs.declared.tick.Tick.TheVariants as outcome
use Rattle.cw_model.specs.State.{Setting, Cluster}
use Rattle.cw_model.specs.Facts.{AreFacts}
use Rattle.cw_model.specs.FactsRows.{IsSoundRow}
use Rattle.cw_model.specs.Lookups.{row_of, seen}
use Rattle.cw_model.specs.Answers.{Answer, answered}
use Rattle.cw_model.specs.EventsLeading.{append_config, fence_one, append_fence, fencing_of, MayAppendConfig}
use Rattle.cw_model.specs.Proposals.{proposal_of, are_deferred, task_records}
use Rattle.cw_model.specs.Runs as step
use Rattle.cw_model.specs.TickRules.{Rule, rule, when, read_applies, reads, stop_applies, deaf_stop_applies, stops, join_applies, joins, close_applies, closes, plan_applies, plans, sync_applies, syncs, lead_applies, takes_lead, Proposing, propose_applies, proposes, tells, fence_applies, fences, mark_applies, marks_ended, start_applies, starts, report_applies, reports_state, number_at}
use Rattle.cw_model.specs.Tick.{rules, deaf_rules, first_rule, rule_for, follows, tick}
use Rattle.cw_laws.proofs.Proposed.{proposes-well}
use Rattle.cw_laws.proofs.Ticks.{may-join, may-plan, may-claim, mark-parts, may-start, report-parts, may-fence, may-append_fence, read-all}
use Rattle.cw_laws.proofs.Workers.{sound_at}
use Rattle.cw_run.specs.Reaches.{Reaches}
use Rattle.cw_run.proofs.Reaching.{stays, makes}

module _ (setting : Setting) (s : Cluster) where
  -- what a rule does is a run
  abbrev Runs : Rule → Type 0
  Runs r = Reaches setting s (follows r s).1

  -- a rule that speaks of something
  rule-runs : {A : Type 0} (found : Option A) (does : A → Answer Tick) → ((x : A) → found ≡ Some x → Reaches setting s (does x).1) → Runs (rule found does)
  rule-runs None does each = stays setting s
  rule-runs (Some x) does each = each x refl

  -- the first rule that applies
  either-runs : (first later : Rule) → Runs first → (first ≡ None → Runs later) → Runs (option_or first later)
  either-runs None later here next = next refl
  either-runs (Some does) later here next = here

  -- a rule that asks a test
  when-runs : (b : Bool) (does : Unit {0} → Answer Tick) → (b ≡ true → Reaches setting s (does tt).1) → Runs (rule (when b) does)
  when-runs true does each = each refl
  when-runs false does each = stays setting s

  -- a rule that doesn't apply spoke of nothing
  none-found : {A : Type 0} (found : Option A) (does : A → Answer Tick) → rule found does ≡ None → found ≡ None
  none-found None does none = refl
  none-found (Some x) does none = absurd (cc)

  not-when : (b : Bool) (does : Unit {0} → Answer Tick) → rule (when b) does ≡ None → b ≡ false
  not-when true does none = absurd (cc)
  not-when false does none = refl

module _ (setting : Setting) (s : Cluster) (f : AreFacts setting s) (w : ℕ) where
  sound : IsSoundRow s (row_of w s)
  sound = sound_at s f.rows w

  stops-run : (found : Option Item) → Runs setting s (rule found (stops w s))
  stops-run found = rule-runs setting s found (stops w s) (λ item is. makes setting s (step.stop_item (number_at w item s)) tt)

  starts-run : Runs setting s (rule (start_applies w s) (starts w s))
  starts-run = rule-runs setting s (start_applies w s) (starts w s) (λ item is. makes setting s (step.start_item w item) (may-start w item s is))

  reports-run : Runs setting s (rule (report_applies w s) (reports_state w s))
  reports-run = rule-runs setting s (report_applies w s) (reports_state w s) (λ i is. makes setting s (step.put_status w i.item) (report-parts w i s is))

  proposes-run : seen w s ≡ s.configs → (p : Proposing) → propose_applies w s ≡ Some p → Reaches setting s (proposes w s p).1
  proposes-run all p is = either (are_deferred (seen w s) p.connector) (proposes-well w s f.rows f.logs.configs.allowed p is all) where
    either : (b : Bool) → MayAppendConfig p.leader (if b then commit_values p.connector (length (proposal_of p.connector (seen w s))) else task_records p.connector (proposal_of p.connector (seen w s))) s →
        Reaches setting s (if b then tells (append_config p.leader (commit_values p.connector (length (proposal_of p.connector (seen w s)))) s) (λ offset _. outcome.Commit p.connector offset)
        else tells (append_config p.leader (task_records p.connector (proposal_of p.connector (seen w s))) s) (λ _ _. outcome.Propose p.connector (length (proposal_of p.connector (seen w s))))).1
    either true may = makes setting s (step.append_config p.leader (commit_values p.connector (length (proposal_of p.connector (seen w s))))) may
    either false may = makes setting s (step.append_config p.leader (task_records p.connector (proposal_of p.connector (seen w s)))) may

  fences-run : (name : List ℕ) → fence_applies w s ≡ Some name → Reaches setting s (fences w s name).1
  fences-run name is = either (nat_lt (fencing_of w name s).next (fencing_of w name s).count) refl where
    either : (b : Bool) → nat_lt (fencing_of w name s).next (fencing_of w name s).count ≡ b →
        Reaches setting s (if b then tells (fence_one w name s) (λ did _. outcome.Fence (record { connector = name; index = did.0 }) did.1.0) else tells (append_fence w name s) (λ offset _. outcome.FenceRecord name offset)).1
    either true below = makes setting s (step.fence_one w name) (may-fence w name s is (ltb-true (fencing_of w name s).next (fencing_of w name s).count below))
    either false done = makes setting s (step.append_fence w name) (may-append_fence w name s sound is (ltb-false (fencing_of w name s).next (fencing_of w name s).count done))

  -- the rules from proposing on
  proposing-run : seen w s ≡ s.configs → Runs setting s (first_rule (
      rule (propose_applies w s) (proposes w s) ∷ rule (fence_applies w s) (fences w s) ∷ rule (mark_applies w s) (marks_ended s) ∷
      rule (start_applies w s) (starts w s) ∷ rule (report_applies w s) (reports_state w s) ∷ []))
  proposing-run all =
      either-runs setting s (rule (propose_applies w s) (proposes w s)) _ (rule-runs setting s (propose_applies w s) (proposes w s) (proposes-run all)) (λ _.
      either-runs setting s (rule (fence_applies w s) (fences w s)) _ (rule-runs setting s (fence_applies w s) (fences w s) fences-run) (λ _.
      either-runs setting s (rule (mark_applies w s) (marks_ended s)) _ (rule-runs setting s (mark_applies w s) (marks_ended s) (λ log is. makes setting s (step.mark log) (mark-parts w log s is))) (λ _.
      either-runs setting s (rule (start_applies w s) (starts w s)) _ starts-run (λ _.
      either-runs setting s (rule (report_applies w s) (reports_state w s)) None reports-run (λ _. stays setting s)))))

  -- the rules behind the first one, which are met where nothing is left to read
  later-run : read_applies w s ≡ false → Runs setting s (first_rule (
      rule (stop_applies w s) (stops w s) ∷ rule (when (join_applies w s)) (λ _. joins w s) ∷ rule (when (close_applies w s)) (λ _. closes w s) ∷
      rule (when (plan_applies w s)) (λ _. plans w s) ∷ rule (when (sync_applies w s)) (λ _. syncs w s) ∷ rule (when (lead_applies w s)) (λ _. takes_lead w s) ∷
      rule (propose_applies w s) (proposes w s) ∷ rule (fence_applies w s) (fences w s) ∷ rule (mark_applies w s) (marks_ended s) ∷
      rule (start_applies w s) (starts w s) ∷ rule (report_applies w s) (reports_state w s) ∷ []))
  later-run none =
      either-runs setting s (rule (stop_applies w s) (stops w s)) _ (stops-run (stop_applies w s)) (λ stopped.
      either-runs setting s (rule (when (join_applies w s)) (λ _. joins w s)) _
      (when-runs setting s (join_applies w s) (λ _. joins w s) (λ _. makes setting s (step.join w) (may-join w s (none-found setting s (stop_applies w s) (stops w s) stopped)))) (λ _.
      either-runs setting s (rule (when (close_applies w s)) (λ _. closes w s)) _ (when-runs setting s (close_applies w s) (λ _. closes w s) (λ _. makes setting s (step.close_round w) tt)) (λ _.
      either-runs setting s (rule (when (plan_applies w s)) (λ _. plans w s)) _ (when-runs setting s (plan_applies w s) (λ _. plans w s) (λ _. makes setting s (step.store_plan w) (may-plan w s sound none))) (λ _.
      either-runs setting s (rule (when (sync_applies w s)) (λ _. syncs w s)) _ (when-runs setting s (sync_applies w s) (λ _. syncs w s) (λ _. makes setting s (step.sync w) tt)) (λ _.
      either-runs setting s (rule (when (lead_applies w s)) (λ _. takes_lead w s)) _
      (when-runs setting s (lead_applies w s) (λ _. takes_lead w s) (λ leads. makes setting s (step.claim_lead w) (may-claim w s leads))) (λ _.
      proposing-run (read-all w s sound none)))))))

  -- a tick
  pub tick-runs : Reaches setting s (tick w s).1
  tick-runs = alive (row_of w s).live where
    reading : Runs setting s (first_rule (rules w s))
    reading = either-runs setting s (rule (when (read_applies w s)) (λ _. reads w s)) _
        (when-runs setting s (read_applies w s) (λ _. reads w s) (λ _. makes setting s (step.read_config w) tt))
        (λ none. later-run (not-when setting s (read_applies w s) (λ _. reads w s) none))

    listening : Runs setting s (first_rule (deaf_rules w s))
    listening =
        either-runs setting s (rule (deaf_stop_applies w s) (stops w s)) _ (stops-run (deaf_stop_applies w s)) (λ _.
        either-runs setting s (rule (start_applies w s) (starts w s)) _ starts-run (λ _.
        either-runs setting s (rule (report_applies w s) (reports_state w s)) None reports-run (λ _. stays setting s)))

    hearing : (b : Bool) → Runs setting s (first_rule (if b then rules w s else deaf_rules w s))
    hearing true = reading
    hearing false = listening

    alive : (b : Bool) → Reaches setting s (if b then follows (rule_for w s) s else answered outcome.Dead s).1
    alive true = hearing (row_of w s).hearing
    alive false = stays setting s
