-- What a worker does at a tick of its herder: the first rule that applies, and of it one event (Connect's distributed
-- herder; KIP-415 for the group, KIP-618 for fences). Which rules there are, and in which order, is this project's
-- own.
use Rattle.std.specs.Prelude.{ℕ, List, [], ◌∷◌, Some, None, if◌then◌else◌}
use Rattle.std.specs.Option.{option_or}
use Rattle.cw_model.specs.declared.tick.Tick.{Tick}
use Rattle.cw_model.specs.declared.tick.Tick.TheVariants as outcome
use Rattle.cw_model.specs.State.{Cluster}
use Rattle.cw_model.specs.Lookups.{row_of}
use Rattle.cw_model.specs.Answers.{Answer, answered}
use Rattle.cw_model.specs.TickRules.{Rule, rule, when, read_applies, reads, stop_applies, deaf_stop_applies, stops}
use Rattle.cw_model.specs.TickRules.{join_applies, joins, close_applies, closes, plan_applies, plans, sync_applies}
use Rattle.cw_model.specs.TickRules.{syncs, lead_applies, takes_lead, propose_applies, proposes, fence_applies, fences}
use Rattle.cw_model.specs.TickRules.{mark_applies, marks_ended, start_applies, starts, report_applies, reports_state}

-- the rules of a worker that hears, in their order
abbrev pub rules : ℕ → Cluster → List Rule
rules w s =
    rule (when (read_applies w s)) (λ _. reads w s) ∷
    rule (stop_applies w s) (stops w s) ∷
    rule (when (join_applies w s)) (λ _. joins w s) ∷
    rule (when (close_applies w s)) (λ _. closes w s) ∷
    rule (when (plan_applies w s)) (λ _. plans w s) ∷
    rule (when (sync_applies w s)) (λ _. syncs w s) ∷
    rule (when (lead_applies w s)) (λ _. takes_lead w s) ∷
    rule (propose_applies w s) (proposes w s) ∷
    rule (fence_applies w s) (fences w s) ∷
    rule (mark_applies w s) (marks_ended s) ∷
    rule (start_applies w s) (starts w s) ∷
    rule (report_applies w s) (reports_state w s) ∷
    []

-- the rules of one that is deaf: it goes on with what it was told
abbrev pub deaf_rules : ℕ → Cluster → List Rule
deaf_rules w s =
    rule (deaf_stop_applies w s) (stops w s) ∷
    rule (start_applies w s) (starts w s) ∷
    rule (report_applies w s) (reports_state w s) ∷
    []

-- the first rule that applies
abbrev pub first_rule : List Rule → Rule
first_rule [] = None
first_rule (first ∷ later) = option_or first (first_rule later)

-- the rule that a worker follows
abbrev pub rule_for : ℕ → Cluster → Rule
rule_for w s = first_rule (if (row_of w s).hearing then rules w s else deaf_rules w s)

-- it is done; a worker to which none applies is idle
abbrev pub follows : Rule → Cluster → Answer Tick
follows None s = answered outcome.Idle s
follows (Some does) s = does tt

-- a worker's tick
abbrev pub tick : ℕ → Cluster → Answer Tick
tick w s = if (row_of w s).live then follows (rule_for w s) s else answered outcome.Dead s
