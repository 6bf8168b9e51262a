-- The rules of a worker's tick in four stages, as a turn is looked for.
use Rattle.std.specs.Prelude.{◌≡◌, ℕ, List, [], ◌∷◌, ◌++◌, Option, Some, None, IsSome}
use Rattle.cw_model.specs.State.{Cluster}
use Rattle.cw_model.specs.TickRules.{Rule, rule, when, read_applies, reads, stop_applies, deaf_stop_applies, stops}
use Rattle.cw_model.specs.TickRules.{join_applies, joins, close_applies, closes, plan_applies, plans, sync_applies}
use Rattle.cw_model.specs.TickRules.{syncs, lead_applies, takes_lead, propose_applies, proposes, fence_applies, fences}
use Rattle.cw_model.specs.TickRules.{mark_applies, marks_ended, start_applies, starts, report_applies, reports_state}
use Rattle.cw_ticks.specs.declared.turn.Turn.{Turn}
use Rattle.cw_ticks.specs.Turns.{IsOfRule}

-- it reads the config log, and stops what isn't to run
abbrev pub reading_rules : ℕ → Cluster → List Rule
reading_rules w s = rule (when (read_applies w s)) (λ _. reads w s) ∷ rule (stop_applies w s) (stops w s) ∷ []

-- its part in a round
abbrev pub group_rules : ℕ → Cluster → List Rule
group_rules w s =
    rule (when (join_applies w s)) (λ _. joins w s) ∷
    rule (when (close_applies w s)) (λ _. closes w s) ∷
    rule (when (plan_applies w s)) (λ _. plans w s) ∷
    rule (when (sync_applies w s)) (λ _. syncs w s) ∷
    []

-- what it does as the leader, or through it
abbrev pub leading_rules : ℕ → Cluster → List Rule
leading_rules w s =
    rule (when (lead_applies w s)) (λ _. takes_lead w s) ∷
    rule (propose_applies w s) (proposes w s) ∷
    rule (fence_applies w s) (fences w s) ∷
    rule (mark_applies w s) (marks_ended s) ∷
    []

-- it starts and reports what it is to run
abbrev pub running_rules : ℕ → Cluster → List Rule
running_rules w s = rule (start_applies w s) (starts w s) ∷ rule (report_applies w s) (reports_state w s) ∷ []

-- it reports, of these
abbrev pub reporting_rules : ℕ → Cluster → List Rule
reporting_rules w s = rule (report_applies w s) (reports_state w s) ∷ []

-- the stages behind the first, and behind the second
abbrev pub leading_on : ℕ → Cluster → List Rule
leading_on w s = leading_rules w s ++ running_rules w s

abbrev pub group_on : ℕ → Cluster → List Rule
group_on w s = group_rules w s ++ leading_on w s

-- what is found in a stage: the turn of its first rule that applies, if one does
abbrev pub IsStage : Option Turn → Rule → ℕ → Cluster → Type 0
IsStage None rule w s = rule ≡ None
IsStage (Some found) rule w s = IsSome rule × IsOfRule found rule w s
