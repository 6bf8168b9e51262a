-- What a worker does next, as its tick takes it: the turn of each rule, and which turn a worker takes.
use Rattle.std.specs.Prelude.{◌≡◌, ℕ, ◌<◌, Bool, false, nat_lt, length, List, Option, Some, None, option_map}
use Rattle.std.specs.Bool.{⊤}
use Rattle.cw_types.specs.declared.ids.Item.{Item}
use Rattle.cw_types.specs.declared.logs.LogName.{LogName}
use Rattle.cw_keys.specs.declared.state.State.{State}
use Rattle.cw_model.specs.declared.tick.Tick.{Tick}
use Rattle.cw_model.specs.declared.tick.Tick.TheVariants as outcome
use Rattle.cw_model.specs.State.{Cluster}
use Rattle.cw_model.specs.Answers.{Answer}
use Rattle.cw_model.specs.Lookups.{seen}
use Rattle.cw_model.specs.EventsLeading.{fencing_of}
use Rattle.cw_model.specs.EventsReports.{put_status}
use Rattle.cw_model.specs.Proposals.{are_deferred}
use Rattle.cw_model.specs.TickRules.{Rule, tells, number_at, read_applies, stop_applies, propose_applies, fence_applies}
use Rattle.cw_model.specs.TickRules.{mark_applies, start_applies, report_applies, reads, stops, joins, closes, plans}
use Rattle.cw_model.specs.TickRules.{syncs, takes_lead, proposes, fences, marks_ended, starts}
use Rattle.cw_model.specs.Tick.{rule_for}
use Rattle.cw_ticks.specs.declared.turn.Turn.{Turn}
use Rattle.cw_ticks.specs.declared.turn.Turn.TheVariants as turn

-- a state of an item is reported
abbrev pub reports : ℕ → Cluster → Item → State → Answer Tick
reports w s item state = tells (put_status w item s) (λ _ _. outcome.Report item state)

-- the rule by which a worker takes a turn
abbrev pub rule_of : Turn → ℕ → Cluster → Rule
rule_of turn.Read w s = Some (λ _. reads w s)
rule_of (turn.Stop item number) w s = Some (λ _. stops w s item)
rule_of turn.Join w s = Some (λ _. joins w s)
rule_of turn.Close w s = Some (λ _. closes w s)
rule_of turn.Plan w s = Some (λ _. plans w s)
rule_of turn.Sync w s = Some (λ _. syncs w s)
rule_of turn.Lead w s = Some (λ _. takes_lead w s)
rule_of (turn.Propose leader connector commits) w s =
    Some (λ _. proposes w s (record { leader = leader; connector = connector }))
rule_of (turn.Fence connector producer) w s = Some (λ _. fences w s connector)
rule_of (turn.Mark log) w s = Some (λ _. marks_ended s log)
rule_of (turn.Start item) w s = Some (λ _. starts w s item)
rule_of (turn.Report item state) w s = Some (λ _. reports w s item state)
rule_of turn.Idle w s = None

-- what a turn tells beside: a stopped instance's number, whether a proposal's tasks are to be committed, and whether a
-- producer is still to be fenced
abbrev pub IsTold : Turn → ℕ → Cluster → Type 0
IsTold (turn.Stop item number) w s = number ≡ number_at w item s
IsTold (turn.Propose leader connector commits) w s = commits ≡ are_deferred (seen w s) connector
IsTold (turn.Fence connector producer) w s =
    producer ≡ nat_lt (fencing_of w connector s).next (fencing_of w connector s).count
IsTold _ w s = ⊤

-- this is the first connector that needs other tasks, and the worker has read all
pub record IsProposed (leader : ℕ) (connector : List ℕ) (w : ℕ) (s : Cluster) : Type 0 where
  pub read : read_applies w s ≡ false
  pub first : propose_applies w s ≡ Some (record { leader = leader; connector = connector })

-- what is so where a turn is taken, so that its event may be made
abbrev pub MayBeTaken : Turn → ℕ → Cluster → Type 0
MayBeTaken (turn.Stop item number) w s = number < length s.instances
MayBeTaken turn.Join w s = stop_applies w s ≡ None
MayBeTaken (turn.Propose leader connector commits) w s = IsProposed leader connector w s
MayBeTaken (turn.Fence connector producer) w s = fence_applies w s ≡ Some connector
MayBeTaken (turn.Mark log) w s = mark_applies w s ≡ Some log
MayBeTaken (turn.Start item) w s = start_applies w s ≡ Some item
MayBeTaken (turn.Report item state) w s = option_map (λ i. i.item) (report_applies w s) ≡ Some item
MayBeTaken _ w s = ⊤

-- the turn of a rule, where it applies
pub record IsOfRule (found : Turn) (rule : Rule) (w : ℕ) (s : Cluster) : Type 0 where
  pub follows : rule ≡ rule_of found w s
  pub told : IsTold found w s
  pub may : MayBeTaken found w s

-- the turn that a worker takes: that of the first rule that applies to it
abbrev pub IsTurn : Turn → ℕ → Cluster → Type 0
IsTurn found w s = IsOfRule found (rule_for w s) w s
