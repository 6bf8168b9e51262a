-- A turn of one stage or of a later one.
use Rattle.std.proofs.Common.{◌≡◌, ℕ, List, ◌++◌, Option, Some, None, sym, subst, ◌∙◌}
use Rattle.cw_model.specs.State.{Cluster}
use Rattle.cw_model.specs.TickRules.{Rule}
use Rattle.cw_model.specs.Tick.{first_rule}
use Rattle.cw_ticks.specs.declared.turn.Turn.{Turn}
use Rattle.cw_ticks.specs.Stages.{IsStage}
use Rattle.cw_ticks.specs.Turns.{IsOfRule, rule_of}
use Rattle.cw_ticks.proofs.Stages.{first_rule-append, or-some, or-later}

module _ (earlier later : List Rule) (w : ℕ) (s : Cluster) (o : Option Turn) (stage : IsStage o (first_rule earlier) w s) where
  pub chosen : (found : Turn) → o ≡ Some found → IsOfRule found (first_rule (earlier ++ later)) w s
  chosen found is =
      let own : IsStage (Some found) (first_rule earlier) w s =
      subst (λ (p : Option Turn). IsStage p (first_rule earlier) w s) is stage in
      record {
        follows = first_rule-append earlier later ∙ or-some (first_rule earlier) (first_rule later) own.0 ∙ own.1.follows;
        told = own.1.told;
        may = own.1.may;
      }

  pub left : o ≡ None → first_rule (earlier ++ later) ≡ first_rule later
  left is =
      let none : IsStage None (first_rule earlier) w s =
      subst (λ (p : Option Turn). IsStage p (first_rule earlier) w s) is stage in
      first_rule-append earlier later ∙ or-later (first_rule earlier) (first_rule later) none

-- the turn of a rule that is the same
pub of_same : (found : Turn) (r q : Rule) (w : ℕ) (s : Cluster) → r ≡ q → IsOfRule found r w s → IsOfRule found q w s
of_same found r q w s same is = subst (λ (x : Rule). IsOfRule found x w s) same is
