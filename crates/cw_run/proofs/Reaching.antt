-- States that steps lead to: none, one, and one list of steps behind another.
use Rattle.std.proofs.Common.{◌≡◌, ◌∷◌, ◌++◌, [], List, refl, sym, subst, ap, ◌∙◌}
use Rattle.cw_model.specs.State.{Setting, Cluster}
use Rattle.cw_model.specs.Runs.{Step, May, IsRun, behind, behind_all}
use Rattle.cw_model.specs.Facts.{AreFacts}
use Rattle.cw_model.specs.Grows.{Grows}
use Rattle.cw_laws.proofs.Kept.{run-keeps-facts, run-grows-on}
use Rattle.cw_run.specs.Reaches.{Reaches}

-- nothing was done
pub stays : (setting : Setting) (s : Cluster) → Reaches setting s s
stays setting s = record { steps = []; run = tt; ends = refl }

-- one step was made
pub makes : (setting : Setting) (s : Cluster) (step : Step) → May setting s step → Reaches setting s (behind setting s step)
makes setting s step may = record { steps = step ∷ []; run = (may, tt); ends = refl }

-- the steps of two runs
behind-append : (setting : Setting) (s : Cluster) (xs ys : List Step) → behind_all setting s (xs ++ ys) ≡ behind_all setting (behind_all setting s xs) ys
behind-append setting s [] ys = refl
behind-append setting s (x ∷ xs) ys = behind-append setting (behind setting s x) xs ys

run-append : (setting : Setting) (s : Cluster) (xs ys : List Step) → IsRun setting s xs → IsRun setting (behind_all setting s xs) ys → IsRun setting s (xs ++ ys)
run-append setting s [] ys first then = then
run-append setting s (x ∷ xs) ys first then = (first.0, run-append setting (behind setting s x) xs ys first.1 then)

-- one run behind another
pub goes_on : (setting : Setting) (s t u : Cluster) → Reaches setting s t → Reaches setting t u → Reaches setting s u
goes_on setting s t u first then = record {
  steps = first.steps ++ then.steps;
  run = run-append setting s first.steps then.steps first.run (subst (λ v. IsRun setting v then.steps) (sym first.ends) then.run);
  ends = behind-append setting s first.steps then.steps ∙ (ap (λ v. behind_all setting v then.steps) first.ends ∙ then.ends);
}

-- what is reached has all facts, and has grown
pub reached-facts : (setting : Setting) (s t : Cluster) → Reaches setting s t → AreFacts setting s → AreFacts setting t
reached-facts setting s t reached f = subst (AreFacts setting) reached.ends (run-keeps-facts setting s reached.steps reached.run f)

pub reached-grows : (setting : Setting) (s t : Cluster) → Reaches setting s t → AreFacts setting s → Grows s t
reached-grows setting s t reached f = subst (Grows s) reached.ends (run-grows-on setting s reached.steps reached.run f)
