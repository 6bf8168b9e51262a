-- Runs: what has all facts has them behind each step, and so along each run.
use Rattle.std.proofs.Common.{◌≡◌, ℕ, zero, suc, ◌∷◌, [], false, List, take}
use Rattle.cw_model.specs.State.{Setting, Cluster}
use Rattle.cw_model.specs.Runs as step
use Rattle.cw_model.specs.Runs.{Step, behind, May, behind_all, IsRun}
use Rattle.cw_model.specs.Facts.{AreFacts}
use Rattle.cw_model.specs.FactsRows.{RowFacts, IsSoundInstance}
use Rattle.cw_model.specs.Phases.{is_ended}
use Rattle.cw_model.specs.Lookups.{instance_of, no_instance}
use Rattle.cw_model.specs.EventsReports.{fail}
use Rattle.cw_model.specs.Steps.{step as task_step}
use Rattle.cw_laws.proofs.Lists.{each-at}
use Rattle.cw_laws.proofs.Init.{lives-within}
use Rattle.cw_laws.proofs.TaskSteps.{step-keeps}
use Rattle.cw_model.specs.Grows.{Grows}
use Rattle.cw_laws.proofs.Workers.{sound_at}
use Rattle.cw_laws.proofs.Grows.{grows-same, grows-trans}
use Rattle.cw_laws.proofs.Calls.{grows-journal}
use Rattle.cw_laws.proofs.Growth.{clock-grows, closes-grows, spawn-grows, kill-grows, deaf-grows, hear-grows, expire-grows, join-grows, close_round-grows, store_plan-grows, sync-grows, read_config-grows, start_item-grows, stop_item-grows, restart-grows, claim_lead-grows, append_config-grows, fence_one-grows, append_fence-grows, set_offsets-grows, init-grows, verify-grows, fetch-grows, produce-grows, put_offsets-grows, commit-grows, deliver-grows, put_sink-grows, fail-grows, put_status-grows, mark-grows, compact-grows, raw_init-grows, raw_commit-grows}

-- ---- what grows

-- behind each step the cluster has grown
pub step-grows : (setting : Setting) (s : Cluster) → RowFacts s → (step : Step) → Grows s (behind setting s step)
step-grows setting s f (step.clock to) = clock-grows to s
step-grows setting s f (step.closes disk count) = closes-grows disk count s
step-grows setting s f step.spawn = spawn-grows s
step-grows setting s f (step.kill w) = kill-grows w s
step-grows setting s f (step.deaf w) = deaf-grows w s
step-grows setting s f (step.hear w) = hear-grows w s
step-grows setting s f (step.expire w) = expire-grows setting w s
step-grows setting s f (step.join w) = join-grows w s
step-grows setting s f (step.close_round w) = close_round-grows w s
step-grows setting s f (step.store_plan w) = store_plan-grows w s
step-grows setting s f (step.sync w) = sync-grows w s
step-grows setting s f (step.read_config w) = read_config-grows w s (sound_at s f w).prefix
step-grows setting s f (step.start_item w item) = start_item-grows w item s
step-grows setting s f (step.stop_item i) = stop_item-grows i s
step-grows setting s f (step.restart w item) = restart-grows w item s
step-grows setting s f (step.claim_lead w) = claim_lead-grows w s
step-grows setting s f (step.append_config w values) = append_config-grows w values s
step-grows setting s f (step.fence_one w name) = fence_one-grows w name s
step-grows setting s f (step.append_fence w name) = append_fence-grows w name s
step-grows setting s f (step.set_offsets w name list) = set_offsets-grows w name list s
step-grows setting s f (step.init i) = init-grows i s
step-grows setting s f (step.verify i) = verify-grows i s
step-grows setting s f (step.fetch i) = fetch-grows i s
step-grows setting s f (step.produce i cut) = produce-grows setting i cut s
step-grows setting s f (step.put_offsets i) = put_offsets-grows i s
step-grows setting s f (step.commit i) = commit-grows i s
step-grows setting s f (step.deliver i turn to) = deliver-grows i turn to s
step-grows setting s f (step.put_sink i to) = put_sink-grows i to s
step-grows setting s f (step.fail i trace) = fail-grows i trace s
step-grows setting s f (step.put_status w item) = put_status-grows w item s
step-grows setting s f (step.mark log) = mark-grows log s
step-grows setting s f (step.compact log) = compact-grows log s
step-grows setting s f (step.raw_init n) = raw_init-grows n s
step-grows setting s f (step.raw_commit n epoch list) = raw_commit-grows n epoch list s
step-grows setting s f (step.journal entry) = grows-journal entry s

-- an instance that hasn't ended is sound
pub lives-sound : (s : Cluster) → RowFacts s → (i : ℕ) → is_ended (instance_of i s).phase ≡ false → IsSoundInstance s (instance_of i s)
lives-sound s f i lives = each-at (IsSoundInstance s) s.instances i no_instance (lives-within i s lives) f.instances

-- and behind a task's step
pub task_step-grows : (setting : Setting) (s : Cluster) → RowFacts s → (i : ℕ) → Grows s (task_step setting i s).1
task_step-grows setting s f i = step-keeps (Grows s) setting i s
    record {
      same = grows-same s;
      init = λ may. init-grows i s;
      verify = λ may. verify-grows i s;
      fetch = λ may. fetch-grows i s;
      produce = λ cut may. produce-grows setting i cut s;
      put_offsets = λ may. put_offsets-grows i s;
      commit = λ may. commit-grows i s;
      deliver = λ turn to may. deliver-grows i turn to s;
      put_sink = λ to may. put_sink-grows i to s;
      fail = λ trace t grows. grows-trans s t (fail i trace t).1 grows (fail-grows i trace t);
    }
    (lives-sound s f i)

-- ---- runs

-- a run of which a beginning is taken is one
pub run-take : (setting : Setting) (s : Cluster) (steps : List Step) (n : ℕ) → IsRun setting s steps → IsRun setting s (take n steps)
run-take setting s steps zero run = tt
run-take setting s [] (suc n) run = tt
run-take setting s (step ∷ steps) (suc n) run = (run.0, run-take setting (behind setting s step) steps n run.1)

-- each step keeps all facts
abbrev pub StepsKeep : Setting → Type 0
StepsKeep setting = (s : Cluster) (step : Step) → May setting s step → AreFacts setting s → AreFacts setting (behind setting s step)

pub run-keeps : (setting : Setting) → StepsKeep setting → (s : Cluster) (steps : List Step) → IsRun setting s steps → AreFacts setting s → AreFacts setting (behind_all setting s steps)
run-keeps setting keep s [] run f = f
run-keeps setting keep s (step ∷ steps) run f = run-keeps setting keep (behind setting s step) steps run.1 (keep s step run.0 f)

pub run-grows : (setting : Setting) → StepsKeep setting → (s : Cluster) (steps : List Step) → IsRun setting s steps → AreFacts setting s → Grows s (behind_all setting s steps)
run-grows setting keep s [] run f = grows-same s
run-grows setting keep s (step ∷ steps) run f =
    grows-trans s (behind setting s step) (behind_all setting (behind setting s step) steps) (step-grows setting s f.rows step)
    (run-grows setting keep (behind setting s step) steps run.1 (keep s step run.0 f))
