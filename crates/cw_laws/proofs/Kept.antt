-- What holds behind each step, and so along each run, and behind a task's step and a worker's tick.
use Rattle.std.proofs.Common.{◌≡◌, ℕ, ◌∷◌, ◌++◌, [], List, take, sym, subst, append_assoc}
use Rattle.std.specs.List.{AllByRecursion}
use Rattle.std.proofs.lemmas.List.{append-nil}
use Rattle.cw_bytes.specs.Frames.{EachFrom}
use Rattle.cw_model.specs.declared.journal.JournalEntry.{JournalEntry}
use Rattle.cw_model.specs.Journal.{IsTrueEntry, GoesOnBehind}
use Rattle.cw_model.specs.State.{Setting, Cluster}
use Rattle.cw_model.specs.Lookups.{row_of}
use Rattle.cw_model.specs.Runs as step
use Rattle.cw_model.specs.Runs.{Step, behind, May, behind_all, IsRun}
use Rattle.cw_model.specs.Facts.{AreFacts}
use Rattle.cw_model.specs.FactsRows.{IsSoundRow}
use Rattle.cw_model.specs.Grows.{Grows}
use Rattle.cw_model.specs.Steps.{step as task_step}
use Rattle.cw_model.specs.Tick.{tick}
use Rattle.cw_laws.proofs.AppendConfig.{append_config-keeps}
use Rattle.cw_laws.proofs.AppendFence.{append_fence-keeps}
use Rattle.cw_laws.proofs.Calls.{journal-keeps}
use Rattle.cw_laws.proofs.Clock.{clock-keeps, closes-keeps}
use Rattle.cw_laws.proofs.Commit.{commit-keeps}
use Rattle.cw_laws.proofs.Compacts.{compact-keeps}
use Rattle.cw_laws.proofs.Deliver.{deliver-keeps}
use Rattle.cw_laws.proofs.Expires.{expire-keeps}
use Rattle.cw_laws.proofs.Fencing.{fence_one-keeps}
use Rattle.cw_laws.proofs.Fetch.{fetch-keeps}
use Rattle.cw_laws.proofs.Init.{init-keeps}
use Rattle.cw_laws.proofs.Items.{kill-keeps, stop_item-keeps, restart-keeps, fail-keeps}
use Rattle.cw_laws.proofs.Joins.{join-keeps}
use Rattle.cw_laws.proofs.Leading.{read_config-keeps, claim_lead-keeps, raw_init-keeps}
use Rattle.cw_laws.proofs.Marks.{mark-keeps}
use Rattle.cw_laws.proofs.Plans.{store_plan-keeps}
use Rattle.cw_laws.proofs.Produce.{produce-keeps}
use Rattle.cw_laws.proofs.PutOffsets.{put_offsets-keeps}
use Rattle.cw_laws.proofs.RawCommit.{raw_commit-keeps}
use Rattle.cw_laws.proofs.Regroup.{close_round-keeps}
use Rattle.cw_laws.proofs.Reports.{put_status-keeps}
use Rattle.cw_laws.proofs.SetOffsets.{set_offsets-keeps}
use Rattle.cw_laws.proofs.Sinks.{put_sink-keeps}
use Rattle.cw_laws.proofs.Starts.{start_item-keeps}
use Rattle.cw_laws.proofs.Sync.{sync-keeps}
use Rattle.cw_laws.proofs.Verify.{verify-keeps}
use Rattle.cw_laws.proofs.Workers.{spawn-keeps, deaf-keeps, hear-keeps}
use Rattle.cw_laws.proofs.Grows.{grows-same, true-stays}
use Rattle.cw_laws.proofs.Growth.{read_config-grows, stop_item-grows, join-grows, close_round-grows, store_plan-grows, sync-grows, claim_lead-grows, append_config-grows, fence_one-grows, append_fence-grows, mark-grows, start_item-grows, put_status-grows}
use Rattle.cw_laws.proofs.Proposed.{proposes-well}
use Rattle.cw_laws.proofs.Runs.{lives-sound, run-keeps, run-grows, run-take}
use Rattle.cw_laws.proofs.TaskSteps.{step-keeps}
use Rattle.cw_laws.proofs.Ticks.{tick-keeps}
use Rattle.cw_laws.proofs.Workers.{sound_at}

-- ---- steps

-- each step that may be made keeps all facts
pub step-keeps-facts : (setting : Setting) (s : Cluster) (step : Step) → May setting s step → AreFacts setting s → AreFacts setting (behind setting s step)
step-keeps-facts setting s (step.clock to) may f = clock-keeps setting to s f
step-keeps-facts setting s (step.closes disk count) may f = closes-keeps setting disk count s f
step-keeps-facts setting s step.spawn may f = spawn-keeps setting s f
step-keeps-facts setting s (step.kill w) may f = kill-keeps setting w s f
step-keeps-facts setting s (step.deaf w) may f = deaf-keeps setting w s f
step-keeps-facts setting s (step.hear w) may f = hear-keeps setting w s f
step-keeps-facts setting s (step.expire w) may f = expire-keeps setting w s f
step-keeps-facts setting s (step.join w) may f = join-keeps setting w s f
step-keeps-facts setting s (step.close_round w) may f = close_round-keeps setting w s f
step-keeps-facts setting s (step.store_plan w) may f = store_plan-keeps setting w s f
step-keeps-facts setting s (step.sync w) may f = sync-keeps setting w s f
step-keeps-facts setting s (step.read_config w) may f = read_config-keeps setting w s f
step-keeps-facts setting s (step.start_item w item) may f = start_item-keeps setting w item s may f
step-keeps-facts setting s (step.stop_item i) may f = stop_item-keeps setting i s f
step-keeps-facts setting s (step.restart w item) may f = restart-keeps setting w item s f
step-keeps-facts setting s (step.claim_lead w) may f = claim_lead-keeps setting w s f
step-keeps-facts setting s (step.append_config w values) may f = append_config-keeps setting w values s may f
step-keeps-facts setting s (step.fence_one w name) may f = fence_one-keeps setting w name s may f
step-keeps-facts setting s (step.append_fence w name) may f = append_fence-keeps setting w name s may f
step-keeps-facts setting s (step.set_offsets w name list) may f = set_offsets-keeps setting w name list s may f
step-keeps-facts setting s (step.init i) may f = init-keeps setting i s may f
step-keeps-facts setting s (step.verify i) may f = verify-keeps setting i s may f
step-keeps-facts setting s (step.fetch i) may f = fetch-keeps setting i s may f
step-keeps-facts setting s (step.produce i cut) may f = produce-keeps setting i cut s may f
step-keeps-facts setting s (step.put_offsets i) may f = put_offsets-keeps setting i s may f
step-keeps-facts setting s (step.commit i) may f = commit-keeps setting i s may f
step-keeps-facts setting s (step.deliver i turn to) may f = deliver-keeps setting i turn to s may f
step-keeps-facts setting s (step.put_sink i to) may f = put_sink-keeps setting i to s may f
step-keeps-facts setting s (step.fail i trace) may f = fail-keeps setting i trace s f
step-keeps-facts setting s (step.put_status w item) may f = put_status-keeps setting w item s may f
step-keeps-facts setting s (step.mark log) may f = mark-keeps setting log s may f
step-keeps-facts setting s (step.compact log) may f = compact-keeps setting log s f
step-keeps-facts setting s (step.raw_init n) may f = raw_init-keeps setting n s may f
step-keeps-facts setting s (step.raw_commit n epoch list) may f = raw_commit-keeps setting n epoch list s may f
step-keeps-facts setting s (step.journal entry) may f = journal-keeps setting entry s may f

-- ---- runs

pub run-keeps-facts : (setting : Setting) (s : Cluster) (steps : List Step) → IsRun setting s steps → AreFacts setting s → AreFacts setting (behind_all setting s steps)
run-keeps-facts setting s steps run f = run-keeps setting (step-keeps-facts setting) s steps run f

pub each-state-keeps : (setting : Setting) (s : Cluster) (steps : List Step) (n : ℕ) → IsRun setting s steps → AreFacts setting s → AreFacts setting (behind_all setting s (take n steps))
each-state-keeps setting s steps n run f = run-keeps-facts setting s (take n steps) (run-take setting s steps n run) f

pub run-grows-on : (setting : Setting) (s : Cluster) (steps : List Step) → IsRun setting s steps → AreFacts setting s → Grows s (behind_all setting s steps)
run-grows-on setting s steps run f = run-grows setting (step-keeps-facts setting) s steps run f

-- ---- a task's step, and a worker's tick

pub task_step-keeps : (setting : Setting) (i : ℕ) (s : Cluster) → AreFacts setting s → AreFacts setting (task_step setting i s).1
task_step-keeps setting i s f = step-keeps (AreFacts setting) setting i s
    record {
      same = f;
      init = λ may. init-keeps setting i s may f;
      verify = λ may. verify-keeps setting i s may f;
      fetch = λ may. fetch-keeps setting i s may f;
      produce = λ cut may. produce-keeps setting i cut s may f;
      put_offsets = λ may. put_offsets-keeps setting i s may f;
      commit = λ may. commit-keeps setting i s may f;
      deliver = λ turn to may. deliver-keeps setting i turn to s may f;
      put_sink = λ to may. put_sink-keeps setting i to s may f;
      fail = λ trace t g. fail-keeps setting i trace t g;
    }
    (lives-sound s f.rows i)

pub tick-keeps-facts : (setting : Setting) (w : ℕ) (s : Cluster) → AreFacts setting s → AreFacts setting (tick w s).1
tick-keeps-facts setting w s f = tick-keeps (AreFacts setting) w s
    record {
      same = f;
      read = read_config-keeps setting w s f;
      stop = λ i. stop_item-keeps setting i s f;
      join = join-keeps setting w s f;
      close = close_round-keeps setting w s f;
      plan = store_plan-keeps setting w s f;
      sync = sync-keeps setting w s f;
      lead = claim_lead-keeps setting w s f;
      append = λ leader values may. append_config-keeps setting leader values s may f;
      fence = λ name may. fence_one-keeps setting w name s may f;
      append_fence = λ name may. append_fence-keeps setting w name s may f;
      mark = λ log may. mark-keeps setting log s may f;
      start = λ item may. start_item-keeps setting w item s may f;
      report = λ item may. put_status-keeps setting w item s may f;
    }
    (sound_at s f.rows w) (proposes-well w s f.rows f.logs.configs.allowed)

pub tick-grows : (setting : Setting) (w : ℕ) (s : Cluster) → AreFacts setting s → Grows s (tick w s).1
tick-grows setting w s f =
    let sound : IsSoundRow s (row_of w s) = sound_at s f.rows w in
    tick-keeps (Grows s) w s
    record {
      same = grows-same s;
      read = read_config-grows w s sound.prefix;
      stop = λ i. stop_item-grows i s;
      join = join-grows w s;
      close = close_round-grows w s;
      plan = store_plan-grows w s;
      sync = sync-grows w s;
      lead = claim_lead-grows w s;
      append = λ leader values may. append_config-grows leader values s;
      fence = λ name may. fence_one-grows w name s;
      append_fence = λ name may. append_fence-grows w name s;
      mark = λ log may. mark-grows log s;
      start = λ item may. start_item-grows w item s;
      report = λ item may. put_status-grows w item s;
    }
    sound (proposes-well w s f.rows f.logs.configs.allowed)

-- ---- what was answered

each_from-at : {A : Type 0} (P : List A → A → Type 0) (start xs : List A) (x : A) (ys : List A) → EachFrom P start (xs ++ x ∷ ys) → P (start ++ xs) x
each_from-at P start [] x ys each = subst (λ l. P l x) (sym (append-nil start)) each.0
each_from-at P start (y ∷ xs) x ys each = subst (λ l. P l x) (append_assoc start (y ∷ []) xs) (each_from-at P (start ++ y ∷ []) xs x ys each.1)

each-among : {A : Type 0} (P : A → Type 0) (xs : List A) (y : A) (zs : List A) → AllByRecursion P (xs ++ y ∷ zs) → P y
each-among P [] y zs each = each.0
each-among P (x ∷ xs) y zs each = each-among P xs y zs each.1

-- an entry of the journal is true
pub entry-true-at : (setting : Setting) (s : Cluster) (before behind : List JournalEntry) (e : JournalEntry) → AreFacts setting s → s.journal ≡ before ++ e ∷ behind →
    IsTrueEntry setting s before e
entry-true-at setting s before behind e f is =
    each_from-at (IsTrueEntry setting s) [] before e behind (subst (λ l. EachFrom (IsTrueEntry setting s) [] l) is f.journal)

-- and stays so along each run
pub entry-stays-true : (setting : Setting) (s : Cluster) (before behind : List JournalEntry) (e : JournalEntry) (steps : List Step) → AreFacts setting s → IsRun setting s steps →
    s.journal ≡ before ++ e ∷ behind → IsTrueEntry setting (behind_all setting s steps) before e
entry-stays-true setting s before behind e steps f run is =
    true-stays setting s (behind_all setting s steps) (run-grows-on setting s steps run f) before e (entry-true-at setting s before behind e f is)

-- what a worker answered goes on behind what it answered before
pub answers-go-on : (setting : Setting) (s : Cluster) (before between behind : List JournalEntry) (earlier e : JournalEntry) → AreFacts setting s →
    s.journal ≡ (before ++ earlier ∷ between) ++ e ∷ behind → earlier.worker ≡ e.worker → GoesOnBehind e earlier
answers-go-on setting s before between behind earlier e f is same =
    each-among (λ b. b.worker ≡ e.worker → GoesOnBehind e b) before earlier between (entry-true-at setting s (before ++ earlier ∷ between) behind e f is).behind same
