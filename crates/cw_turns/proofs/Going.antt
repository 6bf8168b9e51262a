-- A turn of any form: a server's world goes on, and nothing is kept in the journal.
use Rattle.std.proofs.Common.{◌≡◌, ◌⊎◌, ⊎_elim, ℕ, ◌≤◌, Option, Some, None, Result, sym, ap, ◌∙◌, subst, arith}
use Rattle.cw_types.specs.Faults.{Rose}
use Rattle.cw_types.specs.declared.logs.DiskName.{DiskName}
use Rattle.cw_types.specs.declared.logs.DiskName.TheVariants as disks
use Rattle.cw_types.specs.declared.logs.LogName.TheVariants.{Config, Offsets, Status, Txn, Batches}
use Rattle.cw_disk.specs.declared.device.Disk.{Ghosts}
use Rattle.cw_model.specs.declared.fault.WorldFault.{WorldFault}
use Rattle.cw_model.specs.State.{Setting, Cluster}
use Rattle.cw_model.specs.Answers.{Answer}
use Rattle.cw_model.specs.EventsWorkers.{clock}
use Rattle.cw_model.specs.Facts.{AreFacts}
use Rattle.cw_model.specs.Reopening.{stored_of, closed_by}
use Rattle.cw_model.specs.Runs as step
use Rattle.cw_world.specs.Ending.{disks_of}
use Rattle.cw_world.specs.Logs.{LogsState, HoldAll}
use Rattle.cw_world.specs.Moments.{at_moment}
use Rattle.cw_world.specs.World.{WorldState, Acts, RunsOut, Breaks}
use Rattle.cw_open.specs.Reopened.{disk_in}
use Rattle.cw_run.specs.Reaches.{Reaches}
use Rattle.cw_run.proofs.Reaching.{makes, goes_on, reached-facts}
use Rattle.cw_lines.specs.Players.{HasRisen}
use Rattle.cw_cluster.proofs.Broken.{KeepAll, kinds-same, tells-same, told-in, others-hold}
use Rattle.cw_cluster.proofs.Lined.{has-risen}
use Rattle.cw_desk.specs.Keeping.{KeepsJournal}
use Rattle.cw_desk.proofs.Quiet.{keeps-same, closes-quiet}
use Rattle.cw_turns.specs.Going.{Start, IsBroken, GoesOn}

-- ---- counts of faults

-- one that rose since a later moment rose since an earlier one
rose-since : (start before now : ℕ) → start ≤ before → Rose before now → Rose start now
rose-since start before now low rose = omega (arith, low, rose)

-- none fell
counts-keep : {D : Type 0} (G : Ghosts D) (old new : LogsState D) → KeepAll G old new → (disk : DiskName) → G.count (disk_in disk (disks_of old)) ≤ G.count (disk_in disk (disks_of new))
counts-keep G old new keeps disks.ConfigA = (keeps Config).later 0
counts-keep G old new keeps disks.ConfigB = (keeps Config).later 1
counts-keep G old new keeps disks.OffsetsA = (keeps Offsets).later 0
counts-keep G old new keeps disks.OffsetsB = (keeps Offsets).later 1
counts-keep G old new keeps disks.StatusA = (keeps Status).later 0
counts-keep G old new keeps disks.StatusB = (keeps Status).later 1
counts-keep G old new keeps disks.Txn = (keeps Txn).later 0
counts-keep G old new keeps disks.Batches = (keeps Batches).later 0

counts-later : {D : Type 0} (G : Ghosts D) (start : Start) (old new : WorldState D) → GoesOn G start old → KeepAll G old.logs new.logs →
    (disk : DiskName) → start.counts disk ≤ G.count (disk_in disk (disks_of new.logs))
counts-later G start old new goes keeps disk = omega (arith, goes.later disk, counts-keep G old.logs new.logs keeps disk)

-- one fault is the other
same-fault : (o : Option (DiskName × ℕ)) (d e : DiskName) (m n : ℕ) → o ≡ Some (d, m) → o ≡ Some (e, n) → (d ≡ e) × (m ≡ n)
same-fault o d e m n one two =
    let pair : ◌≡◌ {A = DiskName × ℕ} (d, m) (e, n) = cc in
    (ap (λ (p : DiskName × ℕ). p.0) pair, ap (λ (p : DiskName × ℕ). p.1) pair)

-- ---- a turn

module _ {D A : Type 0} (G : Ghosts D) (start : Start) (event : Cluster → Answer A) (old new : WorldState D) (result : Result A WorldFault)
    (goes : GoesOn G start old) (alive : old.state.closed ≡ None) (holds : HoldAll G (stored_of old.state) old.logs)
    (reached : Reaches old.setting old.state (event old.state).1) (unclosed : (event old.state).1.closed ≡ None) (acts : Acts G event old new result) where
  -- what is reached from the world before is reached from the start
  from-start : (t : Cluster) → Reaches old.setting old.state t → Reaches start.setting start.state t
  from-start t then = goes_on start.setting start.state old.state t goes.reached (subst (λ (x : Setting). Reaches x old.state t) goes.setting then)

  closed-then : (breaks : Breaks G acts.log event old new result) → Reaches start.setting start.state new.state
  closed-then breaks = subst (λ (t : Cluster). Reaches start.setting start.state t) (sym breaks.state)
      (from-start (closed_by breaks.disk breaks.count old.state) (makes old.setting old.state (step.closes breaks.disk breaks.count) tt))

  now-reached : Reaches start.setting start.state new.state
  now-reached = ⊎_elim
      (λ (row : event old.state ≡ (result, new.state)). subst (λ (t : Cluster). Reaches start.setting start.state t) (ap (λ (a : Answer A). a.1) row) (from-start (event old.state).1 reached))
      (λ (stops : RunsOut G acts.log old new result ⊎ Breaks G acts.log event old new result). ⊎_elim
      (λ (out : RunsOut G acts.log old new result). subst (λ (t : Cluster). Reaches start.setting start.state t) (sym out.state) goes.reached)
      (λ (breaks : Breaks G acts.log event old new result). closed-then breaks)
      stops)
      acts.answers

  -- where a disk failed
  broken-at : (breaks : Breaks G acts.log event old new result) → IsBroken G start new breaks.disk breaks.count
  broken-at breaks =
      let risen : HasRisen (G.count (disk_in breaks.disk (disks_of old.logs))) (G.count (disk_in breaks.disk (disks_of new.logs))) breaks.count =
      has-risen G old.logs new.logs acts.log breaks.disk breaks.count breaks.fails in
      record {
        before = old.state;
        next = (event old.state).1;
        log = acts.log;
        before_reached = goes.reached;
        next_reached = from-start (event old.state).1 reached;
        same = ap (λ (t : Cluster). stored_of t) breaks.state;
        apart = breaks.apart;
        left = λ tells. let own = told-in G acts.log old.logs (goes.tells ∙ tells) in breaks.left own.0 own.1;
        others = others-hold G acts.log (stored_of old.state) old.logs new.logs acts.others holds;
        count_is = risen.is;
        rose = rose-since (start.counts breaks.disk) (G.count (disk_in breaks.disk (disks_of old.logs))) breaks.count (goes.later breaks.disk)
            (subst (λ (n : ℕ). Rose (G.count (disk_in breaks.disk (disks_of old.logs))) n) (sym risen.is) risen.rose);
      }

  -- it is that disk
  broken-is : (breaks : Breaks G acts.log event old new result) (disk : DiskName) (count : ℕ) → new.state.closed ≡ Some (disk, count) → IsBroken G start new disk count
  broken-is breaks disk count is =
      let both = same-fault new.state.closed breaks.disk disk breaks.count count (ap (λ (t : Cluster). t.closed) breaks.state) is in
      subst (λ (d : DiskName). IsBroken G start new d count) both.0 (subst (λ (n : ℕ). IsBroken G start new breaks.disk n) both.1 (broken-at breaks))

  now-broken : (disk : DiskName) (count : ℕ) → new.state.closed ≡ Some (disk, count) → IsBroken G start new disk count
  now-broken disk count is = ⊎_elim
      (λ (row : event old.state ≡ (result, new.state)). absurd (let no : None ≡ Some (disk, count) = sym (subst (λ (a : Answer A). a.1.closed ≡ None) row unclosed) ∙ is in cc))
      (λ (stops : RunsOut G acts.log old new result ⊎ Breaks G acts.log event old new result). ⊎_elim
      (λ (out : RunsOut G acts.log old new result). absurd (let no : None ≡ Some (disk, count) = sym alive ∙ sym (ap (λ (t : Cluster). t.closed) out.state) ∙ is in cc))
      (λ (breaks : Breaks G acts.log event old new result). broken-is breaks disk count is)
      stops)
      acts.answers

  pub acts-on : GoesOn G start new
  acts-on = record {
    names = goes.names;
    reached = now-reached;
    setting = acts.setting ∙ goes.setting;
    name = acts.name ∙ goes.name;
    kinds = kinds-same G old.logs new.logs acts.keeps goes.kinds;
    tells = tells-same G old.logs new.logs acts.keeps ∙ goes.tells;
    later = counts-later G start old new goes acts.keeps;
    broken = now-broken;
  }

-- ---- a state that is open

-- a turn behind which no disk has failed
pub opens-on : {D : Type 0} (G : Ghosts D) (start : Start) (old new : WorldState D) → GoesOn G start old → Reaches old.setting old.state new.state → new.state.closed ≡ None →
    KeepAll G old.logs new.logs → new.setting ≡ old.setting → new.name ≡ old.name → GoesOn G start new
opens-on G start old new goes reached unclosed keeps setting name = record {
  names = goes.names;
  reached = goes_on start.setting start.state old.state new.state goes.reached (subst (λ (x : Setting). Reaches x old.state new.state) goes.setting reached);
  setting = setting ∙ goes.setting;
  name = name ∙ goes.name;
  kinds = kinds-same G old.logs new.logs keeps goes.kinds;
  tells = tells-same G old.logs new.logs keeps ∙ goes.tells;
  later = counts-later G start old new goes keeps;
  broken = λ disk count is. absurd (let no : None ≡ Some (disk, count) = sym unclosed ∙ is in cc);
}

-- ---- the clock

module _ {D : Type 0} (G : Ghosts D) (start : Start) (now : ℕ) (old : WorldState D) (goes : GoesOn G start old) (alive : old.state.closed ≡ None) where
  -- it is set
  pub clock-on : GoesOn G start (at_moment now old)
  clock-on = record {
    names = goes.names;
    reached = goes_on start.setting start.state old.state (clock now old.state).1 goes.reached (makes start.setting old.state (step.clock now) tt);
    setting = goes.setting;
    name = goes.name;
    kinds = goes.kinds;
    tells = goes.tells;
    later = goes.later;
    broken = λ disk count is. absurd (let no : None ≡ Some (disk, count) = sym alive ∙ is in cc);
  }

-- and all facts are kept
pub clock-facts : (setting : Setting) (now : ℕ) (s : Cluster) → AreFacts setting s → AreFacts setting (clock now s).1
clock-facts setting now s f = reached-facts setting s (clock now s).1 (makes setting s (step.clock now) tt) f

-- ---- the journal

-- what a turn leaves of it, by what its event leaves
module _ {D A : Type 0} (G : Ghosts D) (event : Cluster → Answer A) (old new : WorldState D) (result : Result A WorldFault) (kept : KeepsJournal old.state (event old.state).1) where
  pub acts-keep : Acts G event old new result → KeepsJournal old.state new.state
  acts-keep acts = ⊎_elim
      (λ (row : event old.state ≡ (result, new.state)). subst (λ (a : Answer A). KeepsJournal old.state a.1) row kept)
      (λ (stops : RunsOut G acts.log old new result ⊎ Breaks G acts.log event old new result). ⊎_elim
      (λ (out : RunsOut G acts.log old new result). subst (λ (t : Cluster). KeepsJournal old.state t) (sym out.state) (keeps-same old.state))
      (λ (breaks : Breaks G acts.log event old new result). subst (λ (t : Cluster). KeepsJournal old.state t) (sym breaks.state) (closes-quiet breaks.disk breaks.count old.state))
      stops)
      acts.answers
