-- What an event of any form does, in the one word that all have in common.
use Rattle.std.proofs.Common.{◌≡◌, ◌≢◌, ◌⊎◌, inl, inr, ⊎_elim, List, ℕ, Some, Result, Ok, Err, refl, sym, ap, subst}
use Rattle.cw_types.specs.declared.logs.LogName.{LogName}
use Rattle.cw_types.specs.declared.logs.LogName.TheVariants.{Config, Offsets, Status, Txn, Batches}
use Rattle.cw_disk.specs.declared.device.Disk.{Ghosts}
use Rattle.cw_model.specs.declared.fault.WorldFault.{WorldFault}
use Rattle.cw_model.specs.declared.fault.WorldFault.TheVariants.{Memory}
use Rattle.cw_model.specs.State.{Cluster}
use Rattle.cw_model.specs.Answers.{Answer}
use Rattle.cw_model.specs.Reopening.{stored_of}
use Rattle.cw_world.specs.Logs.{LogsState, HaveSameOthers, HasSameBodies, KeepsOn, AddsTo, view_in, list_in, faults_in}
use Rattle.cw_world.specs.World.{WorldState, Does, DoesOrWants, Writes, RunsOut, Acts}
use Rattle.cw_world.proofs.Holding.{nothing-added}
use Rattle.cw_world.proofs.Keeping.{keeps-all, keeps-untouched}
use Rattle.cw_world.proofs.Writing.{is-memory, same-view}

is-same : (a b : LogName) → (a ≡ b) ⊎ (a ≢ b)
is-same Config Config = inl refl
is-same Config Offsets = inr (λ e. cc)
is-same Config Status = inr (λ e. cc)
is-same Config Txn = inr (λ e. cc)
is-same Config Batches = inr (λ e. cc)
is-same Offsets Config = inr (λ e. cc)
is-same Offsets Offsets = inl refl
is-same Offsets Status = inr (λ e. cc)
is-same Offsets Txn = inr (λ e. cc)
is-same Offsets Batches = inr (λ e. cc)
is-same Status Config = inr (λ e. cc)
is-same Status Offsets = inr (λ e. cc)
is-same Status Status = inl refl
is-same Status Txn = inr (λ e. cc)
is-same Status Batches = inr (λ e. cc)
is-same Txn Config = inr (λ e. cc)
is-same Txn Offsets = inr (λ e. cc)
is-same Txn Status = inr (λ e. cc)
is-same Txn Txn = inl refl
is-same Txn Batches = inr (λ e. cc)
is-same Batches Config = inr (λ e. cc)
is-same Batches Offsets = inr (λ e. cc)
is-same Batches Status = inr (λ e. cc)
is-same Batches Txn = inr (λ e. cc)
is-same Batches Batches = inl refl

module _ {D : Type 0} (G : Ghosts D) where
  -- the logs as they were
  unchanged : (log : LogName) (old new : LogsState D) → new ≡ old → HaveSameOthers log old new
  unchanged log old new same = record {
    config = λ n. ap (λ (l : LogsState D). l.config) same;
    offsets = λ n. ap (λ (l : LogsState D). l.offsets) same;
    status = λ n. ap (λ (l : LogsState D). l.status) same;
    txn = λ n. ap (λ (l : LogsState D). l.txn) same;
    batches = λ n. ap (λ (l : LogsState D). l.batches) same;
  }

  unadded : (any : LogName) (old new : LogsState D) (P : List (List ℕ) → Type 0) → new ≡ old → AddsTo G any old new P
  unadded any old new P same = subst (λ (l : LogsState D). AddsTo G any old l P) (sym same) (nothing-added G any old P)

  -- a log that was not written to
  untouched : (log any : LogName) (old new : LogsState D) (P : List (List ℕ) → Type 0) → HaveSameOthers log old new → log ≢ any → AddsTo G any old new P
  untouched log Config old new P others n = rw (others.config n) (nothing-added G Config old P)
  untouched log Offsets old new P others n = rw (others.offsets n) (nothing-added G Offsets old P)
  untouched log Status old new P others n = rw (others.status n) (nothing-added G Status old P)
  untouched log Txn old new P others n = rw (others.txn n) (nothing-added G Txn old P)
  untouched log Batches old new P others n = rw (others.batches n) (nothing-added G Batches old P)

  same-told : (any : LogName) (old new : LogsState D) → new ≡ old → HasSameBodies (view_in G any old) (view_in G any new)
  same-told any old new same = subst (λ (l : LogsState D). HasSameBodies (view_in G any old) (view_in G any l)) (sym same) (same-view (view_in G any old))

  module _ {A : Type 0} (event : Cluster → Answer A) (old new : WorldState D) where
    -- one that touches no log
    pub does-acts : (result : Result A WorldFault) → Does event old new result → Acts G event old new result
    does-acts result does = record {
      log = Config;
      answers = inl does.row;
      setting = does.setting;
      name = does.name;
      others = unchanged Config old.logs new.logs does.logs;
      leaves = λ any told is. unadded any old.logs new.logs _ does.logs;
      keeps = λ any. keeps-all G any old.logs new.logs does.logs;
    }

    done-or-wants : (result : Result A WorldFault) → DoesOrWants event old new result →
        (event old.state ≡ (result, new.state)) ⊎ RunsOut G Config old new result
    done-or-wants (Ok a) does = inl (does.done (λ e. cc))
    done-or-wants (Err fault) does = ⊎_elim
        (λ (e : fault ≡ Memory). let answer = ap (λ (f : WorldFault). Err f) e in
        inr (record { answer = answer; state = does.wants answer; same = same-told Config old.logs new.logs does.logs }))
        (λ (n : fault ≢ Memory). inl (does.done (λ e. n cc)))
        (is-memory fault)

    -- one that may want memory
    pub wants-acts : (result : Result A WorldFault) → DoesOrWants event old new result → Acts G event old new result
    wants-acts result does = record {
      log = Config;
      answers = ⊎_elim (λ row. inl row) (λ out. inr (inl out)) (done-or-wants result does);
      setting = does.setting;
      name = does.name;
      others = unchanged Config old.logs new.logs does.logs;
      leaves = λ any told is. unadded any old.logs new.logs _ does.logs;
      keeps = λ any. keeps-all G any old.logs new.logs does.logs;
    }

    -- of each log, what a stop leaves behind a write to one of them
    leaves-any : (log any : LogName) (result : Result A WorldFault) (told : List (List ℕ)) → Writes G log event old new result →
        (view_in G any old.logs).bodies ≡ Some told →
        AddsTo G any old.logs new.logs (λ list. (list ≡ list_in any (stored_of old.state)) ⊎ (list ≡ list_in any (stored_of (event old.state).1)))
    leaves-any log any result told writes is = ⊎_elim
        (λ (e : log ≡ any). subst (λ (m : LogName). (view_in G m old.logs).bodies ≡ Some told →
        AddsTo G m old.logs new.logs (λ list. (list ≡ list_in m (stored_of old.state)) ⊎ (list ≡ list_in m (stored_of (event old.state).1))))
        e (writes.leaves told) is)
        (λ (n : log ≢ any). untouched log any old.logs new.logs _ writes.others n)
        (is-same log any)

    -- and each of them keeps on
    keeps-any : (log any : LogName) (result : Result A WorldFault) → Writes G log event old new result →
        KeepsOn (view_in G any old.logs) (view_in G any new.logs) (faults_in G any old.logs) (faults_in G any new.logs)
    keeps-any log any result writes = ⊎_elim
        (λ (e : log ≡ any). subst (λ (m : LogName). KeepsOn (view_in G m old.logs) (view_in G m new.logs) (faults_in G m old.logs) (faults_in G m new.logs))
        e writes.keeps)
        (λ (n : log ≢ any). keeps-untouched G log any old.logs new.logs writes.others n)
        (is-same log any)

    -- one that writes to a log
    pub writes-acts : (log : LogName) (result : Result A WorldFault) → Writes G log event old new result → Acts G event old new result
    writes-acts log result writes = record {
      log = log;
      answers = writes.answers;
      setting = writes.setting;
      name = writes.name;
      others = writes.others;
      leaves = λ any told is. leaves-any log any result told writes is;
      keeps = λ any. keeps-any log any result writes;
    }
