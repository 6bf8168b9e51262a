-- A worker comes to a cluster that has fewer than it may have.
use Rattle.std.proofs.Common.{◌≡◌, ◌≢◌, ⊎_elim, ℕ, ◌<◌, ◌++◌, ◌∷◌, [], Bool, true, length, nat_lt, Option, None, Result, Ok, Err, if◌then◌else◌, sym, ap, ◌∙◌, arith}
use Rattle.std.proofs.lemmas.Bool.Decides.{nat_tests}
use Rattle.cw_types.specs.declared.logs.DiskName.{DiskName}
use Rattle.cw_disk.specs.declared.device.Disk.{Ghosts}
use Rattle.cw_model.specs.declared.fault.WorldFault.{WorldFault}
use Rattle.cw_model.specs.declared.fault.WorldFault.TheVariants.{Memory, TooMany}
use Rattle.cw_model.specs.Answers.{Answer, answered, refused, unless_closed}
use Rattle.cw_model.specs.EventsWorkers.{spawn}
use Rattle.cw_model.specs.Lookups.{new_row}
use Rattle.cw_model.specs.Reopening.{stored_of}
use Rattle.cw_model.specs.Runs as step
use Rattle.cw_model.specs.State.{Cluster}
use Rattle.cw_world.specs.Logs.{HoldAll}
use Rattle.cw_world.specs.World.{WorldState, DoesOrWants}
use Rattle.cw_world.proofs.Acting.{wants-acts}
use Rattle.cw_world.proofs.Writing.{is-memory}
use Rattle.cw_run.proofs.Living.{spawn-lives}
use Rattle.cw_run.proofs.Reaching.{makes}
use Rattle.cw_turns.specs.Going.{Start, GoesOn}
use Rattle.cw_turns.proofs.Going.{acts-on}

-- the cluster with one more
abbrev pub with_one : Cluster → Cluster
with_one s = record s { rows = s.rows ++ new_row ∷ [] }

pub spawns : (s : Cluster) → s.closed ≡ None → length s.rows < 64 → spawn s ≡ answered (length s.rows) (with_one s)
spawns s unclosed few =
    ap (λ (o : Option (DiskName × ℕ)). unless_closed o (if nat_lt (length s.rows) 64 then answered (length s.rows) (with_one s) else refused TooMany s) s) unclosed
    ∙ ap (λ (b : Bool). if b then answered (length s.rows) (with_one s) else refused TooMany s) below
  where
    below : nat_lt (length s.rows) 64 ≡ true
    below = grind (arith, nat_tests, few)

-- what a spawn comes to
pub record Came {D : Type 0} (old new : WorldState D) (result : Result ℕ WorldFault) : Type 0 where
  pub journal : new.state.journal ≡ old.state.journal
  pub alive : new.state.closed ≡ old.state.closed
  pub rows : (w : ℕ) → result ≡ Ok w → new.state.rows ≡ old.state.rows ++ new_row ∷ []
  pub wants : (fault : WorldFault) → result ≡ Err fault → fault ≡ Memory

module _ {D : Type 0} (old new : WorldState D) (unclosed : old.state.closed ≡ None) (few : length old.state.rows < 64) where
  -- it is done
  came-in : (result : Result ℕ WorldFault) → spawn old.state ≡ (result, new.state) → Came old new result
  came-in result row =
      let is : answered (length old.state.rows) (with_one old.state) ≡ (result, new.state) = sym (spawns old.state unclosed few) ∙ row in
      let state : with_one old.state ≡ new.state = ap (λ (a : Answer ℕ). a.1) is in
      let done : Ok (length old.state.rows) ≡ result = ap (λ (a : Answer ℕ). a.0) is in
      record {
        journal = sym (ap (λ (t : Cluster). t.journal) state);
        alive = sym (ap (λ (t : Cluster). t.closed) state);
        rows = λ w ok. sym (ap (λ (t : Cluster). t.rows) state);
        wants = λ fault err. absurd (let no : Ok (length old.state.rows) ≡ Err fault = done ∙ err in cc);
      }

  came-not : (fault : WorldFault) → fault ≡ Memory → new.state ≡ old.state → Came old new (Err fault)
  came-not fault memory same = record {
    journal = ap (λ (t : Cluster). t.journal) same;
    alive = ap (λ (t : Cluster). t.closed) same;
    rows = λ w ok. absurd (cc);
    wants = λ other err. let is : fault ≡ other = cc in sym is ∙ memory;
  }

  pub came : (result : Result ℕ WorldFault) → DoesOrWants spawn old new result → Came old new result
  came (Ok w) does = came-in (Ok w) (does.done (λ e. cc))
  came (Err fault) does = ⊎_elim
      (λ (e : fault ≡ Memory). came-not fault e (does.wants (ap (λ (f : WorldFault). Err f) e)))
      (λ (n : fault ≢ Memory). came-in (Err fault) (does.done (λ e. n cc)))
      (is-memory fault)

-- a server's world goes on
pub spawn-on : {D : Type 0} (G : Ghosts D) (old new : WorldState D) (result : Result ℕ WorldFault) → old.state.closed ≡ None → HoldAll G (stored_of old.state) old.logs →
    DoesOrWants spawn old new result → (start : Start) → GoesOn G start old → GoesOn G start new
spawn-on G old new result alive holds does start goes =
    acts-on G start spawn old new result goes alive holds (makes old.setting old.state step.spawn tt) (spawn-lives old.state alive).unclosed (wants-acts G spawn old new result does)
