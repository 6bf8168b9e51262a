-- A sink's task that still polls where a delivery was gathered hands it over.
use Rattle.std.proofs.Common.{◌≡◌, ℕ, Option, None, Result, Ok, Err, if◌then◌else◌, ap, ◌∙◌}
use Rattle.cw_types.specs.declared.logs.DiskName.{DiskName}
use Rattle.cw_disk.specs.declared.device.Disk.{Ghosts}
use Rattle.cw_model.specs.declared.fault.WorldFault.{WorldFault}
use Rattle.cw_model.specs.declared.fault.WorldFault.TheVariants.{Gone}
use Rattle.cw_model.specs.declared.instance.InstancePhase.{InstancePhase}
use Rattle.cw_model.specs.declared.instance.InstancePhase.TheVariants as phase
use Rattle.cw_model.specs.Answers.{Answer, answered, refused, unless_closed}
use Rattle.cw_model.specs.EventsSinks.{deliver, sink_cut, MayDeliver}
use Rattle.cw_model.specs.Lookups.{instance_of}
use Rattle.cw_model.specs.Phases.{is_ended}
use Rattle.cw_model.specs.Reopening.{stored_of}
use Rattle.cw_model.specs.Runs as step
use Rattle.cw_model.specs.State.{Cluster}
use Rattle.cw_model.specs.Tasks.{taking}
use Rattle.cw_model.specs.Updates.{changes_instance}
use Rattle.cw_laws.proofs.Wrappers.{instance-keeps}
use Rattle.cw_world.specs.Logs.{HoldAll}
use Rattle.cw_world.specs.World.{WorldState, Does}
use Rattle.cw_world.proofs.Acting.{does-acts}
use Rattle.cw_run.proofs.Reaching.{makes}
use Rattle.cw_desk.specs.Keeping.{KeepsJournal}
use Rattle.cw_desk.proofs.Quiet.{deliver-quiet}
use Rattle.cw_turns.specs.Going.{Start, GoesOn}
use Rattle.cw_turns.proofs.Going.{acts-keep, acts-on}

-- it is done
pub is-delivered : (i turn to : ℕ) (s : Cluster) → s.closed ≡ None → (instance_of i s).phase ≡ phase.Polling → (deliver i turn to s).0 ≡ Ok tt
is-delivered i turn to s unclosed polling =
    ap (λ (o : Option (DiskName × ℕ)). (unless_closed o lives s).0) unclosed ∙ ap (λ (p : InstancePhase). (if is_ended p then refused (Gone i) s else taken).0) polling
  where
    taken : Answer (Unit {0})
    taken = answered tt (changes_instance i (taking phase.Delivered (sink_cut turn to (instance_of i s))) s)

    lives : Answer (Unit {0})
    lives = if is_ended (instance_of i s).phase then refused (Gone i) s else taken

-- and closes nothing
pub deliver-open : (i turn to : ℕ) (s : Cluster) → s.closed ≡ None → (deliver i turn to s).1.closed ≡ None
deliver-open i turn to s unclosed = instance-keeps (λ (t : Cluster). t.closed ≡ None) i s _ unclosed (λ lives. unclosed)

module _ {D : Type 0} (G : Ghosts D) (i turn to : ℕ) (old new : WorldState D) (result : Result (Unit {0}) WorldFault) (alive : old.state.closed ≡ None)
    (does : Does (deliver i turn to) old new result) where
  pub deliver-on : HoldAll G (stored_of old.state) old.logs → MayDeliver i turn to old.state → (start : Start) → GoesOn G start old → GoesOn G start new
  deliver-on holds may start goes = acts-on G start (deliver i turn to) old new result goes alive holds (makes old.setting old.state (step.deliver i turn to) may)
      (deliver-open i turn to old.state alive) (does-acts G (deliver i turn to) old new result does)

  pub deliver-keeps : KeepsJournal old.state new.state
  deliver-keeps = acts-keep G (deliver i turn to) old new result (deliver-quiet i turn to old.state) (does-acts G (deliver i turn to) old new result does)

-- what was done wasn't refused
pub not-refused : (r s : Result (Unit {0}) WorldFault) (fault : WorldFault) → r ≡ Ok tt → r ≡ s → s ≡ Err fault → ⊥
not-refused r s fault done same refused = cc
