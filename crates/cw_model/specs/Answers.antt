-- What an event answers, and the state behind it. Three refusals are tested before all others: writing has ended, the
-- worker that is named was killed, the instance that is named has ended. This project's own rules.
use Rattle.std.specs.Prelude.{ℕ, Option, Some, None, Result, Ok, Err, if◌then◌else◌}
use Rattle.cw_types.specs.declared.logs.DiskName.{DiskName}
use Rattle.cw_group.specs.declared.answers.GroupFault.{GroupFault}
use Rattle.cw_model.specs.declared.fault.WorldFault.{WorldFault}
use Rattle.cw_model.specs.declared.fault.WorldFault.TheVariants.{Closed, Dead, Gone, Group}
use Rattle.cw_model.specs.State.{Cluster}
use Rattle.cw_model.specs.Phases.{is_ended}
use Rattle.cw_model.specs.Lookups.{row_of, instance_of}

-- an answer or a refusal, and the state behind it
abbrev pub Answer : Type 0 → Type 0
Answer A = Result A WorldFault × Cluster

-- an event that is refused
abbrev pub refused : {A : Type 0} → WorldFault → Cluster → Answer A
refused fault s = (Err fault, s)

-- an event that is done
abbrev pub answered : {A : Type 0} → A → Cluster → Answer A
answered answer s = (Ok answer, s)

-- an event, unless a disk's fault has ended all writing
abbrev pub unless_closed : {A : Type 0} → Option (DiskName × ℕ) → Answer A → Cluster → Answer A
unless_closed None done s = done
unless_closed (Some fault) done s = refused (Closed fault.0 fault.1) s

-- an event of the cluster
abbrev pub at_open : {A : Type 0} → (Cluster → Answer A) → Cluster → Answer A
at_open event s = unless_closed s.closed (event s) s

-- an event at a worker, unless that was killed
abbrev pub at_worker : {A : Type 0} → ℕ → (Cluster → Answer A) → Cluster → Answer A
at_worker w event = at_open (λ s. if (row_of w s).live then event s else refused (Dead w) s)

-- an event of an instance, unless that has ended
abbrev pub at_instance : {A : Type 0} → ℕ → (Cluster → Answer A) → Cluster → Answer A
at_instance i event = at_open (λ s. if is_ended (instance_of i s).phase then refused (Gone i) s else event s)

-- what is done behind a call of the group, unless the group refused it
abbrev pub at_group : {A B : Type 0} → Result B GroupFault → (B → Answer A) → Cluster → Answer A
at_group (Ok did) event s = event did
at_group (Err fault) event s = refused (Group fault) s
