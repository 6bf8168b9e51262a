-- What a refused event leaves behind: the cluster as it was, but that a leader which another has followed gives up its
-- epoch.
use Rattle.std.specs.Prelude.{◌≡◌, ℕ, true, false, Some, None, Err}
use Rattle.cw_types.specs.declared.logs.DiskName.{DiskName}
use Rattle.cw_model.specs.declared.fault.WorldFault.TheVariants.{Fenced, Closed, Dead, Gone}
use Rattle.cw_model.specs.declared.fault.WorldFault.{WorldFault}
use Rattle.cw_model.specs.State.{Cluster}
use Rattle.cw_model.specs.Phases.{is_ended}
use Rattle.cw_model.specs.Lookups.{row_of, instance_of}
use Rattle.cw_model.specs.Answers.{Answer, refused}
use Rattle.cw_model.specs.Updates.{changes_row, without_lead}

-- where it is refused, the cluster is as it was
abbrev pub Stays : {A : Type 0} → Cluster → Answer A → Type 0
Stays s answer = (fault : WorldFault) → answer.0 ≡ Err fault → answer.1 ≡ s

-- what a leader's refused event leaves: where another has claimed a later epoch, the worker gives up its own, and else
-- nothing changes
abbrev pub behind_refusal : ℕ → WorldFault → Cluster → Cluster
behind_refusal w (Fenced own current) s = changes_row w without_lead s
behind_refusal w _ s = s

-- where it is refused as fenced, the worker has lost its lead epoch and all else is as it was; where it is refused
-- otherwise, the cluster is as it was
abbrev pub StaysOrLosesLead : {A : Type 0} → ℕ → Cluster → Answer A → Type 0
StaysOrLosesLead w s answer = (fault : WorldFault) → answer.0 ≡ Err fault → answer.1 ≡ behind_refusal w fault s

-- where the worker was killed, the answer tells it, and nothing changes
abbrev pub IsDeadTo : {A : Type 0} → ℕ → Cluster → Answer A → Type 0
IsDeadTo w s answer = s.closed ≡ None → (row_of w s).live ≡ false → answer ≡ refused (Dead w) s

-- where the instance has ended, the answer tells it, and nothing changes
abbrev pub IsGoneTo : {A : Type 0} → ℕ → Cluster → Answer A → Type 0
IsGoneTo i s answer = s.closed ≡ None → is_ended (instance_of i s).phase ≡ true → answer ≡ refused (Gone i) s

-- where a disk's fault has ended all writing, the answer tells it, and nothing changes
abbrev pub IsClosedTo : {A : Type 0} → Cluster → Answer A → Type 0
IsClosedTo s answer = (disk : DiskName) (count : ℕ) → s.closed ≡ Some (disk, count) →
    answer ≡ refused (Closed disk count) s
