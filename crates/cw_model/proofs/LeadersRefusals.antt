-- What a leader's refused event leaves behind, refusal by refusal.
use Rattle.std.proofs.Common.{◌≡◌, ℕ, Bool, true, false, Option, Some, None, Ok, Err, refl, subst, if◌then◌else◌}
use Rattle.cw_types.specs.declared.logs.DiskName.{DiskName}
use Rattle.cw_types.specs.declared.logs.LogName.{LogName}
use Rattle.cw_model.specs.declared.fault.WorldFault.{WorldFault}
use Rattle.cw_model.specs.declared.fault.WorldFault.TheVariants.{Fenced, StaleGeneration, Full, Closed, Dead}
use Rattle.cw_model.specs.State.{Cluster}
use Rattle.cw_model.specs.Answers.{refused, answered, unless_closed}
use Rattle.cw_model.specs.Updates.{changes_row, without_lead}
use Rattle.cw_model.specs.Refusals.{behind_refusal, StaysOrLosesLead}

-- a refusal leaves what is said of it
refused-stays : {A : Type 0} (w : ℕ) (s : Cluster) (why : WorldFault) → StaysOrLosesLead {A = A} w s (refused why (behind_refusal w why s))
refused-stays w s why fault same = let one : why ≡ fault = cc in subst (λ f. behind_refusal w why s ≡ behind_refusal w f s) one refl

-- what is done isn't refused
unlike : {A : Type 0} (answer : A) (fault : WorldFault) → Ok answer ≡ Err fault → ⊥
unlike answer fault same = cc

-- an event that is done isn't refused
answered-stays : {A : Type 0} (w : ℕ) (s t : Cluster) (answer : A) → StaysOrLosesLead w s (answered answer t)
answered-stays w s t answer fault same = absurd (unlike answer fault same)

-- a leader's event that is refused where its generation isn't the newest, or a log is full
pub append_fence-stays : {A : Type 0} (w : ℕ) (s t : Cluster) (answer : A) (closed : Option (DiskName × ℕ)) (live leads newest room : Bool)
    (own last generation current size frame : ℕ) (log : LogName) → StaysOrLosesLead w s (unless_closed closed
    (if live then (if leads then (if newest then (if room then answered answer t else refused (Full log size frame) s)
    else refused (StaleGeneration generation current) s) else refused (Fenced own last) (changes_row w without_lead s)) else refused (Dead w) s) s)
append_fence-stays w s t answer (Some fault) live leads newest room own last generation current size frame log = refused-stays w s (Closed fault.0 fault.1)
append_fence-stays w s t answer None false leads newest room own last generation current size frame log = refused-stays w s (Dead w)
append_fence-stays w s t answer None true false newest room own last generation current size frame log = refused-stays w s (Fenced own last)
append_fence-stays w s t answer None true true false room own last generation current size frame log = refused-stays w s (StaleGeneration generation current)
append_fence-stays w s t answer None true true true false own last generation current size frame log = refused-stays w s (Full log size frame)
append_fence-stays w s t answer None true true true true own last generation current size frame log = answered-stays w s t answer
