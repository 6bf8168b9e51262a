-- What a config state has once it has taken a record.
use Rattle.std.proofs.Common.{◌≡◌, ℕ, ◌+◌, Bool, true, false, List, [], ◌∷◌, ◌++◌, length, Option, Some, None, ap, sym, ◌∙◌, subst, length-append}
use Rattle.std.specs.Prelude.{option_and_then, if◌then◌else◌}
use Rattle.std.specs.List.{cons_option}
use Rattle.cw_bytes.specs.declared.applied.Applied.{Applied}
use Rattle.cw_config.specs.declared.records.ConfigRecord.{ConfigRecord}
use Rattle.cw_config.specs.Acceptance.{applied, followed_by, may_follow}
use Rattle.cw_config.specs.Compaction.{config_in}

-- these are the records, with one more
abbrev pub Adds : List ConfigRecord → Option ConfigRecord → List ConfigRecord → Type 0
Adds state one next = (next ≡ state ++ cons_option one []) × (length next ≡ length state + 1)

chosen : (b : Bool) (xs next : List ConfigRecord) → (if b then Some xs else None) ≡ Some next → xs ≡ next
chosen true xs next e = cc
chosen false xs next e = absurd cc

follows : (state next : List ConfigRecord) (one : Option ConfigRecord) → option_and_then (followed_by state) one ≡ Some next → Adds state one next
follows state next None e = absurd cc
follows state next (Some r) e =
    let is : state ++ r ∷ [] ≡ next = chosen (may_follow state r) (state ++ r ∷ []) next e in
    (sym is, sym (ap length is) ∙ length-append state (r ∷ []))

pub applied_adds : (state next : List ConfigRecord) (a : Applied) (key : List ℕ) (value : Option (List ℕ)) → key ≡ a.key → value ≡ a.value
    → applied state a.offset a.stamp key value ≡ Some next → Adds state (config_in a) next
applied_adds state next a key value is_key is_value e =
    let P : List ℕ → Type 0 = λ k. applied state a.offset a.stamp k value ≡ Some next in
    let Q : Option (List ℕ) → Type 0 = λ v. applied state a.offset a.stamp a.key v ≡ Some next in
    follows state next (config_in a) (subst Q is_value (subst P is_key e))
