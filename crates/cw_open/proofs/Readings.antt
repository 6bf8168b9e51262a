-- Whether a record is one of the status log, by what its key and its value are read as.
use Rattle.std.proofs.Common.{◌≡◌, ◌↔◌, Bool, true, false, IsTrue, List, ℕ, Option, Some, None, Result, Ok, Err, IsSome, option_and_then, refl, sym, ap, subst, ◌∙◌}
use Rattle.std.specs.Result.{IsOk}
use Rattle.cw_types.specs.declared.ids.Item.{Item}
use Rattle.cw_bytes.specs.declared.applied.Applied.{Applied}
use Rattle.cw_keys.specs.declared.fault.KeyFault.{KeyFault}
use Rattle.cw_keys.specs.declared.status.StatusValue.{StatusValue}
use Rattle.cw_keys.specs.Statuses.{status_of}
use Rattle.cw_status.specs.Compaction.{record_in, record_with}

some_ok : (a : Applied) (r : Result (Item × StatusValue) KeyFault) → IsOk r → IsSome (record_with a r)
some_ok a (Ok read) ok = refl
some_ok a (Err fault) ok = absurd (cc)

ok_some : (a : Applied) (r : Result (Item × StatusValue) KeyFault) → IsSome (record_with a r) → IsOk r
ok_some a (Ok read) some = refl
ok_some a (Err fault) some = absurd (cc)

pub status_is : (a : Applied) (text : List ℕ) → a.value ≡ Some text → (b : Bool) → (IsTrue b ↔ IsOk (status_of a.key text)) → IsTrue b ↔ IsSome (record_in a)
status_is a text there b test = (
  λ is. subst (λ o. IsSome (option_and_then (λ t. record_with a (status_of a.key t)) o)) (sym there) (some_ok a (status_of a.key text) (test.0 is)),
  λ some. test.1 (ok_some a (status_of a.key text) (subst (λ o. IsSome (option_and_then (λ t. record_with a (status_of a.key t)) o)) there some)),
)
