-- What a call answers where an earlier one ended it.
use Rattle.std.proofs.Common.{◌≡◌, ℕ, Result, Ok, Err, OnErr, sym, ap, ◌∙◌}
use Rattle.std.specs.Result.{IsErrAnd}
use Rattle.cw_http.specs.declared.request.HttpFault.{HttpFault}
use Rattle.cw_http.specs.declared.request.HttpFault.TheVariants as http
use Rattle.cw_http.specs.declared.reading.ReadFault.{ReadFault}
use Rattle.cw_http.specs.declared.reading.ReadFault.TheVariants as read
use Rattle.cw_http.specs.Faults.{fault_of}

pub on_err : {T E P : Type 0} (r : Result T E) → P → OnErr r P
on_err (Ok _) p = tt
on_err (Err _) p = p

err_or : {T E : Type 0} → E → Result T E → E
err_or e (Ok x) = e
err_or e (Err f) = f

same_err : {T E : Type 0} (r : Result T E) (a b : E) → r ≡ Err a → r ≡ Err b → a ≡ b
unfolding err_or
same_err r a b first second = ap (err_or a) (sym first ∙ second)

-- the same fault came from the earlier call
pub passed_on : {T U E : Type 0} (r : Result T E) (s : Result U E) (e fault : E) → r ≡ Err e → IsErrAnd s (λ f. f ≡ e) → s ≡ Err fault → r ≡ Err fault
passed_on r (Ok u) e fault was p same = cc
passed_on r (Err f) e fault was p same = was ∙ ap Err (sym p ∙ same_err (Err f) f fault (λ i. Err f) same)

-- the link's end, where the fault of a body ended the call
pub ended_on : {T U : Type 0} (r : Result T ReadFault) (s : Result U HttpFault) (e : ReadFault) → r ≡ Err e → IsErrAnd s (λ f. f ≡ fault_of e) → s ≡ Err http.Ended → r ≡ Err read.Ended
ended_on r (Ok u) e was p same = cc
ended_on r (Err f) read.Ended was p same = was
ended_on r (Err f) read.Failed was p same = cc
ended_on r (Err f) read.Memory was p same = cc

code_of : HttpFault → ℕ
code_of (http.Bad code) = code
code_of _ = 0

-- the code of the refusal
pub bad_is : {T : Type 0} (r : Result T HttpFault) (a b : ℕ) → r ≡ Err (http.Bad a) → r ≡ Err (http.Bad b) → a ≡ b
unfolding code_of
bad_is r a b first second = ap code_of (same_err r (http.Bad a) (http.Bad b) first second)
