-- A fact of a result's value or of its error, by a weaker one.
use Rattle.std.proofs.Common.{◌≡◌, Result, Ok, Err, OnOk, IfErr, refl}

pub on_ok : {T E : Type 0} (r : Result T E) (A B : Type 0) → (A → B) → OnOk r A → OnOk r B
on_ok (Ok _) A B f is = f is
on_ok (Err _) A B f is = tt

pub on_both : {T E : Type 0} (r : Result T E) (A B C : Type 0) → (A → B → C) → OnOk r A → OnOk r B → OnOk r C
on_both (Ok _) A B C f is too = f is too
on_both (Err _) A B C f is too = tt

pub if_err : {T E : Type 0} (r : Result T E) (P Q : E → Type 0) → ((e : E) → P e → Q e) → IfErr r P → IfErr r Q
if_err (Ok _) P Q f is = tt
if_err (Err e) P Q f is = f e is

-- the same by the equation
pub if_after : {T E : Type 0} (r : Result T E) (P : E → Type 0) → ((e : E) → r ≡ Err e → P e) → IfErr r P
if_after (Ok _) P f = tt
if_after (Err e) P f = f e refl
