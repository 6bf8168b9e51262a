-- Phrases of codes.
use Rattle.std.proofs.Common.{◌≡◌, ℕ, Bool, true, false, List, [], unwrap_or, if◌then◌else◌, ⊎_elim, ap, ◌∙◌, arith}
use Rattle.std.proofs.lemmas.Bool.{cases_lt}
use Rattle.std.proofs.lemmas.Bool.Decides.{nat_tests}
use Rattle.std.specs.Prelude.{nat_lt}
use Rattle.http.specs.StatusCode.{reason_phrase, IsStatusCode}
use Rattle.cw_http.specs.Replies.{phrase}

tested : (a b : Bool) (p : List ℕ) → List ℕ
tested a b p = if a then [] else if b then [] else p

pub phrase_of : (code : ℕ) → IsStatusCode code → phrase code ≡ unwrap_or (reason_phrase code) []
unfolding phrase tested
phrase_of code is =
    let p : List ℕ = unwrap_or (reason_phrase code) [] in
    let low : nat_lt code 100 ≡ false = grind (arith, nat_tests, is.0) in
    let high : nat_lt 999 code ≡ false = grind (arith, nat_tests, is.1) in
    ap (λ a. tested a (nat_lt 999 code) p) low ∙ ap (λ b. tested false b p) high

pub no_phrase : (code : ℕ) → (IsStatusCode code → ⊥) → phrase code ≡ []
unfolding phrase tested
no_phrase code never =
    let p : List ℕ = unwrap_or (reason_phrase code) [] in
    ⊎_elim (λ low. let test : nat_lt code 100 ≡ true = grind (arith, nat_tests, low) in ap (λ a. tested a (nat_lt 999 code) p) test)
    (λ more. ⊎_elim (λ fits. absurd (never (more, fits)))
    (λ high. let low : nat_lt code 100 ≡ false = grind (arith, nat_tests, more) in
    let test : nat_lt 999 code ≡ true = grind (arith, nat_tests, high) in
    ap (λ a. tested a (nat_lt 999 code) p) low ∙ ap (λ b. tested false b p) test)
    (cases_lt code 1000))
    (cases_lt code 100)
