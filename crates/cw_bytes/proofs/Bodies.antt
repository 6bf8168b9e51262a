-- A body is a value and nothing behind it: what is read is spelled so, and what is spelled so is read.
use Rattle.std.proofs.Common.{◌≡◌, ℕ, Bool, true, false, cond, eqb, List, [], ◌++◌, length, Some, None, Result, Ok, Err, refl, sym, ap, ◌∙◌, arith}
use Rattle.std.specs.Prelude.{◌≢◌, MatchResult, IfOk}
use Rattle.std.proofs.lemmas.Bool.{eqb-true}
use Rattle.std.proofs.lemmas.List.{append-nil, nil_from_length}
use Rattle.cw_bytes.specs.declared.body.BodyFault.{BodyFault}
use Rattle.cw_bytes.specs.declared.body.BodyFault.TheVariants.{NotBody, Memory}
use Rattle.cw_bytes.specs.Unread.{Unread, AreBytes, Takes}
use Rattle.cw_bytes.specs.Reading.{Read, ended, body_at}
use Rattle.cw_bytes.proofs.Steps.{done, Passes}

some_if : {A : Type 0} (b : Bool) (x y : A) → cond b (Some x) None ≡ Some y → (b ≡ true) × (x ≡ y)
some_if true x y e = (refl, cc)
some_if false x y e = absurd cc

ended_some : {A : Type 0} (r : Read A) (a : A) → ended r ≡ Some a → (next : Unread) × (r ≡ Ok (a, next)) × (next.rest ≡ [])
ended_some (Ok read) a e =
    let s = some_if (eqb (length read.1.rest) 0) read.0 a e in
    (read.1, ap (λ x. done (x, read.1)) s.1, nil_from_length read.1.rest (eqb-true (length read.1.rest) 0 s.0))
ended_some (Err fault) a e = absurd cc

module _ {A : Type 0} (at : Unread → Read A) (bytes : A → List ℕ) (is : A → Type 0)
    (takes : (from : Unread) (a : A) (next : Unread) → AreBytes from.rest → at from ≡ Ok (a, next) → Passes (bytes a) from next × is a)
    (again : (a : A) → is a → (from next : Unread) → Takes (bytes a) from next → at from ≡ Ok (a, next)) where
  pub body_takes : (body : List ℕ) (a : A) → AreBytes body → body_at at body ≡ Some a → is a × (body ≡ bytes a)
  body_takes body a fits e =
      let start : Unread = record { place = 0; rest = body } in
      let s = ended_some (at start) a e in
      let t = takes start a s.0 fits s.1 in
      (t.1, t.0.takes.spelled ∙ ap (λ (r : List ℕ). bytes a ++ r) s.2 ∙ append-nil (bytes a))

  pub body_again : (a : A) → is a → body_at at (bytes a) ≡ Some a
  body_again a has =
      let start : Unread = record { place = 0; rest = bytes a } in
      let past_all : Unread = record { place = length (bytes a); rest = [] } in
      ap ended (again a has start past_all (record { spelled = sym (append-nil (bytes a)); place = omega arith }))

  some_is : (x y : A) → Some x ≡ Some y → x ≡ y
  some_is x y e = cc

  none_isnt : (x : A) → None ≡ Some x → ⊥
  none_isnt x e = cc

  -- what a call answered that reads such a body
  module _ {X : Type 0} (view : X → A) where
    abbrev pub Answers : List ℕ → Result X BodyFault → Type 0
    Answers body r = MatchResult r (λ x. body_at at body ≡ Some (view x)) (λ fault. fault ≢ Memory → body_at at body ≡ None)

    pub is_found : (body : List ℕ) (r : Result X BodyFault) → AreBytes body → Answers body r → IfOk r (λ x. is (view x) × (body ≡ bytes (view x)))
    is_found body (Ok x) fits answers = body_takes body (view x) fits answers
    is_found body (Err fault) fits answers = tt

    pub is_only : (body : List ℕ) (r : Result X BodyFault) (a : A) → is a → body ≡ bytes a → Answers body r → IfOk r (λ x. view x ≡ a)
    is_only body (Ok x) a has spelled answers =
        let there : body_at at body ≡ Some a = ap (body_at at) spelled ∙ body_again a has in
        some_is (view x) a (sym answers ∙ there)
    is_only body (Err fault) a has spelled answers = tt

    pub not_refused : (body : List ℕ) (r : Result X BodyFault) (a : A) → is a → body ≡ bytes a → Answers body r → r ≡ Err NotBody → ⊥
    not_refused body (Ok x) a has spelled answers e = cc
    not_refused body (Err NotBody) a has spelled answers e =
        let there : body_at at body ≡ Some a = ap (body_at at) spelled ∙ body_again a has in
        none_isnt a (sym (answers (λ same. cc)) ∙ there)
    not_refused body (Err Memory) a has spelled answers e = cc
