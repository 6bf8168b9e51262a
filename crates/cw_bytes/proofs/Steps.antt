-- Reading step by step: what a step that didn't fail took, and what is taken in two steps.
use Rattle.std.proofs.Common.{◌≡◌, ℕ, suc, ◌+◌, Bool, true, false, cond, List, [], ◌∷◌, ◌++◌, length, Result, Ok, Err, refl, sym, ap, subst, ◌∙◌, append_assoc, arith, length-append, ◌⊎◌, inl, inr}
use Rattle.cw_bytes.specs.declared.fault.FieldFault.{FieldFault}
use Rattle.cw_bytes.specs.Unread.{Unread, AreBytes, Takes}
use Rattle.cw_bytes.specs.Reading.{◌>>=◌, Read, first_of, byte_at}

-- the value of a step that did not fail
pub bind_ok : {A B : Type 0} (r : Result A FieldFault) (f : A → Result B FieldFault) (y : B) → (r >>= f) ≡ Ok y → (x : A) × (r ≡ Ok x) × (f x ≡ Ok y)
bind_ok (Ok x) f y e = (x, refl, e)
bind_ok (Err d) f y e = absurd cc

-- the branch that a test chose
pub chosen : {A : Type 0} (b : Bool) (x y z : A) → cond b x y ≡ z → ((b ≡ true) × (x ≡ z)) ⊎ ((b ≡ false) × (y ≡ z))
chosen true x y z e = inl (refl, e)
chosen false x y z e = inr (refl, e)

-- a test that did not fail
pub guard_ok : {A : Type 0} (b : Bool) (d : FieldFault) (x : Result A FieldFault) (y : A) → cond b (Err d) x ≡ Ok y → (b ≡ false) × (x ≡ Ok y)
guard_ok true d x y e = absurd cc
guard_ok false d x y e = (refl, e)

abbrev pub done : {A : Type 0} → A → Result A FieldFault
done x = Ok x

pub no_value : {A : Type 0} (e : FieldFault) (y : A) → Err e ≡ done y → ⊥
no_value e y same = cc

pub ok_is : {A : Type 0} (x y : A) → done x ≡ done y → x ≡ y
ok_is x y e = cc

-- a field was taken, and bytes are left
pub record Passes (field : List ℕ) (from next : Unread) : Type 0 where
  pub takes : Takes field from next
  pub left : AreBytes next.rest

pub Takes-then : (x y : List ℕ) (a b c : Unread) → Takes x a b → Takes y b c → Takes (x ++ y) a c
Takes-then x y a b c p q = record {
  spelled = p.spelled ∙ ap (λ (t : List ℕ). x ++ t) q.spelled ∙ sym (append_assoc x y c.rest);
  place = omega (arith, p.place, q.place, length-append x y);
}

pub Passes-then : (x y : List ℕ) (a b c : Unread) → Passes x a b → Passes y b c → Passes (x ++ y) a c
Passes-then x y a b c p q = record { takes = Takes-then x y a b c p.takes q.takes; left = q.left }

-- between two fields
abbrev pub between : List ℕ → List ℕ → Unread → Unread → Unread
between x y from next = record { place = from.place + length x; rest = y ++ next.rest }

pub Takes-first : (x y : List ℕ) (from next : Unread) → Takes (x ++ y) from next → Takes x from (between x y from next)
Takes-first x y from next t = record { spelled = t.spelled ∙ append_assoc x y next.rest; place = refl }

pub Takes-second : (x y : List ℕ) (from next : Unread) → Takes (x ++ y) from next → Takes y (between x y from next) next
Takes-second x y from next t = record { spelled = refl; place = omega (arith, t.place, length-append x y) }

-- what reads a spelled field at each place reads it where it is taken
pub from_takes : {A : Type 0} (at : Unread → Read A) (field : List ℕ) (a : A) → ((place : ℕ) (rest : List ℕ) → at (record { place = place; rest = field ++ rest }) ≡ Ok (a, record { place = place + length field; rest = rest }))
    → (from next : Unread) → Takes field from next → at from ≡ Ok (a, next)
from_takes at field a reads from next t =
    ap (λ (r : List ℕ). at (record { place = from.place; rest = r })) t.spelled ∙ reads from.place next.rest ∙ ap (λ (p : ℕ). done (a, record { place = p; rest = next.rest })) (sym t.place)

first_takes : (place : ℕ) (rest : List ℕ) (b : ℕ) (next : Unread) → AreBytes rest → first_of place rest ≡ Ok (b, next) → Passes (b ∷ []) (record { place = place; rest = rest }) next
first_takes place [] b next fits e = absurd cc
first_takes place (x ∷ rest) b next fits e =
    subst (λ (y : ℕ × Unread). Passes (y.0 ∷ []) (record { place = place; rest = x ∷ rest }) y.1) (ok_is (x, record { place = place + 1; rest = rest }) (b, next) e)
    (record { takes = record { spelled = refl; place = refl }; left = λ i. fits (suc i) })

pub byte_takes : (from : Unread) (b : ℕ) (next : Unread) → AreBytes from.rest → byte_at from ≡ Ok (b, next) → Passes (b ∷ []) from next
byte_takes from b next fits e = first_takes from.place from.rest b next fits e

pub byte_again : (b : ℕ) (from next : Unread) → Takes (b ∷ []) from next → byte_at from ≡ Ok (b, next)
byte_again b = from_takes byte_at (b ∷ []) b (λ place rest. refl)

-- a field behind its kind
pub with_kind : (k n : ℕ) (field : List ℕ) (from mid next : Unread) → k ≡ n → Passes (k ∷ []) from mid → Passes field mid next → Passes (n ∷ field) from next
with_kind k n field from mid next is kind p = subst (λ (b : ℕ). Passes (b ∷ field) from next) is (Passes-then (k ∷ []) field from mid next kind p)

-- two fields, one behind the other, that make one value
module _ {A B C : Type 0} (at_a : Unread → Read A) (at_b : Unread → Read B) (make : A → B → C) (bytes_a : A → List ℕ) (bytes_b : B → List ℕ) (is_a : A → Type 0) (is_b : B → Type 0)
    (takes_a : (from : Unread) (a : A) (next : Unread) → AreBytes from.rest → at_a from ≡ Ok (a, next) → Passes (bytes_a a) from next × is_a a)
    (takes_b : (from : Unread) (b : B) (next : Unread) → AreBytes from.rest → at_b from ≡ Ok (b, next) → Passes (bytes_b b) from next × is_b b)
    (again_a : (a : A) → is_a a → (from next : Unread) → Takes (bytes_a a) from next → at_a from ≡ Ok (a, next))
    (again_b : (b : B) → is_b b → (from next : Unread) → Takes (bytes_b b) from next → at_b from ≡ Ok (b, next)) where
  abbrev pub both_at : Unread → Read C
  both_at from = at_a from >>= λ a. at_b a.1 >>= λ b. Ok (make a.0 b.0, b.1)

  -- what both are of a value that was read
  pub record Both (from : Unread) (c : C) (next : Unread) : Type 0 where
    pub a : A
    pub b : B
    pub made : make a b ≡ c
    pub passes : Passes (bytes_a a ++ bytes_b b) from next
    pub has_a : is_a a
    pub has_b : is_b b

  pub both_takes : (from : Unread) (c : C) (next : Unread) → AreBytes from.rest → both_at from ≡ Ok (c, next) → Both from c next
  both_takes from c next fits e =
      let x = bind_ok (at_a from) (λ a. at_b a.1 >>= λ b. Ok (make a.0 b.0, b.1)) (c, next) e in
      let y = bind_ok (at_b x.0.1) (λ b. Ok (make x.0.0 b.0, b.1)) (c, next) x.2 in
      let p = takes_a from x.0.0 x.0.1 fits x.1 in
      let q = takes_b x.0.1 y.0.0 y.0.1 p.0.left y.1 in
      let is = ok_is (make x.0.0 y.0.0, y.0.1) (c, next) y.2 in
      record {
        a = x.0.0;
        b = y.0.0;
        made = ap (λ (z : C × Unread). z.0) is;
        passes = subst (λ (n : Unread). Passes (bytes_a x.0.0 ++ bytes_b y.0.0) from n) (ap (λ (z : C × Unread). z.1) is) (Passes-then (bytes_a x.0.0) (bytes_b y.0.0) from x.0.1 y.0.1 p.0 q.0);
        has_a = p.1;
        has_b = q.1;
      }

  pub both_again : (a : A) (b : B) → is_a a → is_b b → (from next : Unread) → Takes (bytes_a a ++ bytes_b b) from next → both_at from ≡ Ok (make a b, next)
  both_again a b has_a has_b from next takes =
      ap (λ r. r >>= λ (x : A × Unread). at_b x.1 >>= λ y. done (make x.0 y.0, y.1)) (again_a a has_a from (between (bytes_a a) (bytes_b b) from next) (Takes-first (bytes_a a) (bytes_b b) from next takes))
      ∙ ap (λ r. r >>= λ (y : B × Unread). done (make a y.0, y.1)) (again_b b has_b (between (bytes_a a) (bytes_b b) from next) next (Takes-second (bytes_a a) (bytes_b b) from next takes))

-- a value behind its kind
pub kind_again : {A : Type 0} (k : ℕ) (field : List ℕ) (f : ℕ × Unread → Read A) (y : A × Unread) (from next : Unread) → Takes (k ∷ field) from next
    → ((mid : Unread) → Takes field mid next → f (k, mid) ≡ Ok y) → (byte_at from >>= f) ≡ Ok y
kind_again k field f y from next takes then =
    ap (λ r. r >>= f) (byte_again k from (between (k ∷ []) field from next) (Takes-first (k ∷ []) field from next takes)) ∙ then (between (k ∷ []) field from next) (Takes-second (k ∷ []) field from next takes)
