-- What a changed row of a table says.
use Rattle.std.proofs.Common.{◌≡◌, Bool, true, false, cond, Option, Some, unwrap_or, refl, sym, ap, ◌∙◌}
use Rattle.std.specs.Bool.{Decides}

-- a table's row that was set, where a missing one reads as m
unwrap_or-cond : {A : Type 0} (b : Bool) (now was : Option A) (row m : A) → now ≡ cond b (Some row) was → unwrap_or now m ≡ cond b row (unwrap_or was m)
unwrap_or-cond true now was row m e = ap (λ o. unwrap_or o m) e
unwrap_or-cond false now was row m e = ap (λ o. unwrap_or o m) e

-- rows that agree where they are taken
cond_agrees : {A : Type 0} (b : Bool) (x y z : A) → (b ≡ true → x ≡ y) → cond b x z ≡ cond b y z
cond_agrees true x y z same = same refl
cond_agrees false x y z same = refl

-- a table whose look-up ties just the same keys, and in which a key without a row has m
module _ {T K A : Type 0} (look : T → K → Option A) (ties same : K → K → Bool) (at : (a b : K) → ties a b ≡ same a b)
    (flip : (a b : K) → same a b ≡ same b a) (tells : (a b : K) → Decides (same a b) (a ≡ b)) (m : A) where
  abbrev value : T → K → A
  value table q = unwrap_or (look table q) m

  module _ (old new : T) (key : K) (row : A) (set : (q : K) → look new q ≡ cond (ties key q) (Some row) (look old q)) where
    -- the value at each key behind a row that was set
    pub value-set : (q : K) → value new q ≡ cond (same q key) row (value old q)
    value-set q =
        unwrap_or-cond (ties key q) (look new q) (look old q) row m (set q)
        ∙ ap (λ (b : Bool). cond b row (value old q)) (at key q ∙ flip key q)

    -- the same, where the row is made of the one before it
    pub value-moved : (f : A → A) → row ≡ f (value old key) → (q : K) → value new q ≡ cond (same q key) (f (value old q)) (value old q)
    value-moved f is q = value-set q ∙ cond_agrees (same q key) row (f (value old key)) (value old q) (λ one. is) ∙ cond_agrees (same q key) (f (value old key)) (f (value old q)) (value old q)
        (λ one. ap (λ (k : K). f (value old k)) (sym ((tells q key).0 one)))
