use Rattle.std.proofs.Common.{◌≡◌, ℕ, zero, suc, ◌-◌, ◌<◌, List, [], ◌∷◌, ◌++◌, length, nat_eq, Bool, true, false, ◌&&◌, cond, Option, Some, None, refl, ap, ◌∙◌, arith}
use Rattle.std.proofs.lemmas.Bool.Decides.{nat_tests}
use Rattle.std.proofs.lemmas.Bool.{eq-eqb}
use Rattle.matchit.specs.Rows.{RowsOf, param_token, catch_all_token}
use Rattle.matchit.specs.Seek.{seek, first, step, or_else, param_step, segment, has_slash}
use Rattle.matchit.proofs.OnLiterals.{matchit_on_literals}
use Rattle.cw_route.specs.Spelled.{AreBytes}

module _ {K : Type 0} where
  -- rows behind a literal text
  abbrev pub under : List ℕ → RowsOf K → RowsOf K
  under t [] = []
  under t (r ∷ rs) = (t ++ r.0, r.1) ∷ under t rs

  pub none_at : (c : Bool) (len : ℕ) (path : List ℕ) → ((k : ℕ) → seek {K = K} k [] path ≡ None)
      → or_else {K = K} (seek ((cond {A = ℕ × RowsOf K} c (0, []) (len, [])).0 - 1) (cond {A = ℕ × RowsOf K} c (0, []) (len, [])).1 path) None ≡ None
  none_at true len path inner = rw (inner 0) refl
  none_at false len path inner = rw (inner (len - 1)) refl

  -- no rows, no route
  pub seek_none : (k : ℕ) (path : List ℕ) → seek {K = K} k [] path ≡ None
  unfolding matchit_on_literals
  seek_none k [] = refl
  seek_none (suc k) (b ∷ path) = seek_none k path
  seek_none zero (b ∷ path) = rw (seek_none 0 path) (none_at (cond (nat_eq b 47) true (has_slash path)) (suc (length path)) path (λ k. seek_none k path))

  pub step_same : (b : ℕ) (t : List ℕ) (rs : RowsOf K) → step b (under (b ∷ t) rs) ≡ under t rs
  step_same b t [] = refl
  step_same b t (r ∷ rs) = rw (eq-eqb b b refl, step_same b t rs) refl

  pub step_other : (x b : ℕ) (t : List ℕ) (rs : RowsOf K) → nat_eq b x ≡ false → step x (under (b ∷ t) rs) ≡ []
  step_other x b t [] other = refl
  step_other x b t (r ∷ rs) other = rw (other, step_other x b t rs other) refl

  pub or_none : (o : Option K) → or_else o None ≡ o
  or_none None = refl
  or_none (Some r) = refl

  -- what seek does at a byte, where the rows with it, with a parameter and with a catch-all are these
  pub byte_at : (b : ℕ) (rs next : RowsOf K) (path : List ℕ) → step b rs ≡ next → step param_token rs ≡ [] → step catch_all_token rs ≡ [] → seek 0 rs (b ∷ path) ≡ seek 0 next path
  unfolding matchit_on_literals
  byte_at b rs next path here param catch =
      rw (here, param, catch) (ap (or_else (seek 0 next path)) (none_at (cond (nat_eq b 47) true (has_slash path)) (suc (length path)) path (λ k. seek_none k path)) ∙ or_none (seek 0 next path))

  pub under_nothing : (rs : RowsOf K) → under [] rs ≡ rs
  under_nothing [] = refl
  under_nothing (r ∷ rs) = ap (λ (qs : RowsOf K). r ∷ qs) (under_nothing rs)

  -- a literal text is passed
  pub literal : (t : List ℕ) (rs : RowsOf K) (path : List ℕ) → AreBytes t → first (under t rs) (t ++ path) ≡ first rs path
  literal [] rs path small = ap (λ (qs : RowsOf K). first qs path) (under_nothing rs)
  literal (b ∷ t) rs path small =
      let low : b < 256 = small.0 in
      let no_param : nat_eq b 256 ≡ false = grind (arith, nat_tests) in
      let no_catch : nat_eq b 257 ≡ false = grind (arith, nat_tests) in
      byte_at b (under (b ∷ t) rs) (under t rs) (t ++ path) (step_same b t rs) (step_other param_token b t rs no_param) (step_other catch_all_token b t rs no_catch)
      ∙ literal t rs path small.1

  -- at a byte of a parameter, where no row goes on with that byte
  pub param_at : (c : ℕ) (cs : List ℕ) (rests more : RowsOf K) (taken : ℕ) → c < 256 → param_step rests (c ∷ cs) ≡ (taken, more) → (r : K) → seek (taken - 1) more cs ≡ Some r → seek 0 (under (param_token ∷ []) rests) (c ∷ cs) ≡ Some r
  unfolding seek
  param_at c cs rests more taken small steps r found =
      let other : nat_eq 256 c ≡ false = grind (arith, nat_tests) in
      rw (step_other c param_token [] rests other, step_same param_token [] rests, under_nothing rests, steps, found, seek_none 0 cs) refl

  -- bytes that a parameter took are passed over
  pub seek_skip : (rs : RowsOf K) (path rest : List ℕ) → seek (length path) rs (path ++ rest) ≡ seek 0 rs rest
  unfolding seek
  seek_skip rs [] rest = refl
  seek_skip rs (b ∷ path) rest = seek_skip rs path rest

-- a segment with no slash is whole, and ends with none
pub segment_at : (c : ℕ) (cs : List ℕ) (b : Bool) → nat_eq c 47 ≡ b → cond b true (has_slash cs) ≡ false → segment cs ≡ cs → segment (c ∷ cs) ≡ c ∷ cs
segment_at c cs true same h inner = cc
segment_at c cs false same h inner = rw (same, inner) refl

pub no_slash_after : (c : ℕ) (cs : List ℕ) → has_slash (c ∷ cs) ≡ false → has_slash cs ≡ false
no_slash_after c cs h = at (nat_eq c 47) h
  where
    at : (b : Bool) → cond b true (has_slash cs) ≡ false → has_slash cs ≡ false
    at true e = cc
    at false e = e

pub segment_whole : (n : List ℕ) → has_slash n ≡ false → segment n ≡ n
segment_whole [] h = refl
segment_whole (c ∷ cs) h = segment_at c cs (nat_eq c 47) refl h (segment_whole cs (no_slash_after c cs h))

both : (a b : Bool) → (a && b) ≡ true → (a ≡ true) × (b ≡ true)
both true b e = (refl, e)
both false b e = cc

module _ {K : Type 0} where
  abbrev pub is_empty : RowsOf K → Bool
  is_empty [] = true
  is_empty (r ∷ rs) = false

  -- the rows that go on with a text
  abbrev pub steps : List ℕ → RowsOf K → RowsOf K
  steps [] rs = rs
  steps (b ∷ t) rs = steps t (step b rs)

  -- no parameter stands beside a byte of the text
  abbrev pub is_plainly : List ℕ → RowsOf K → Bool
  is_plainly [] rs = true
  is_plainly (b ∷ t) rs = (is_empty (step param_token rs) && is_empty (step catch_all_token rs)) && is_plainly t (step b rs)

  empty_is : (rs : RowsOf K) → is_empty rs ≡ true → rs ≡ []
  empty_is [] e = refl
  empty_is (r ∷ rs) e = cc

  -- a text is passed, and the rows that go on with it are left
  pub pass : (t : List ℕ) (rs : RowsOf K) (path : List ℕ) → is_plainly t rs ≡ true → first rs (t ++ path) ≡ first (steps t rs) path
  pass [] rs path e = refl
  pass (b ∷ t) rs path e =
      let parts = both _ (is_plainly t (step b rs)) e in
      let none = both (is_empty (step param_token rs)) (is_empty (step catch_all_token rs)) parts.0 in
      byte_at b rs (step b rs) (t ++ path) refl (empty_is _ none.0) (empty_is _ none.1) ∙ pass t (step b rs) path parts.1
