use Rattle.std.proofs.Common.{◌≡◌, ◌⊎◌, inl, inr, ℕ, zero, suc, ◌-◌, ◌<◌, List, [], ◌∷◌, ◌++◌, length, length-append, drop, nat_eq, Bool, true, false, ◌&&◌, cond, ltb, Option, Some, None, refl, sym, ap, subst, ◌∙◌, append-nil, arith}
use Rattle.std.proofs.lemmas.Bool.Decides.{nat_tests}
use Rattle.std.proofs.lemmas.Option.{same_Some}
use Rattle.std.proofs.lemmas.List.{drop_at}
use Rattle.matchit.specs.Rows.{RowsOf, param_token, catch_all_token}
use Rattle.matchit.specs.Seek.{seek, own, step, or_else, param_step, segment, has_slash, longest_suffix, longest_from, better, cuts, with_suffix, same_text}
use Rattle.cw_route.specs.Spelled.{IsSegment, AreBytes}
use Rattle.cw_route.proofs.Spells.{seek_none, segment_whole}
use Rattle.cw_route.proofs.Levels.{no_cut, segment_to}

-- a path as a pattern spells it with these parts
abbrev pub spell : List ℕ → List (List ℕ) → List ℕ
spell [] parts = []
spell (x ∷ t) [] = x ∷ spell t []
spell (x ∷ t) (p ∷ ps) = cond (nat_eq x 256) (p ++ spell t ps) (x ∷ spell t (p ∷ ps))

-- how many parameters a pattern has
abbrev pub holes : List ℕ → ℕ
holes [] = 0
holes (x ∷ t) = cond (nat_eq x 256) (suc (holes t)) (holes t)

abbrev pub AreSegments : List (List ℕ) → Type 0
AreSegments [] = Unit {0}
AreSegments (p ∷ ps) = IsSegment p × AreSegments ps

-- the path is spelled by the pattern, with a segment for each parameter
pub record Spelled (t path : List ℕ) : Type 0 where
  pub parts : List (List ℕ)
  pub many : length parts ≡ holes t
  pub segments : AreSegments parts
  pub text : path ≡ spell t parts

-- a text is empty or begins with a slash
abbrev pub ends_part : List ℕ → Bool
ends_part [] = true
ends_part (x ∷ t) = nat_eq x 47

-- no catch-all, and behind each parameter the end or a slash
abbrev pub is_well : List ℕ → Bool
is_well [] = true
is_well (x ∷ t) = cond (nat_eq x 257) false (cond (nat_eq x 256) (ends_part t && is_well t) (is_well t))

both : (a b : Bool) → (a && b) ≡ true → (a ≡ true) × (b ≡ true)
both true b e = (refl, e)
both false b e = cc

spell_byte : (x : ℕ) (t : List ℕ) (parts : List (List ℕ)) → nat_eq x 256 ≡ false → spell (x ∷ t) parts ≡ x ∷ spell t parts
spell_byte x t [] e = refl
spell_byte x t (p ∷ ps) e = rw e refl

-- one more byte
spelled_byte : (x : ℕ) (t path : List ℕ) → x < 256 → Spelled t path → Spelled (x ∷ t) (x ∷ path)
spelled_byte x t path small s =
    let other : nat_eq x 256 ≡ false = grind (arith, nat_tests) in
    record { parts = s.parts; many = s.many ∙ sym (rw other refl); segments = s.segments; text = ap (λ ys. x ∷ ys) s.text ∙ sym (spell_byte x t s.parts other) }

-- one more parameter
spelled_part : (t path front back : List ℕ) → IsSegment front → path ≡ front ++ back → Spelled t back → Spelled (param_token ∷ t) path
spelled_part t path front back whole is s =
    record { parts = front ∷ s.parts; many = ap suc s.many; segments = (whole, s.segments); text = is ∙ ap (λ ys. front ++ ys) s.text }

spelled_end : Spelled [] []
spelled_end = record { parts = []; many = refl; segments = tt; text = refl }

well_tail : (x : ℕ) (t : List ℕ) (a b : Bool) → nat_eq x 257 ≡ a → nat_eq x 256 ≡ b → is_well (x ∷ t) ≡ true → is_well t ≡ true
well_tail x t true b ea eb e = let no : is_well (x ∷ t) ≡ false = rw ea refl in cc
well_tail x t false true ea eb e = let is : is_well (x ∷ t) ≡ (ends_part t && is_well t) = rw (ea, eb) refl in (both _ _ (sym is ∙ e)).1
well_tail x t false false ea eb e = let is : is_well (x ∷ t) ≡ is_well t = rw (ea, eb) refl in sym is ∙ e

part_end : (x : ℕ) (t : List ℕ) → nat_eq x 256 ≡ true → is_well (x ∷ t) ≡ true → ends_part t ≡ true
part_end x t eb e =
    let ea : nat_eq x 257 ≡ false = grind (arith, nat_tests, eb) in
    let is : is_well (x ∷ t) ≡ (ends_part t && is_well t) = rw (ea, eb) refl in
    (both _ _ (sym is ∙ e)).0

not_catch : (x : ℕ) (t : List ℕ) (a : Bool) → nat_eq x 257 ≡ a → is_well (x ∷ t) ≡ true → nat_eq x 257 ≡ false
not_catch x t true ea e = let no : is_well (x ∷ t) ≡ false = rw ea refl in cc
not_catch x t false ea e = ea

-- the longest suffix is none, or the slash that the segment ends with
abbrev Good : List ℕ → List ℕ → Type 0
Good seg best = (best ≡ []) ⊎ ((best ≡ 47 ∷ []) × (cuts seg (47 ∷ []) ≡ true))

pick : (seg s best : List ℕ) (a b : Bool) → Good seg best → (b ≡ true → Good seg s) → Good seg (cond (a && b) s best)
pick seg s best true true g f = f refl
pick seg s best true false g f = g
pick seg s best false b g f = g

slash_segment : (x : ℕ) (t : List ℕ) → nat_eq x 47 ≡ true → segment (x ∷ t) ≡ 47 ∷ []
slash_segment x t e = let is : x ≡ 47 = grind (arith, nat_tests, e) in rw e (ap (λ y. y ∷ []) is)

good_next : (seg best t : List ℕ) → ends_part t ≡ true → Good seg best → Good seg (better seg best (segment t))
good_next seg best [] e g = pick seg [] best (ltb (length best) 0) (cuts seg []) g (λ _. inl refl)
good_next seg best (x ∷ t) e g =
    let is : segment (x ∷ t) ≡ 47 ∷ [] = slash_segment x t e in
    pick seg (segment (x ∷ t)) best (ltb (length best) (length (segment (x ∷ t)))) (cuts seg (segment (x ∷ t))) g (λ yes. inr (is, ap (cuts seg) (sym is) ∙ yes))

front_bytes : (front back : List ℕ) → AreBytes (front ++ back) → AreBytes front
front_bytes [] back h = tt
front_bytes (c ∷ cs) back h = (h.0, front_bytes cs back h.1)

-- the bytes before the first slash, and those behind it
split_at : (n : List ℕ) → has_slash n ≡ true → (front : List ℕ) × (back : List ℕ) × (n ≡ front ++ 47 ∷ back) × (has_slash front ≡ false)
split_at [] h = cc
split_at (c ∷ cs) h = at (nat_eq c 47) refl h (λ later. split_at cs later)
  where
    at : (b : Bool) → nat_eq c 47 ≡ b → cond b true (has_slash cs) ≡ true → (has_slash cs ≡ true → (front : List ℕ) × (back : List ℕ) × (cs ≡ front ++ 47 ∷ back) × (has_slash front ≡ false))
        → (front : List ℕ) × (back : List ℕ) × (c ∷ cs ≡ front ++ 47 ∷ back) × (has_slash front ≡ false)
    at true same h later = let is : c ≡ 47 = grind (arith, nat_tests, same) in ([], cs, ap (λ y. y ∷ cs) is, refl)
    at false same h later = let more = later h in (c ∷ more.0, more.1, ap (λ ys. c ∷ ys) more.2, rw (same, more.3) refl)

some_front : (front : List ℕ) → cuts (front ++ 47 ∷ []) (47 ∷ []) ≡ true → 0 < length front
some_front [] e = cc
some_front (c ∷ cs) e = omega arith

module _ {K : Type 0} where
  abbrev pub AllWell : RowsOf K → Type 0
  AllWell [] = Unit {0}
  AllWell (q ∷ rs) = (is_well q.0 ≡ true) × AllWell rs

  abbrev AllEnd : RowsOf K → Type 0
  AllEnd [] = Unit {0}
  AllEnd (q ∷ rs) = (ends_part q.0 ≡ true) × AllEnd rs

  -- one of the rows
  abbrev pub Among : List ℕ → K → RowsOf K → Type 0
  Among t r [] = ⊥
  Among t r (q ∷ rs) = ((q.0 ≡ t) × (q.1 ≡ r)) ⊎ Among t r rs

  among_step : (b : ℕ) (t : List ℕ) (r : K) (rs : RowsOf K) → Among t r (step b rs) → Among (b ∷ t) r rs
  among_step b t r [] h = h
  among_step b t r (([], key) ∷ rest) h = inr (among_step b t r rest h)
  among_step b t r ((x ∷ u, key) ∷ rest) h = at (nat_eq x b) refl h (λ later. among_step b t r rest later)
    where
      at : (hit : Bool) → nat_eq x b ≡ hit → Among t r (cond {A = RowsOf K} hit ((u, key) ∷ step b rest) (step b rest)) → (Among t r (step b rest) → Among (b ∷ t) r rest) → Among (b ∷ t) r ((x ∷ u, key) ∷ rest)
      at true same (inl e) later = let is : x ≡ b = grind (arith, nat_tests, same) in inl (ap (λ y. y ∷ u) is ∙ ap (λ ys. b ∷ ys) e.0, e.1)
      at true same (inr h) later = inr (later h)
      at false other h later = inr (later h)

  own_among : (rs : RowsOf K) (r : K) → own rs ≡ Some r → Among [] r rs
  own_among [] r e = cc
  own_among (([], key) ∷ rest) r e = inl (refl, same_Some _ _ e)
  own_among ((x ∷ u, key) ∷ rest) r e = inr (own_among rest r e)

  well_step : (b : ℕ) (rs : RowsOf K) → AllWell rs → AllWell (step b rs)
  well_step b [] h = tt
  well_step b (([], key) ∷ rest) h = well_step b rest h.1
  well_step b ((x ∷ u, key) ∷ rest) h = at (nat_eq x b) (well_tail x u _ _ refl refl h.0) (well_step b rest h.1)
    where
      at : (hit : Bool) → is_well u ≡ true → AllWell (step b rest) → AllWell (cond {A = RowsOf K} hit ((u, key) ∷ step b rest) (step b rest))
      at true one more = (one, more)
      at false one more = more

  no_catch : (rs : RowsOf K) → AllWell rs → step catch_all_token rs ≡ []
  no_catch [] h = refl
  no_catch (([], key) ∷ rest) h = no_catch rest h.1
  no_catch ((x ∷ u, key) ∷ rest) h = let no = not_catch x u _ refl h.0 in rw no (no_catch rest h.1)

  ends_step : (rs : RowsOf K) → AllWell rs → AllEnd (step param_token rs)
  ends_step [] h = tt
  ends_step (([], key) ∷ rest) h = ends_step rest h.1
  ends_step ((x ∷ u, key) ∷ rest) h = at (nat_eq x param_token) refl (ends_step rest h.1)
    where
      at : (hit : Bool) → nat_eq x param_token ≡ hit → AllEnd (step param_token rest) → AllEnd (cond {A = RowsOf K} hit ((u, key) ∷ step param_token rest) (step param_token rest))
      at true same more = (part_end x u same h.0, more)
      at false other more = more

  well_with : (s : List ℕ) (rs : RowsOf K) → AllWell rs → AllWell (with_suffix s rs)
  well_with s [] h = tt
  well_with s ((t, key) ∷ rest) h = at (same_text (segment t) s) (well_with s rest h.1)
    where
      at : (hit : Bool) → AllWell (with_suffix s rest) → AllWell (cond {A = RowsOf K} hit ((t, key) ∷ with_suffix s rest) (with_suffix s rest))
      at true more = (h.0, more)
      at false more = more

  among_with : (s t : List ℕ) (r : K) (rs : RowsOf K) → Among t r (with_suffix s rs) → Among t r rs
  among_with s t r [] h = h
  among_with s t r ((u, key) ∷ rest) h = at (same_text (segment u) s) h (λ later. among_with s t r rest later)
    where
      at : (hit : Bool) → Among t r (cond {A = RowsOf K} hit ((u, key) ∷ with_suffix s rest) (with_suffix s rest)) → (Among t r (with_suffix s rest) → Among t r rest) → Among t r ((u, key) ∷ rest)
      at true (inl e) later = inl e
      at true (inr h) later = inr (later h)
      at false h later = inr (later h)

  longest : (seg best : List ℕ) (rs : RowsOf K) → AllEnd rs → Good seg best → Good seg (longest_from seg best rs)
  longest seg best [] ends g = g
  longest seg best ((t, key) ∷ rest) ends g = longest seg (better seg best (segment t)) rest ends.1 (good_next seg best t ends.0 g)

  -- what a parameter takes: nothing, or a segment, and the rows that go on are some of those there were
  pub data Takes (rs : RowsOf K) (path : List ℕ) (p : ℕ × RowsOf K) : Type 0 where
    nothing : p.1 ≡ [] → Takes rs path p
    part : (front back : List ℕ) → path ≡ front ++ back → IsSegment front → p.0 ≡ length front → (AllWell rs → AllWell p.1) → ((t : List ℕ) (r : K) → Among t r p.1 → Among t r rs) → Takes rs path p

  -- a parameter before a slash
  takes_slash : (rs : RowsOf K) (path : List ℕ) (slash : Bool) → has_slash path ≡ slash → 0 < length path → AreBytes path → cuts (segment path) (47 ∷ []) ≡ true
      → Takes rs path (length (segment path) - 1, with_suffix (47 ∷ []) rs)
  takes_slash rs path false h some small cut =
      let no : cuts (segment path) (47 ∷ []) ≡ false = ap (λ seg. cuts seg (47 ∷ [])) (segment_whole path h) ∙ no_cut path some h in
      cc
  takes_slash rs path true h some small cut =
      let cutting = split_at path h in
      let front : List ℕ = cutting.0 in
      let seg : segment path ≡ front ++ 47 ∷ [] = ap segment cutting.2 ∙ segment_to front cutting.1 cutting.3 in
      let size : length (segment path) - 1 ≡ length front = ap (λ s. length s - 1) seg ∙ (omega (arith, length-append front (47 ∷ []))) in
      let low : 0 < length front = some_front front (ap (λ s. cuts s (47 ∷ [])) (sym seg) ∙ cut) in
      part front (47 ∷ cutting.1) cutting.2
      (record { some = low; whole = cutting.3; bytes = front_bytes front (47 ∷ cutting.1) (subst AreBytes cutting.2 small) })
      size (λ w. well_with (47 ∷ []) rs w) (λ t r a. among_with (47 ∷ []) t r rs a)

  -- a parameter at the end
  takes_rest : (rs : RowsOf K) (path : List ℕ) (slash : Bool) → has_slash path ≡ slash → 0 < length path → AreBytes path
      → Takes rs path (cond {A = ℕ × RowsOf K} slash (0, []) (length path, rs))
  takes_rest rs path true h some small = nothing refl
  takes_rest rs path false h some small = part path [] (sym (append-nil path)) (record { some = some; whole = h; bytes = small }) refl (λ w. w) (λ t r a. a)

  takes : (rs : RowsOf K) (path : List ℕ) → AllEnd rs → 0 < length path → AreBytes path → Takes rs path (param_step rs path)
  unfolding param_step
  takes rs path ends some small = by_longest (longest (segment path) [] rs ends (inl refl))
    where
      by_longest : Good (segment path) (longest_suffix (segment path) rs) → Takes rs path (param_step rs path)
      by_longest (inl none) =
          let is : param_step rs path ≡ cond {A = ℕ × RowsOf K} (has_slash path) (0, []) (length path, rs) = rw none refl in
          subst (Takes rs path) (sym is) (takes_rest rs path (has_slash path) refl some small)
      by_longest (inr one) =
          let is : param_step rs path ≡ (length (segment path) - 1, with_suffix (47 ∷ []) rs) = rw (one.0) refl in
          subst (Takes rs path) (sym is) (takes_slash rs path (has_slash path) refl some small one.1)

  -- a route that is found has a row whose pattern spells the path
  pub record Sounds (rs : RowsOf K) (r : K) (path : List ℕ) : Type 0 where
    pub pattern : List ℕ
    pub among : Among pattern r rs
    pub spelled : Spelled pattern path

  or_cases : (o p : Option K) (r : K) → or_else o p ≡ Some r → (o ≡ Some r) ⊎ (p ≡ Some r)
  or_cases None p r e = inr e
  or_cases (Some k) p r e = inl e

  by_param : (b : ℕ) (path : List ℕ) (rs : RowsOf K) (r : K) (p : ℕ × RowsOf K) → AllWell rs → Takes (step param_token rs) (b ∷ path) p → seek (p.0 - 1) p.1 path ≡ Some r
      → (AllWell p.1 → Sounds p.1 r (drop (p.0 - 1) path)) → Sounds rs r (b ∷ path)
  by_param b path rs r p well (nothing none) e later =
      let no : seek (p.0 - 1) p.1 path ≡ None = ap (λ (qs : RowsOf K). seek (p.0 - 1) qs path) none ∙ seek_none (p.0 - 1) path in
      cc
  by_param b path rs r p well (part front back is whole size keeps sub) e later =
      let s = later (keeps (well_step param_token rs well)) in
      let one : p.0 ≡ suc (p.0 - 1) = omega (arith, size, whole.some) in
      let rest : drop (p.0 - 1) path ≡ back = ap (λ k. drop k (b ∷ path)) (sym one) ∙ ap (drop p.0) is ∙ drop_at front back p.0 (sym size) in
      record {
        pattern = param_token ∷ s.pattern;
        among = among_step param_token s.pattern r rs (sub s.pattern r s.among);
        spelled = spelled_part s.pattern (b ∷ path) front back whole is (subst (Spelled s.pattern) rest s.spelled);
      }

  at_byte : (b : ℕ) (path : List ℕ) (rs : RowsOf K) (r : K) → AllWell rs → AreBytes (b ∷ path)
      → ((skip : ℕ) (qs : RowsOf K) → AllWell qs → seek skip qs path ≡ Some r → Sounds qs r (drop skip path))
      → (seek 0 (step b rs) path ≡ Some r) ⊎ (or_else (seek ((param_step (step param_token rs) (b ∷ path)).0 - 1) (param_step (step param_token rs) (b ∷ path)).1 path) (own (step catch_all_token rs)) ≡ Some r)
      → Sounds rs r (b ∷ path)
  at_byte b path rs r well small later (inl e) =
      let s = later 0 (step b rs) (well_step b rs well) e in
      record { pattern = b ∷ s.pattern; among = among_step b s.pattern r rs s.among; spelled = spelled_byte b s.pattern path small.0 s.spelled }
  at_byte b path rs r well small later (inr e) = past (or_cases _ _ r e)
    where
      past : (seek ((param_step (step param_token rs) (b ∷ path)).0 - 1) (param_step (step param_token rs) (b ∷ path)).1 path ≡ Some r) ⊎ (own (step catch_all_token rs) ≡ Some r) → Sounds rs r (b ∷ path)
      past (inl f) =
          by_param b path rs r (param_step (step param_token rs) (b ∷ path)) well (takes (step param_token rs) (b ∷ path) (ends_step rs well) (omega arith) small) f
          (λ w. later _ _ w f)
      past (inr f) = let no : own (step catch_all_token rs) ≡ None = ap own (no_catch rs well) in cc

  pub sound : (path : List ℕ) (skip : ℕ) (rs : RowsOf K) (r : K) → AllWell rs → AreBytes path → seek skip rs path ≡ Some r → Sounds rs r (drop skip path)
  unfolding seek
  sound [] zero rs r well small e = record { pattern = []; among = own_among rs r e; spelled = spelled_end }
  sound [] (suc skip) rs r well small e = record { pattern = []; among = own_among rs r e; spelled = spelled_end }
  sound (b ∷ path) (suc skip) rs r well small e = sound path skip rs r well small.1 e
  sound (b ∷ path) zero rs r well small e = at_byte b path rs r well small (λ skip qs w f. sound path skip qs r w small.1 f) (or_cases _ _ r e)
