-- Many fields of one kind, one behind the other.
use Rattle.std.proofs.Common.{◌≡◌, ℕ, zero, suc, ◌-◌, ◌+◌, ◌≤◌, ◌<◌, List, [], ◌∷◌, ◌++◌, length, Ok, Err, refl, sym, ap, subst, ◌∙◌, append_assoc, arith}
use Rattle.std.specs.List.{flat_map, AllByRecursion}
use Rattle.std.proofs.lemmas.List.{append-nil}
use Rattle.std.proofs.lemmas.List.Concat.{flat_map-cons}
use Rattle.cw_bytes.specs.declared.fault.FieldFault.{FieldFault}
use Rattle.cw_bytes.specs.declared.fault.FieldFault.TheVariants.{Short, BadKind, BadName, Memory}
use Rattle.cw_bytes.specs.Unread.{Unread, AreBytes, Takes}
use Rattle.cw_bytes.specs.Reading.{◌>>=◌, Read, Fails, many_at}
use Rattle.cw_bytes.proofs.Steps.{bind_ok, done, ok_is, Passes, Passes-then, between, Takes-first, Takes-second}

module _ {A : Type 0} (at : Unread → Read A) (bytes : A → List ℕ) (is : A → Type 0)
    (takes : (from : Unread) (a : A) (next : Unread) → AreBytes from.rest → at from ≡ Ok (a, next) → Passes (bytes a) from next × is a)
    (again : (a : A) → is a → (from next : Unread) → Takes (bytes a) from next → at from ≡ Ok (a, next)) where
  -- what was read
  pub record Taken (n : ℕ) (from : Unread) (list : List A) (next : Unread) : Type 0 where
    pub passes : Passes (flat_map bytes list) from next
    pub count : length list ≡ n
    pub each : AllByRecursion is list

  pub many_takes : (n : ℕ) (from : Unread) (list : List A) (next : Unread) → AreBytes from.rest → many_at at n from ≡ Ok (list, next) → Taken n from list next
  unfolding many_at
  many_takes zero from list next fits e =
      subst (λ (y : List A × Unread). Taken 0 from y.0 y.1) (ok_is ([], from) (list, next) e) (record { passes = record { takes = record { spelled = refl; place = omega arith }; left = fits }; count = refl; each = tt })
  many_takes (suc n) from list next fits e =
      let a = bind_ok (at from) (λ first. many_at at n first.1 >>= λ others. Ok (first.0 ∷ others.0, others.1)) (list, next) e in
      let b = bind_ok (many_at at n a.0.1) (λ others. Ok (a.0.0 ∷ others.0, others.1)) (list, next) a.2 in
      let first = takes from a.0.0 a.0.1 fits a.1 in
      let others = many_takes n a.0.1 b.0.0 b.0.1 first.0.left b.1 in
      subst (λ (y : List A × Unread). Taken (suc n) from y.0 y.1) (ok_is (a.0.0 ∷ b.0.0, b.0.1) (list, next) b.2) (record {
        passes = subst (λ (f : List ℕ). Passes f from b.0.1) (sym (flat_map-cons bytes a.0.0 b.0.0)) (Passes-then (bytes a.0.0) (flat_map bytes b.0.0) from a.0.1 b.0.1 first.0 others.passes);
        count = ap suc others.count;
        each = (first.1, others.each);
      })

  pub many_again : (list : List A) → AllByRecursion is list → (from next : Unread) → Takes (flat_map bytes list) from next → many_at at (length list) from ≡ Ok (list, next)
  unfolding many_at
  many_again [] each from next t = ap (λ (r : List ℕ). done ([], record { place = from.place; rest = r })) t.spelled ∙ ap (λ (p : ℕ). done ([], record { place = p; rest = next.rest })) (omega (arith, t.place))
  many_again (a ∷ list) each from next t =
      let u = subst (λ (f : List ℕ). Takes f from next) (flat_map-cons bytes a list) t in
      let mid = between (bytes a) (flat_map bytes list) from next in
      ap (λ r. r >>= λ (first : A × Unread). many_at at (length list) first.1 >>= λ others. done (first.0 ∷ others.0, others.1)) (again a each.0 from mid (Takes-first (bytes a) (flat_map bytes list) from next u))
      ∙ ap (λ r. r >>= λ (others : List A × Unread). done (a ∷ others.0, others.1)) (many_again list each.1 mid next (Takes-second (bytes a) (flat_map bytes list) from next u))

-- ---- a loop that reads them

module _ {A : Type 0} (at : Unread → Read A) where
  -- what was read before, and what is still read
  abbrev pub with_front : List A → Read (List A) → Read (List A)
  with_front front read = read >>= λ x. Ok (front ++ x.0, x.1)

  regroup : (front : List A) (a : A) (read : Read (List A)) → with_front front (read >>= λ x. Ok (a ∷ x.0, x.1)) ≡ with_front (front ++ a ∷ []) read
  regroup front a (Ok x) = ap (λ (list : List A). done (list, x.1)) (simp append_assoc)
  regroup front a (Err f) = refl

  pub ends : (e : FieldFault) (front : List A) (count i : ℕ) (from : Unread) (total : Read (List A)) → i < count → Fails e (at from)
      → with_front front (many_at at (count - i) from) ≡ total → Fails e total
  unfolding many_at
  ends Memory front count i from total lt h so_far = tt
  ends (Short p) front count i from total lt h so_far =
      let k : count - i ≡ suc (count - (i + 1)) = omega arith in
      let one : with_front front (many_at at (count - i) from) ≡ Err (Short p) = rw (k, h) refl in
      sym so_far ∙ one
  ends (BadKind p) front count i from total lt h so_far =
      let k : count - i ≡ suc (count - (i + 1)) = omega arith in
      let one : with_front front (many_at at (count - i) from) ≡ Err (BadKind p) = rw (k, h) refl in
      sym so_far ∙ one
  ends (BadName p) front count i from total lt h so_far =
      let k : count - i ≡ suc (count - (i + 1)) = omega arith in
      let one : with_front front (many_at at (count - i) from) ≡ Err (BadName p) = rw (k, h) refl in
      sym so_far ∙ one

  pub goes_on : (front : List A) (count i : ℕ) (from : Unread) (a : A) (after : Unread) (total : Read (List A)) → i < count → at from ≡ Ok (a, after)
      → with_front front (many_at at (count - i) from) ≡ total → with_front (front ++ a ∷ []) (many_at at (count - (i + 1)) after) ≡ total
  unfolding many_at
  goes_on front count i from a after total lt h so_far =
      let k : count - i ≡ suc (count - (i + 1)) = omega arith in
      let one : with_front front (many_at at (count - i) from) ≡ with_front (front ++ a ∷ []) (many_at at (count - (i + 1)) after) = rw (k, h) (regroup front a (many_at at (count - (i + 1)) after)) in
      sym one ∙ so_far

  pub is_done : (front : List A) (count i : ℕ) (from : Unread) (total : Read (List A)) → count ≤ i → with_front front (many_at at (count - i) from) ≡ total → total ≡ Ok (front, from)
  unfolding many_at
  is_done front count i from total le so_far =
      let k : count - i ≡ 0 = omega arith in
      let one : with_front front (many_at at (count - i) from) ≡ Ok (front, from) = rw k (ap (λ (list : List A). done (list, from)) (append-nil front)) in
      sym so_far ∙ one
