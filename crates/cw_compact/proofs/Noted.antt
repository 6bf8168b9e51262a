-- What one record more makes of the last record of each key, and of the highest offset.
use Rattle.std.proofs.Common.{◌≡◌, ℕ, ◌+◌, Bool, true, false, cond, ◌==◌, max, List, [], ◌∷◌, ◌++◌, map, Option, None, Some, Vec, refl, sym, ap, ◌∙◌, arith}
use Rattle.std.specs.Option.{option_map, option_map_or}
use Rattle.std.specs.declared.alloc.Global.{Global}
use Rattle.std.specs.List.{filter, last_or}
use Rattle.std.specs.BTreeMap.{BTreeMap, Updates}
use Rattle.std.specs.Str.{bytes_eq}
use Rattle.std.specs.Ordering.{nat_cmp}
use Rattle.std.specs.Cmp.Lexicographic.{slice_cmp}
use Rattle.std.proofs.lemmas.List.{map-append}
use Rattle.std.proofs.lemmas.List.Elements.{filter-append}
use Rattle.std.proofs.lemmas.List.Sums.{fold-append}
use Rattle.cw_bytes.specs.declared.applied.Applied.{Applied}
use Rattle.cw_bytes.specs.Frames.{next_after, next_behind, is_last, last_of_key}
use Rattle.cw_compact.specs.Lasts.{offset_at, higher, end_at, AreLasts}
use Rattle.cw_compact.proofs.Bytes.{updates_bytes}

last_or-push : {A : Type 0} (o : Option A) (xs : List A) (x : A) → last_or o (xs ++ x ∷ []) ≡ Some x
last_or-push o [] x = refl
last_or-push o (y ∷ xs) x = last_or-push (Some y) xs x

push_if : (b : Bool) (xs : List Applied) (x : Applied) → last_or None (xs ++ cond b (x ∷ []) []) ≡ cond b (Some x) (last_or None xs)
push_if true xs x = last_or-push None xs x
push_if false xs x = ap (last_or None) (nothing xs)
  where
    nothing : (l : List Applied) → l ++ [] ≡ l
    nothing [] = refl
    nothing (y ∷ l) = ap (λ (r : List Applied). y ∷ r) (nothing l)

last_of_key-push : (key : List ℕ) (records : List Applied) (r : Applied) → last_of_key key (records ++ r ∷ []) ≡ cond (bytes_eq r.key key) (Some r) (last_of_key key records)
last_of_key-push key records r =
    ap (last_or None) (filter-append (λ x. bytes_eq x.key key) records (r ∷ []))
    ∙ push_if (bytes_eq r.key key) (filter (λ x. bytes_eq x.key key) records) r

mapped_cond : (b : Bool) (r : Applied) (o : Option Applied) → cond b (Some r.offset) (option_map (λ x. x.offset) o) ≡ option_map (λ x. x.offset) (cond b (Some r) o)
mapped_cond true r o = refl
mapped_cond false r o = refl

next_after-push : (records : List Applied) (r : Applied) → next_after (records ++ r ∷ []) ≡ max (next_after records) (r.offset + 1)
next_after-push records r =
    ap next_behind (map-append (λ (x : Applied). x.offset) records (r ∷ []))
    ∙ fold-append (λ (end offset : ℕ). max end (offset + 1)) 0 (map (λ (x : Applied). x.offset) records) (r.offset ∷ [])

end_at-higher : (most : Option ℕ) (offset : ℕ) → end_at (higher most offset) ≡ max (end_at most) (offset + 1)
end_at-higher None offset = omega arith
end_at-higher (Some most) offset = omega arith

-- whether what was found is the last record of a key
pub last_found : (records : List Applied) (r : Applied) (offset : ℕ) → Some offset ≡ option_map (λ x. x.offset) (last_of_key r.key records) → (offset == r.offset) ≡ is_last records r
last_found records r offset found = by_row (last_of_key r.key records) found
  where
    by_row : (o : Option Applied) → Some offset ≡ option_map (λ x. x.offset) o → (offset == r.offset) ≡ option_map_or (λ last. last.offset == r.offset) o false
    by_row None e = cc
    by_row (Some last) e = let same : offset ≡ last.offset = cc in ap (λ (n : ℕ). n == r.offset) same

pub noted : (old new : BTreeMap (Vec ℕ Global) ℕ) (most : Option ℕ) (records : List Applied) (r : Applied) (key : Vec ℕ Global) → key.items ≡ r.key
    → Updates (λ x y. slice_cmp nat_cmp x.items y.items) old new key (Some r.offset)
    → AreLasts old most records → AreLasts new (higher most r.offset) (records ++ r ∷ [])
noted old new most records r key is updates lasts = record {
  offsets_are = λ q.
      updates_bytes (λ (k : Vec ℕ Global). k.items) key.items old new (Some r.offset) updates q
      ∙ ap (λ (bs : List ℕ). cond (bytes_eq bs q) (Some r.offset) (offset_at old q)) is
      ∙ ap (cond (bytes_eq r.key q) (Some r.offset)) (lasts.offsets_are q)
      ∙ mapped_cond (bytes_eq r.key q) r (last_of_key q records)
      ∙ ap (option_map (λ x. x.offset)) (sym (last_of_key-push q records r));
  end = end_at-higher most r.offset ∙ ap (λ (n : ℕ). max n (r.offset + 1)) lasts.end ∙ sym (next_after-push records r);
}
