-- A standing fence is of a generation that isn't newer than the one for which the last fence stands.
use Rattle.std.proofs.Common.{◌≡◌, ℕ, ◌+◌, ◌-◌, ◌≤◌, ◌++◌, ◌∷◌, [], Bool, true, false, not, cond, List, Option, Some, length, reverse, take, drop, sym, subst, ap, ◌∙◌, arith, length-append, append_assoc}
use Rattle.std.specs.Option.{IsSomeAnd}
use Rattle.std.specs.List.{prefix_len, suffix_len, before_last}
use Rattle.std.proofs.lemmas.List.{reverse-append, take-append-drop, length-reverse}
use Rattle.std.proofs.Math.Seq.{take-append-add, take-append_seam}
use Rattle.cw_keys.specs.declared.config_key.ConfigKey.TheVariants.{Fencing}
use Rattle.cw_config.specs.declared.records.ConfigRecord.{ConfigRecord}
use Rattle.cw_config.specs.Records.{has_key}
use Rattle.cw_config.specs.View.{generation_of}
use Rattle.cw_model.specs.ConfigsAllowed.{AreAllowedConfigs}
use Rattle.cw_model.specs.Fences.{StandingFence, fenced_generation_of}
use Rattle.cw_laws.proofs.Configs.{seen-generation, allowed-first}

prefix-stops : {X : Type 0} (q : X → Bool) (xs : List X) (y : X) (ys : List X) → q y ≡ false → prefix_len q (xs ++ y ∷ ys) ≤ length xs
prefix-stops q [] y ys fails = omega (arith, ap (λ b. cond b (1 + prefix_len q ys) 0) fails)
prefix-stops q (x ∷ xs) y ys fails = by (q x) (prefix-stops q xs y ys fails) where
  by : (b : Bool) → prefix_len q (xs ++ y ∷ ys) ≤ length xs → cond b (1 + prefix_len q (xs ++ y ∷ ys)) 0 ≤ length (x ∷ xs)
  by true rest = omega arith
  by false rest = omega arith

-- what stands before the last one that passes begins with what stands before any that does
pub before_last-begins : {X : Type 0} (p : X → Bool) (before : List X) (y : X) (behind : List X) → p y ≡ true →
    take (length before) (before_last p (before ++ y ∷ behind)) ≡ before
before_last-begins p before y behind passes =
    let tail : ℕ = suffix_len (λ x. not (p x)) (before ++ y ∷ behind) in
    let turned : reverse (before ++ y ∷ behind) ≡ reverse behind ++ (y ∷ reverse before) =
    reverse-append before (y ∷ behind) ∙ ap (λ l. l ++ reverse before) (reverse-append (y ∷ []) behind) ∙ append_assoc (reverse behind) (y ∷ []) (reverse before) in
    let fails : not (p y) ≡ false = ap not passes in
    let stops : prefix_len (λ x. not (p x)) (reverse behind ++ (y ∷ reverse before)) ≤ length (reverse behind) = prefix-stops (λ x. not (p x)) (reverse behind) y (reverse before) fails in
    let short : tail ≤ length behind = omega (arith, ap (prefix_len (λ x. not (p x))) turned, stops, length-reverse behind) in
    let more : ℕ = length behind - tail in
    let place : length (before ++ y ∷ behind) - tail - 1 ≡ length before + more = omega (arith, length-append before (y ∷ behind), short) in
    ap (λ n. take (length before) (take n (before ++ y ∷ behind))) place
    ∙ ap (take (length before)) (take-append-add before (y ∷ behind) more)
    ∙ take-append_seam before (take more (y ∷ behind))

own-most : (o : Option ℕ) (g own : ℕ) → o ≡ Some own → IsSomeAnd o (λ n. g ≤ n) → g ≤ own
own-most o g own is most = let at : IsSomeAnd (Some own) (λ n. g ≤ n) = subst (λ o. IsSomeAnd o (λ n. g ≤ n)) is most in at

own-least : (o : Option ℕ) (g : ℕ) → o ≡ Some g → IsSomeAnd o (λ n. g ≤ n)
own-least o g is = subst (λ o. IsSomeAnd o (λ n. g ≤ n)) (sym is) (omega arith)

pub standing-older : (name : List ℕ) (generation mark own : ℕ) (records : List ConfigRecord) → AreAllowedConfigs [] records →
    StandingFence records name generation mark → fenced_generation_of name records ≡ Some own → generation ≤ own
standing-older name generation mark own records allowed stands last =
    let front : List ConfigRecord = before_last (has_key (Fencing name)) records in
    let begins : take (length stands.before) front ≡ stands.before =
    ap (λ l. take (length stands.before) (before_last (has_key (Fencing name)) l)) stands.split ∙ before_last-begins (has_key (Fencing name)) stands.before stands.fence stands.behind stands.fences in
    let n : ℕ = length records - suffix_len (λ x. not (has_key (Fencing name) x)) records - 1 in
    let whole : AreAllowedConfigs [] front = allowed-first [] front (drop n records) (subst (λ l. AreAllowedConfigs [] l) (sym (take-append-drop n records)) allowed) in
    let seen : generation_of name (take (length stands.before) front) ≡ Some generation = ap (generation_of name) begins ∙ stands.of_generation in
    own-most (generation_of name front) generation own last
    (seen-generation name (length stands.before) generation front whole (own-least (generation_of name (take (length stands.before) front)) generation seen))
