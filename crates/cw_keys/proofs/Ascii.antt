-- The bytes of a name, and decimal digits, are UTF-8.
use Rattle.std.proofs.Common.{◌≡◌, ℕ, suc, ◌+◌, ◌^◌, ◌<◌, ◌≤◌, List, [], ◌∷◌, ◌++◌, length, Bool, true, false, cond, ◌&&◌, not, nat_lt, nat_eq, Option, Some, None, option_map, codes, decimal, refl, arith, ltb-false}
use Rattle.std.specs.List.{prefix_len, position}
use Rattle.std.specs.Str.{IsUtf8}
use Rattle.std.proofs.lemmas.Str.{IsUtf8-append, IsUtf8-from_ascii}
use Rattle.std.proofs.lemmas.Fmt.{IsAscii-decimal}
use Rattle.std.proofs.lemmas.Bool.Decides.{nat_tests}
use Rattle.json.proofs.Printed.Utf8.{are_ascii, IsUtf8-are_ascii}
use Rattle.cw_types.specs.Name.{is_name_byte, IsName}
use Rattle.cw_types.specs.declared.name.NameFault.TheVariants.{BadByte}

name_byte_ascii : (c : ℕ) → not (not (is_name_byte c)) ≡ true → nat_lt c 128 ≡ true
name_byte_ascii c e = grind (arith, nat_tests)

ascii_step : (b rest : Bool) → b ≡ true → rest ≡ true → (b && rest) ≡ true
ascii_step b rest here there = rw (here, there) refl

ascii_here : (c : ℕ) (cs : List ℕ) (b : Bool) → not (not (is_name_byte c)) ≡ b → (length cs ≤ prefix_len (λ d. not (not (is_name_byte d))) cs → are_ascii cs ≡ true)
    → suc (length cs) ≤ cond b (1 + prefix_len (λ d. not (not (is_name_byte d))) cs) 0 → are_ascii (c ∷ cs) ≡ true
ascii_here c cs true is later within = ascii_step _ _ (name_byte_ascii c is) (later (omega arith))
ascii_here c cs false is later within = absurd (omega arith)

ascii_from : (xs : List ℕ) → length xs ≤ prefix_len (λ c. not (not (is_name_byte c))) xs → are_ascii xs ≡ true
ascii_from [] h = refl
ascii_from (c ∷ cs) h = ascii_here c cs (not (not (is_name_byte c))) refl (ascii_from cs) h

not_first : {A : Type 0} (b : Bool) (x : A) (y : Option A) → cond b (Some x) y ≡ None → y ≡ None
not_first true x y e = cc
not_first false x y e = e

unmapped : (o : Option ℕ) → option_map BadByte o ≡ None → o ≡ None
unmapped None e = refl
unmapped (Some at) e = cc

nowhere : (b : Bool) (at : ℕ) → cond b (Some at) None ≡ None → b ≡ false
nowhere true at e = cc
nowhere false at e = refl

-- a name's bytes are UTF-8
pub name_utf8 : (name : List ℕ) → IsName name → IsUtf8 name
name_utf8 name named =
    let place : option_map BadByte (position (λ c. not (is_name_byte c)) name) ≡ None = not_first (nat_lt 128 (length name)) _ _ (not_first (nat_eq (length name) 0) _ _ named) in
    let past : length name ≤ prefix_len (λ c. not (not (is_name_byte c))) name = ltb-false _ _ (nowhere _ _ (unmapped _ place)) in
    IsUtf8-are_ascii name (ascii_from name past)

pub decimal_utf8 : (n : ℕ) → n < 2 ^ 64 → IsUtf8 (decimal n)
decimal_utf8 n h = IsUtf8-from_ascii (decimal n) (IsAscii-decimal n h)

pub worker_utf8 : (n : ℕ) → n < 2 ^ 64 → IsUtf8 (codes "worker-" ++ decimal n)
worker_utf8 n h = IsUtf8-append (codes "worker-") (decimal n) (IsUtf8-are_ascii (codes "worker-") refl) (decimal_utf8 n h)
