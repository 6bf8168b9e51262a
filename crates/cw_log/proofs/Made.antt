-- Making a log.
use Rattle.std.proofs.Common.{◌≡◌, ◌≤◌, ◌<◌, refl, inl, inr, ℕ, zero, suc, List, [], ◌∷◌, ◌++◌, length, get_or, take, sym, ◌∙◌, ap, subst, arith}
use Rattle.std.proofs.lemmas.List.{drop_all, get_or-take, append-nil}
use Rattle.std.proofs.lemmas.Bool.Decides.{nat_tests}
use Rattle.cw_disk.specs.Disk.{written, Torn, Cut}
use Rattle.cw_log.specs.Calls.{IsGated}
use Rattle.cw_log.specs.Log.{IsUnmade, IsHead, StandsFor, header, byte_at}

-- the first byte of a front
pub first_same : (image file : List ℕ) (n : ℕ) → 0 < n → take n image ≡ take n file → byte_at image 0 ≡ byte_at file 0
first_same image file n some same = sym (get_or-take n image 0 0 some) ∙ ap (λ (l : List ℕ). get_or l 0 0) same ∙ get_or-take n file 0 0 some

pub first_byte_0 : (file : List ℕ) → IsUnmade file → 2 ≤ length file → take 1 file ≡ 0 ∷ []
first_byte_0 [] unmade long = absurd (omega arith)
first_byte_0 (b ∷ file) (inl short) long = absurd (omega arith)
first_byte_0 (b ∷ file) (inr is) long = ap (λ (x : ℕ). x ∷ []) is

pub cut_unmade : (file image : List ℕ) → IsUnmade file → 2 ≤ length file → Cut 1 file image → IsUnmade image
cut_unmade file image unmade long cut = inr (first_same image file 1 (omega arith) cut.before ∙ sym (get_or-take 1 file 0 0 (omega arith)) ∙ ap (λ (l : List ℕ). get_or l 0 0) (first_byte_0 file unmade long))

pub torn_unmade : (file image : List ℕ) → length file ≤ 1 → Torn 0 1 file image → IsUnmade image
torn_unmade file image short torn = inl (omega (arith, torn.no_longer))

pub first_written : (file : List ℕ) → length file ≤ 1 → written file 0 (0 ∷ []) ≡ 0 ∷ []
first_written file short = ap (λ (l : List ℕ). 0 ∷ l) (drop_all 1 file short)

pub length-header : (kind side : ℕ) → length (header kind side) ≡ 15
unfolding header
length-header kind side = refl

-- a header that was just written
pub new_head : (gate kind side : ℕ) → IsHead kind (suc gate ∷ header kind side)
unfolding header
new_head gate kind side = record { size = refl; «open» = omega arith; harmless = grind (arith, nat_tests) }

pub gated_new : (kind : ℕ) (image : List ℕ) → IsGated 0 (0 ∷ []) (header kind 1 ++ 0 ∷ []) image → StandsFor kind [] image
gated_new kind image (inl is) = inl (inr (first_same image (0 ∷ []) 1 (omega arith) is), refl)
gated_new kind image (inr is) = subst (StandsFor kind []) (sym is.1) (with_byte is.0)
  where
    with_byte : (byte : ℕ) → StandsFor kind [] (byte ∷ (header kind 1 ++ 0 ∷ []))
    with_byte zero = inl (inr refl, refl)
    with_byte (suc gate) = inr (record { head = suc gate ∷ header kind 1; front = []; rest = []; split = ap (λ (l : List ℕ). l ++ 0 ∷ []) (sym (append-nil (suc gate ∷ header kind 1))); is_head = new_head gate kind 1; frames = refl })
