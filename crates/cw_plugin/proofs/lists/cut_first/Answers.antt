use Rattle.std.proofs.Common.{◌≡◌, ◌<◌, ◌∷◌, ◌==◌, [], ℕ, List, length, Option, Some, None, MatchOption, Bor, false, arith, ◌+◌, length-drop}
use Rattle.std.specs.List.{All, position_or_len, before_first, after_first}
use Rattle.std.proofs.lemmas.List.Sums.{fails_before_first}
use Rattle.std.proofs.lemmas.List.Splits.{slice_split_none, slice_split_first}
use Rattle.cw_plugin.specs.Lists.{elements}
use Rattle.cw_plugin.proofs.lists.cut_first.Goals as goal

none_passes : (text : List ℕ) → position_or_len (λ b. b == 44) text ≡ length text → All (λ b. (b == 44) ≡ false) text
none_passes text e k d h = fails_before_first (λ b. b == 44) text k d (omega arith)

cut : (text : List ℕ) (r : Option (Bor (List ℕ) × Bor (List ℕ)))
    → MatchOption r (position_or_len (λ b. b == 44) text ≡ length text)
    (λ x. (x.0.now ≡ before_first (λ b. b == 44) text) × (x.1.now ≡ after_first (λ b. b == 44) text) × (position_or_len (λ b. b == 44) text < length text))
    → MatchOption r (elements text ≡ text ∷ []) (λ parts. (elements text ≡ parts.0.now ∷ elements parts.1.now) × (length parts.1.now < length text))
cut text None e = slice_split_none (λ b. b == 44) text (none_passes text e)
cut text (Some x) h = (
  rw (h.0, h.1) (slice_split_first (λ b. b == 44) text 0 h.2),
  rw h.1 (omega (arith, length-drop (position_or_len (λ b. b == 44) text + 1) text)),
)

pub returns : goal.returns
returns c = cut c.args.text.now c.split_once.result (c.split_once.ensures.byte (omega arith) (λ w o h. h))
