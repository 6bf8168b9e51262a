-- A commit whose spans have distinct parts, each from its part's end, chains.
use Rattle.std.proofs.Common.{◌≡◌, Bool, true, false, cond, List, [], ◌∷◌, All, map, Some, refl, sym, subst}
use Rattle.std.specs.List.{IsDistinct, AllByRecursion}
use Rattle.std.proofs.lemmas.List.Elements.{All-head, All-tail}
use Rattle.std.proofs.lemmas.Map.Keys.{IsDistinct-head, IsDistinct-tail}
use Rattle.cw_types.specs.declared.ids.PartKey.{PartKey}
use Rattle.cw_types.specs.declared.ids.Span.{Span}
use Rattle.cw_txn.specs.declared.history.History.{History}
use Rattle.cw_types.specs.Same.{same_part}
use Rattle.cw_txn.specs.History.{GoesOn, SpansChain, after_span}
use Rattle.cw_types.proofs.SameLemmas.{same_part-Decides}

abbrev pub part_of : Span → PartKey
part_of span = span.part

-- spans of other parts chain
others : (part : PartKey) (h : History) (spans : List Span) → AllByRecursion (λ q. same_part part q ≡ false) (map part_of spans) → SpansChain part h spans
others part h [] apart = tt
others part h (span ∷ spans) apart =
    (λ same. cc, others part (after_span part h span) spans apart.1)

module _ (part : PartKey) (before : PartKey → History) where
  behind : (span : Span) (spans : List Span) → AllByRecursion (λ q. same_part span.part q ≡ false) (map part_of spans) → SpansChain part (before part) spans
      → (b : Bool) → same_part part span.part ≡ b → SpansChain part (cond b (record { base = (before part).base; end = Some span.to }) (before part)) spans
  behind span spans apart chain false same = chain
  behind span spans apart chain true same = others part (record { base = (before part).base; end = Some span.to }) spans
      (subst (λ (p : PartKey). AllByRecursion (λ q. same_part p q ≡ false) (map part_of spans)) (sym ((same_part-Decides part span.part).0 same)) apart)

  pub spans_chain : (spans : List Span) → IsDistinct same_part (map part_of spans) → All (λ span. GoesOn (before span.part) span) spans → SpansChain part (before part) spans
  spans_chain [] distinct each = tt
  spans_chain (span ∷ spans) distinct each = (
    λ same. subst (λ (q : PartKey). GoesOn (before q) span) (sym ((same_part-Decides part span.part).0 same)) (All-head (λ (s : Span). GoesOn (before s.part) s) span spans each),
    behind span spans (IsDistinct-head same_part span.part (map part_of spans) distinct)
        (spans_chain spans (IsDistinct-tail same_part span.part (map part_of spans) distinct) (All-tail (λ (s : Span). GoesOn (before s.part) s) span spans each))
        (same_part part span.part) refl,
  )
