-- What a walk over the spans of a commit finds of their parts' chains.
use Rattle.std.proofs.Common.{◌≡◌, ℕ, Bool, true, false, ◌&&◌, List, [], ◌∷◌, ◌++◌, IsTrue, ◌↔◌, refl, sym, subst}
use Rattle.std.specs.List.{fold}
use Rattle.std.specs.BTreeMap.{BTreeMap}
use Rattle.cw_types.specs.declared.ids.PartKey.{PartKey}
use Rattle.cw_types.specs.declared.ids.Tag.{Tag}
use Rattle.cw_types.specs.declared.ids.Span.{Span}
use Rattle.cw_txn.specs.declared.entry.Entry.{Entry}
use Rattle.cw_txn.specs.declared.entry.Entry.TheVariants.{Commit}
use Rattle.cw_txn.specs.declared.history.History.{History}
use Rattle.cw_txn.specs.declared.tables.Tables.{Tables}
use Rattle.cw_types.specs.Same.{same_part}
use Rattle.cw_txn.specs.History.{GoesOn, SpansChain, after_span}
use Rattle.cw_txn.specs.Tables.{Keeps, history_at}
use Rattle.cw_txn.specs.Walk.{IsSpanTest, IsChainTest}
use Rattle.cw_types.proofs.SameLemmas.{same_part-Decides}

module _ (part : PartKey) (span : Span) where
  -- one span more chains where it goes on from those before it
  SpansChain-push : (h : History) (spans : List Span) → SpansChain part h spans → (same_part part span.part ≡ true → GoesOn (fold (after_span part) h spans) span) → SpansChain part h (spans ++ span ∷ [])
  SpansChain-push h [] chain on = (on, tt)
  SpansChain-push h (s ∷ spans) chain on = (chain.0, SpansChain-push (after_span part h s) spans chain.1 on)

  -- those before it chain
  SpansChain-front : (h : History) (spans : List Span) → SpansChain part h (spans ++ span ∷ []) → SpansChain part h spans
  SpansChain-front h [] chain = tt
  SpansChain-front h (s ∷ spans) chain = (chain.0, SpansChain-front (after_span part h s) spans chain.1)

  -- and it goes on from them
  SpansChain-last : (h : History) (spans : List Span) → SpansChain part h (spans ++ span ∷ []) → same_part part span.part ≡ true → GoesOn (fold (after_span part) h spans) span
  SpansChain-last h [] chain same = chain.0 same
  SpansChain-last h (s ∷ spans) chain same = SpansChain-last (after_span part h s) spans chain.1 same

module _ (old new : BTreeMap PartKey History) (spans : List Span) (span : Span) (moved : (part : PartKey) → history_at new part ≡ fold (after_span part) (history_at old part) spans) where
  goes_on_of : GoesOn (history_at new span.part) span → (part : PartKey) → same_part part span.part ≡ true → GoesOn (fold (after_span part) (history_at old part) spans) span
  goes_on_of on part same =
      let here : GoesOn (history_at new part) span = subst (λ (q : PartKey). GoesOn (history_at new q) span) (sym ((same_part-Decides part span.part).0 same)) on in
      subst (λ (h : History). GoesOn h span) (moved part) here

  breaks : (IsTrue false ↔ GoesOn (history_at new span.part) span) → ¬ SpansChain span.part (history_at old span.part) (spans ++ span ∷ [])
  breaks never chain =
      let last = SpansChain-last span.part span (history_at old span.part) spans chain ((same_part-Decides span.part span.part).1 refl) in
      let clash : false ≡ true = never.1 (subst (λ (h : History). GoesOn h span) (sym (moved span.part)) last) in cc

  -- the test of the spans, with one more
  pub span_test-push : (chains on : Bool) → IsSpanTest old spans chains → (IsTrue on ↔ GoesOn (history_at new span.part) span) → IsSpanTest old (spans ++ span ∷ []) (chains && on)
  span_test-push true true test goes = λ part. SpansChain-push part span (history_at old part) spans (test part) (goes_on_of (goes.0 refl) part)
  span_test-push true false test goes = (span.part, breaks goes)
  span_test-push false on test goes = (test.0, λ chain. test.1 (SpansChain-front test.0 span (history_at old test.0) spans chain))

-- what the test of the spans says of their commit
pub chain_test : (tables : Tables) (before : List Entry) → Keeps tables before → (tag : Tag) (generation : ℕ) (spans : List Span) (chains : Bool)
    → IsSpanTest tables.parts spans chains → IsChainTest before (Commit tag generation spans) chains
chain_test tables before kept tag generation spans true test = λ part. subst (λ (h : History). SpansChain part h spans) (kept.parts part) (test part)
chain_test tables before kept tag generation spans false test =
    (test.0, λ chain. test.1 (subst (λ (h : History). SpansChain test.0 h spans) (sym (kept.parts test.0)) chain))
