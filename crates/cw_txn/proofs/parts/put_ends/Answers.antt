use Rattle.std.proofs.Common.{◌≡◌, ◌+◌, ◌&&◌, ◌++◌, ◌∷◌, [], List, Bool, take, sym, ap, subst, arith, ◌∙◌}
use Rattle.std.specs.List.{fold}
use Rattle.std.proofs.lemmas.List.{take_more, take_all}
use Rattle.std.proofs.lemmas.List.Sums.{fold-append}
use Rattle.cw_types.specs.declared.ids.Span.{Span}
use Rattle.cw_txn.specs.declared.history.History.{History}
use Rattle.cw_txn.specs.History.{after_span}
use Rattle.cw_txn.specs.Tables.{history_at}
use Rattle.cw_txn.specs.Walk.{IsSpanTest}
use Rattle.cw_txn.proofs.SpanTests.{span_test-push}
use Rattle.cw_txn.proofs.parts.put_ends.Goals.{then-chains, else-chains}
use Rattle.cw_txn.proofs.parts.put_ends.Goals as goal

pub loop-span-preserved : goal.loop-span-preserved
loop-span-preserved c =
    let spans : List Span = c.args.spans.now in
    let front : List Span = take c.loop-span.span-index spans in
    let span : Span = c.span-item.result in
    let more : take (c.loop-span.span-index + 1) spans ≡ front ++ span ∷ [] =
    take_more spans c.loop-span.span-index span c.loop-span-test.true ∙ ap (λ (s : Span). front ++ s ∷ []) (sym c.span-item.is) in
    let both : c.if-chains.chains ≡ (c.loop-span.chains && c.in_ok-goes_on.goes_on) = elim c.if-chains.branch [
      | then-chains w ↦ w.chains-is ∙ sym (ap (λ (b : Bool). b && c.in_ok-goes_on.goes_on) w.if-chains.true)
      | else-chains w ↦ w.chains-is ∙ w.if-chains.false ∙ sym (ap (λ (b : Bool). b && c.in_ok-goes_on.goes_on) w.if-chains.false)
    ] in (
      λ part. c.in_ok-goes_on.ensures.moved part
          ∙ ap (λ (h : History). after_span part h span) (c.loop-span.invariant.0 part)
          ∙ sym (fold-append (after_span part) (history_at c.args.parts.now part) front (span ∷ []))
          ∙ ap (λ (l : List Span). fold (after_span part) (history_at c.args.parts.now part) l) (sym more),
      subst (λ (l : List Span). IsSpanTest c.args.parts.now l c.if-chains.chains) (sym more)
          (subst (λ (b : Bool). IsSpanTest c.args.parts.now (front ++ span ∷ []) b) (sym both)
          (span_test-push c.args.parts.now c.loop-span.parts front span c.loop-span.invariant.0 c.loop-span.chains c.in_ok-goes_on.goes_on c.loop-span.invariant.1 c.in_ok-goes_on.ensures.goes_on)),
    )

pub returns-clause-chains : goal.returns-clause-chains
returns-clause-chains c = subst (λ (l : List Span). IsSpanTest c.args.parts.now l c.loop-span.chains) (take_all c.loop-span.span-index c.args.spans.now (omega arith)) c.loop-span.invariant.1
