use Rattle.std.proofs.Common.{All, subst, refl, arith}
use Rattle.std.proofs.lemmas.List.{take_all}
use Rattle.std.proofs.lemmas.List.Elements.{All-more}
use Rattle.cw_types.specs.declared.ids.Span.{Span}
use Rattle.cw_txn.specs.History.{history, GoesOn}
use Rattle.cw_txn.proofs.coordinator.Coordinator.all_go_on.Goals as goal

pub loop-span-preserved : goal.loop-span-preserved
loop-span-preserved c = All-more (λ (span : Span). GoesOn (history span.part c.args.self.now.entries) span) c.args.spans.now c.loop-span.span-index c.span-item.result c.loop-span-test.true c.loop-span.invariant
    (subst (λ (span : Span). GoesOn (history span.part c.args.self.now.entries) span) c.span-item.is (c.goes_on.ensures.0 c.if-not-goes_on.false))

pub returns : goal.returns
returns c = (
  λ _. subst (All (λ (span : Span). GoesOn (history span.part c.args.self.now.entries) span)) (take_all c.loop-span.span-index c.args.spans.now (omega arith)) c.loop-span.invariant,
  λ each. refl,
)
