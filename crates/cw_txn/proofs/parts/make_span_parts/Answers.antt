use Rattle.std.proofs.Common.{◌∙◌, ◌<◌, All, subst, arith, length}
use Rattle.std.proofs.lemmas.List.Elements.{All-more, All-weaker}
use Rattle.std.proofs.lemmas.List.{take_all}
use Rattle.cw_types.specs.declared.ids.Span.{Span}
use Rattle.cw_txn.specs.Tables.{HasPart}
use Rattle.cw_txn.proofs.parts.make_span_parts.Goals as goal

pub loop-span-preserved : goal.loop-span-preserved
loop-span-preserved c =
    let within : c.loop-span.span-index < length c.args.spans.now = c.loop-span-test.true in (
      λ q. c.make_part.ensures.same q ∙ c.loop-span.invariant.0 q,
      λ q had. c.make_part.ensures.kept q (c.loop-span.invariant.1 q had),
      All-more (λ (span : Span). HasPart c.make_part.new.parts span.part) c.args.spans.now c.loop-span.span-index c.span-item.result within
          (All-weaker (λ (span : Span). HasPart c.loop-span.parts span.part) (λ (span : Span). HasPart c.make_part.new.parts span.part) (λ span. c.make_part.ensures.kept span.part) _ c.loop-span.invariant.2)
          (subst (λ (span : Span). HasPart c.make_part.new.parts span.part) c.span-item.is c.in_ok-make_part.ensures.there),
    )

pub returns-clause-there : goal.returns-clause-there
returns-clause-there c = subst (All (λ (span : Span). HasPart c.loop-span.parts span.part)) (take_all c.loop-span.span-index c.args.spans.now (omega arith)) c.loop-span.invariant.2
