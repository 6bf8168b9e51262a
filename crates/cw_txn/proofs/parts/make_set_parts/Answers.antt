use Rattle.std.proofs.Common.{◌∙◌, ◌<◌, All, subst, arith, length}
use Rattle.std.proofs.lemmas.List.Elements.{All-more, All-weaker}
use Rattle.std.proofs.lemmas.List.{take_all}
use Rattle.cw_txn.specs.declared.entry.SetOffset.{SetOffset}
use Rattle.cw_txn.specs.Tables.{HasPart}
use Rattle.cw_txn.proofs.parts.make_set_parts.Goals as goal

pub loop-set-preserved : goal.loop-set-preserved
loop-set-preserved c =
    let within : c.loop-set.set-index < length c.args.list.now = c.loop-set-test.true in (
      λ q. c.make_part.ensures.same q ∙ c.loop-set.invariant.0 q,
      λ q had. c.make_part.ensures.kept q (c.loop-set.invariant.1 q had),
      All-more (λ (set : SetOffset). HasPart c.make_part.new.parts set.part) c.args.list.now c.loop-set.set-index c.set-item.result within
          (All-weaker (λ (set : SetOffset). HasPart c.loop-set.parts set.part) (λ (set : SetOffset). HasPart c.make_part.new.parts set.part) (λ set. c.make_part.ensures.kept set.part) _ c.loop-set.invariant.2)
          (subst (λ (set : SetOffset). HasPart c.make_part.new.parts set.part) c.set-item.is c.in_ok-make_part.ensures.there),
    )

pub returns-clause-there : goal.returns-clause-there
returns-clause-there c = subst (All (λ (set : SetOffset). HasPart c.loop-set.parts set.part)) (take_all c.loop-set.set-index c.args.list.now (omega arith)) c.loop-set.invariant.2
