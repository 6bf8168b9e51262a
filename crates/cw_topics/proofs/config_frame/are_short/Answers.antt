use Rattle.std.proofs.Common.{All, subst, arith}
use Rattle.std.proofs.lemmas.List.{take_all}
use Rattle.std.proofs.lemmas.List.Elements.{All-more, recursion_from_All}
use Rattle.cw_bytes.specs.Spelling.{IsRecord}
use Rattle.cw_topics.proofs.config_frame.are_short.Goals as goal

pub loop-one-preserved : goal.loop-one-preserved
loop-one-preserved c = All-more IsRecord c.args.applied.now c.loop-one.one-index c.one-item.result c.loop-one-test.true c.loop-one.invariant
    (subst IsRecord c.one-item.is (c.is_short.ensures c.if-not-is_short.false))

pub returns : goal.returns
returns c = λ _. record {
  some = c.requires.some;
  few = c.requires.few;
  each = recursion_from_All IsRecord c.args.applied.now
      (subst (All IsRecord) (take_all c.loop-one.one-index c.args.applied.now (omega arith)) c.loop-one.invariant);
}
