use Rattle.std.proofs.Common.{◌∙◌}
use Rattle.cw_run.specs.Answers.{span_words}
use Rattle.cw_cluster.specs.Outcomes.{spaced}
use Rattle.cw_cluster.proofs.Spaces.{all-listed, listed-words}
use Rattle.cw_cluster.proofs.wording.write_spans.Goals as goal

pub returns : goal.returns
returns c =
    all-listed (λ span. spaced (span_words span)) c.args.spans.now c.loop-span.span-index c.write.new.self.items c.loop-span.text.items c.loop-span-test.false c.loop-span.invariant
    ∙ listed-words span_words c.args.spans.now c.args.text.now.items _ c.write.new.self.items c.in_ok-write.ensures.bytes
