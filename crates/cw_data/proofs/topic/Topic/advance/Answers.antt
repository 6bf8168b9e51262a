use Rattle.std.proofs.Common.{sym, ◌∙◌, arith}
use Rattle.cw_data.specs.Tables.{marks_in}
use Rattle.cw_data.proofs.Waiting.{all_passed, next_is}
use Rattle.cw_data.proofs.topic.Topic.advance.Goals as goal

pub loop-self-preserved : goal.loop-self-preserved
loop-self-preserved c = record {
  sound = c.pass.ensures.sound;
  waits = λ name was. c.pass.ensures.waits (marks_in c.args.marks.now) c.args.entries.now name (sym c.marker_at.ensures ∙ c.in-Some.is) (c.loop-self.invariant.waits name was);
  len = c.pass.ensures.same.0 ∙ c.loop-self.invariant.len;
  capacity = c.pass.ensures.same.1 ∙ c.loop-self.invariant.capacity;
}

pub returns-in-None-clause-topic : goal.returns-in-None-clause-topic
returns-in-None-clause-topic c name was =
    next_is (marks_in c.args.marks.now) c.args.entries.now name c.loop-self.self (c.loop-self.invariant.waits name was) c.index-row.result.now (omega arith) c.index-row.ensures (sym c.marker_at.ensures ∙ c.in-None.is)

pub returns-clause-topic : goal.returns-clause-topic
returns-clause-topic c name was = all_passed (marks_in c.args.marks.now) c.args.entries.now name c.loop-self.self (c.loop-self.invariant.waits name was) (omega arith)
