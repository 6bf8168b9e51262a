use Rattle.cw_open.proofs.SafeLemmas.{task_unbacked, task_passes}
use Rattle.cw_open.proofs.safety.task_stands.Goals as goal

pub returns-then-not-have : goal.returns-then-not-have
returns-then-not-have c = λ records log known.
    task_unbacked records log c.args.place c.args.tag.now c.args.generation c.args.spans.now c.args.connector.now c.in_ok-have.have (c.in_ok-have.ensures log known.spans) c.if-not-have.true

pub returns : goal.returns
returns c = λ records log known.
    task_passes records log c.args.place c.args.tag.now c.args.generation c.args.spans.now c.args.connector.now c.in_ok-have.have (c.in_ok-have.ensures log known.spans) c.if-not-have.false
    c.let_pass.result (c.let_pass.ensures records known.fences)
