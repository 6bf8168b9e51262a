use Rattle.cw_open.proofs.SafeLemmas.{lead_stands, raw_stands, task_stands}
use Rattle.cw_open.proofs.safety.commit_stands.Goals as goal

pub returns-in-Lead : goal.returns-in-Lead
returns-in-Lead c = λ records log known. lead_stands records log c.args.place c.args.tag.now c.args.generation c.args.spans.now c.in-Lead.is

pub returns-in_ok-stands-in-Task : goal.returns-in_ok-stands-in-Task
returns-in_ok-stands-in-Task c = λ records log known.
    task_stands records log c.args.place c.args.tag.now c.args.generation c.args.spans.now c.in-Task.id c.in-Task.is c.in_ok-stands-in-Task.stands (c.in_ok-stands-in-Task.ensures records log known)

pub returns-in-Raw : goal.returns-in-Raw
returns-in-Raw c = λ records log known. raw_stands records log c.args.place c.args.tag.now c.args.generation c.args.spans.now c.in-Raw.field-0 c.in-Raw.is
