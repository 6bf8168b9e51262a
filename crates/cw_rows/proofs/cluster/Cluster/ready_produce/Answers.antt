use Rattle.std.proofs.Common.{ap, ◌∙◌}
use Rattle.cw_data.specs.declared.entry.DataEntry.TheVariants.{Batch as InBatch}
use Rattle.cw_rows.proofs.DataDue.{readies-produce}
use Rattle.cw_rows.proofs.cluster.Cluster.ready_produce.Goals as goal

pub returns-clause-due : goal.returns-clause-due
returns-clause-due c = readies-produce c.args.i c.args.cut c.in_ok-frame.frame c.args.self.now c.ready_data.new.self
    (c.in_ok-frame.ensures.frame ∙ ap InBatch c.in_ok-batch.ensures.batch ∙ c.in_ok-whole.ensures.batch) c.in_ok-whole.ensures.passed c.in_ok-frame.ensures.setting c.in_ok-frame.ensures.state
