use Rattle.std.proofs.Common.{◌∙◌}
use Rattle.cw_rows.proofs.OffsetDue.{readies-offered}
use Rattle.cw_rows.proofs.cluster.Cluster.ready_put_offsets.Goals as goal

pub returns-clause-due : goal.returns-clause-due
returns-clause-due c = readies-offered c.args.i c.in_ok-frame.frame c.args.self.now c.ready_offset.new.self
    (c.in_ok-frame.ensures.frame ∙ c.in_ok-entry.ensures.entry) c.in_ok-entry.ensures.passed c.in_ok-entry.ensures.fits c.in_ok-frame.ensures.setting c.in_ok-frame.ensures.state
