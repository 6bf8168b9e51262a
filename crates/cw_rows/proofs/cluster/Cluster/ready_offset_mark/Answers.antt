use Rattle.std.proofs.Common.{rules, ◌≡◌, ◌∙◌, Ok}
use Rattle.cw_rows.specs.Kept.{open_test}
use Rattle.cw_rows.proofs.OffsetDue.{readies-offset_mark}
use Rattle.cw_rows.proofs.cluster.Cluster.ready_offset_mark.Goals as goal

pub returns-clause-due : goal.returns-clause-due
returns-clause-due c =
    let passed : open_test c.args.self.now.state.closed (Ok tt) ≡ Ok tt = search rules in
    readies-offset_mark c.in_ok-frame.frame c.args.self.now c.ready_offset.new.self (c.in_ok-frame.ensures.frame ∙ c.in_ok-marker.ensures.marker) passed
    c.in_ok-frame.ensures.setting c.in_ok-frame.ensures.state
