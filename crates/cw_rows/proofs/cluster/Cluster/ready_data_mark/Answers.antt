use Rattle.std.proofs.Common.{rules, ◌≡◌, ◌∙◌, Ok}
use Rattle.cw_rows.specs.Kept.{open_test}
use Rattle.cw_rows.proofs.DataDue.{readies-mark}
use Rattle.cw_rows.proofs.cluster.Cluster.ready_data_mark.Goals as goal

pub returns-clause-due : goal.returns-clause-due
returns-clause-due c =
    let passed : open_test c.args.self.now.state.closed (Ok tt) ≡ Ok tt = search rules in
    readies-mark c.in_ok-frame.frame c.args.self.now c.ready_data.new.self (c.in_ok-frame.ensures.frame ∙ c.in_ok-marker.ensures.marker) passed
    c.in_ok-frame.ensures.setting c.in_ok-frame.ensures.state
