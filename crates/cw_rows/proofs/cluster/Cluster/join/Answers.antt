use Rattle.std.proofs.Common.{sym, ap, ◌∙◌}
use Rattle.cw_model.specs.Lookups.{held}
use Rattle.cw_rows.specs.Kept.{Kept}
use Rattle.cw_rows.proofs.Joins.{join-done}
use Rattle.cw_rows.proofs.cluster.Cluster.join.Goals as goal

pub returns : goal.returns
returns c = join-done c.args.w c.args.self.now c.enter.new.self c.join_group.new.self c.join_group.result c.requires.may (sym c.in_ok-test_worker.ensures)
    c.in_ok-enter.ensures.ok c.in_ok-enter.ensures.setting c.in-Ok.held.items (c.in-Ok.ensures.items ∙ ap (λ (k : Kept). held c.args.w k.state) c.self.view_is)
    c.join_group.ensures.row c.join_group.ensures.nothing
