use Rattle.std.proofs.Common.{subst, ◌≡◌, ℕ}
use Rattle.cw_rows.specs.Crew.{with_ends, ends_below}
use Rattle.cw_rows.proofs.Restarts.{ends-all}
use Rattle.cw_rows.proofs.crew.Crew.end_item.Goals as goal

pub returns : goal.returns
returns c = ends-all c.args.item.now c.args.self.now c.end_item_below.new.self
    (subst (λ (n : ℕ). c.end_item_below.new.self ≡ with_ends (ends_below c.args.self.now.rows c.args.item.now n) c.args.self.now) c.workers.ensures c.end_item_below.ensures)
