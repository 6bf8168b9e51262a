use Rattle.std.proofs.Common.{◌≡◌, ◌∙◌, ap}
use Rattle.cw_bytes.specs.Frames.{next_after}
use Rattle.cw_open.proofs.RisingLemmas.{test_above, test_first}
use Rattle.cw_open.proofs.rising.Rising.is_below.Goals as goal
use Rattle.cw_config.specs.Tables.{end_at}

pub returns-in-Some : goal.returns-in-Some
returns-in-Some c = rw (← c.self.view_is) (test_above (next_after c.self.inside.passed.items) c.in-Some.last c.args.offset (c.self.invariant ∙ ap end_at c.in-Some.is))

pub returns-in-None : goal.returns-in-None
returns-in-None c = rw (← c.self.view_is) (test_first (next_after c.self.inside.passed.items) c.args.offset (c.self.invariant ∙ ap end_at c.in-None.is))
