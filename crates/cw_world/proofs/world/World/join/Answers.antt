use Rattle.std.proofs.Common.{sym, subst}
use Rattle.cw_model.specs.EventsGroups.{MayJoin}
use Rattle.cw_world.specs.World.{WorldState}
use Rattle.cw_world.proofs.Claimed.{claimed}
use Rattle.cw_world.proofs.world.World.join.Goals as goal

pub returns-clause-claimed : goal.returns-clause-claimed
returns-clause-claimed g c item is = claimed {w = c.args.w} c.self.invariant.facts.group
    (subst (λ (v : WorldState g.row.D.Denot). MayJoin c.args.w v.state) (sym c.self.view_is) c.requires.may) c.join.ensures item is
