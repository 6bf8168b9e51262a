use Rattle.std.proofs.Common.{subst}
use Rattle.cw_ticks.specs.declared.turn.Turn.{Turn}
use Rattle.cw_ticks.specs.Turns.{IsTurn}
use Rattle.cw_herder.proofs.Led.{lead-asked, propose-asked, fence-asked, mark-asked}
use Rattle.cw_herder.proofs.taking.take.Goals as goal

pub ask-requires-clause-asked : goal.ask-requires-clause-asked
ask-requires-clause-asked g c =
    let s = c.args.world.now.state in
    lead-asked c.args.w s c.requires.there (subst (λ (t : Turn). IsTurn t c.args.w s) c.in-Lead.is c.requires.turn)

pub ask-requires-in-Propose-clause-asked : goal.ask-requires-in-Propose-clause-asked
ask-requires-in-Propose-clause-asked g c =
    let s = c.args.world.now.state in
    propose-asked c.args.w s c.in-Propose.connector c.in-Propose.leader c.args.world.now.setting _ c.is_safe.ensures.facts
    (subst (λ (t : Turn). IsTurn t c.args.w s) c.in-Propose.is c.requires.turn)

pub ask-requires-in-Fence-clause-asked : goal.ask-requires-in-Fence-clause-asked
ask-requires-in-Fence-clause-asked g c =
    let s = c.args.world.now.state in
    fence-asked c.args.w s c.in-Fence.connector _ (subst (λ (t : Turn). IsTurn t c.args.w s) c.in-Fence.is c.requires.turn)

pub ask-requires-in-Mark-clause-asked : goal.ask-requires-in-Mark-clause-asked
ask-requires-in-Mark-clause-asked g c =
    let s = c.args.world.now.state in
    mark-asked c.args.w s _ c.requires.there (subst (λ (t : Turn). IsTurn t c.args.w s) c.in-Mark.is c.requires.turn)
