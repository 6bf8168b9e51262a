use Rattle.cw_model.specs.Reopening.{stored_of}
use Rattle.cw_turns.proofs.Leaving.{left-behind}
use Rattle.cw_turns.proofs.giving_back.give_back.Goals as goal

pub returns-clause-left : goal.returns-clause-left
returns-clause-left g c =
    let world = c.args.world in let given = c.give_back.result.0 in
    λ start goes. left-behind g.D.Disk start world given c.give_back.ensures.disks goes c.give_back.ensures.told
    (λ alive kinds tells. c.given_disks_leave_what_was_stored.ensures world.logs given (stored_of world.state) kinds tells (c.give_back.ensures.stored alive))
