use Rattle.cw_gen.proofs.Made.{IsMaking}
use Rattle.cw_gen.proofs.making.make.Given as goal

abbrev pub invariant-loop-made : goal.invariant-loop-made
invariant-loop-made g l =
    IsMaking g.D.Disk l.fn.player.running.world.setting l.fn.start l.made l.draws l.fenced l.player.running.world l.player.answers
