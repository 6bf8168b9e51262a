use Rattle.std.proofs.Common.{◌∙◌}
use Rattle.cw_gen.proofs.Summed.{behind-so}
use Rattle.cw_gen.proofs.Made.{stands-none}
use Rattle.cw_gen.proofs.summing.play_over.Goals as goal

pub make-requires-clause-begins : goal.make-requires-clause-begins
make-requires-clause-begins g c =
    stands-none g.D.Disk c.args.player.running.world c.requires.alive c.requires.tells c.requires.state

pub returns-in-Ok-clause-behind : goal.returns-in-Ok-clause-behind
returns-in-Ok-clause-behind g c =
    behind-so g.D.Disk c.args.player.running.world.setting c.args.start c.args.count c.look.result c.make.new.player.running.world
    c.in-Ok.ensures.stands (c.look.ensures.fenced ∙ c.in-Ok.ensures.fenced)
    c.look.ensures.records c.look.ensures.disks c.look.ensures.facts c.look.ensures.few
