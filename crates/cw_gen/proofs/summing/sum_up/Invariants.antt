use Rattle.std.proofs.Common.{false}
use Rattle.cw_gen.proofs.summing.sum_up.Given as goal

abbrev pub ghosts-play_all : goal.ghosts-play_all
ghosts-play_all a = record { setting = a.world.setting; told = false }
