use Rattle.std.proofs.Common.{is_some}
use Rattle.cw_cluster.proofs.driving.drive.Given as goal

abbrev pub ghosts-drive_begun : goal.ghosts-drive_begun
ghosts-drive_begun g a = record { setting = a.world.setting; told = is_some (g.U.Outlet.files a.outlet) }
