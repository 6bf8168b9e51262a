use Rattle.cw_line.specs.Sides.{name_of}
use Rattle.cw_line.proofs.tests.each_link_is_taken_once_in_its_order.Given as goal

abbrev pub ghosts-take_each : goal.ghosts-take_each
ghosts-take_each g a = record { table = name_of a.line.now }
