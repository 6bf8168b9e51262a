use Rattle.std.proofs.Common.{◌∙◌, arith}
use Rattle.cw_disk.proofs.Images.{fast_again}
use Rattle.cw_disk.proofs.held.fasten_behind.Goals as goal

pub returns-clause-items : goal.returns-clause-items
returns-clause-items c = c.in-Ok.ensures.items ∙ fast_again c.truncate.new.self.items c.args.clean c.args.length _ (c.truncate.ensures.items ∙ c.requires.agree) c.requires.clean (omega (arith, c.truncate.ensures.len, c.requires.there))
