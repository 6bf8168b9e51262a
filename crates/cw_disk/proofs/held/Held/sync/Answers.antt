use Rattle.std.proofs.Common.{arith}
use Rattle.cw_disk.proofs.Images.{front_fast}
use Rattle.cw_disk.proofs.held.Held.sync.Goals as goal

pub fasten_behind-requires-clause-agree : goal.fasten_behind-requires-clause-agree
fasten_behind-requires-clause-agree c = front_fast c.args.self.now.loose.items c.args.self.now.clean (omega (arith, c.requires.held.firm, c.requires.held.reads.no_shorter, c.requires.held.reads.no_longer)) c.requires.held.clean
