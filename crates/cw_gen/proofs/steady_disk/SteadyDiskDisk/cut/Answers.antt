use Rattle.cw_gen.proofs.Steadying.{goes_on_to}
use Rattle.cw_gen.proofs.steady_disk.SteadyDiskDisk.cut.Goals as goal

pub returns-clause-time : goal.returns-clause-time
returns-clause-time c = goes_on_to c.args.self.now.past.items c.and-self.result.items c.args.self.now.held (record { bytes = c.truncate.new.self }) c.and-self.ensures
