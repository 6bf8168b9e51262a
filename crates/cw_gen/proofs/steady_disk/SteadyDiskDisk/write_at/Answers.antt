use Rattle.cw_gen.proofs.Steadying.{goes_on_to}
use Rattle.cw_gen.proofs.steady_disk.SteadyDiskDisk.write_at.Goals as goal

pub returns-clause-time : goal.returns-clause-time
returns-clause-time c = goes_on_to c.args.self.now.past.items c.and-self.result.items c.args.self.now.held (record { bytes = c.overwrite.new.bytes }) c.and-self.ensures
