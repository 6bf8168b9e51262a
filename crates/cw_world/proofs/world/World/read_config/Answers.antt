use Rattle.std.proofs.Common.{[]}
use Rattle.cw_laws.proofs.CompactConfigs.{accepted-allowed}
use Rattle.cw_model.specs.EventsItems.{read_config}
use Rattle.cw_world.specs.Logs.{logs_of}
use Rattle.cw_world.proofs.Quiet.{wanting-keeps}
use Rattle.cw_world.proofs.world.World.read_config.Goals as goal

pub read_config-requires-clause-accepted : goal.read_config-requires-clause-accepted
read_config-requires-clause-accepted g c =
    accepted-allowed [] c.self.inside.cluster.state.configs c.self.invariant.facts.logs.configs.allowed

pub invariant_of-self : goal.invariant_of-self
invariant_of-self g c = wanting-keeps g.D.Disk (logs_of c.self.inside.logs.config c.self.inside.logs.offsets c.self.inside.logs.status c.self.inside.logs.txn c.self.inside.logs.batches) (read_config c.args.w) c.self.inside.cluster c.read_config.new.self c.read_config.result
    (c.items_keep_facts.ensures.read_config c.self.inside.cluster.setting c.self.inside.cluster.state c.args.w) c.read_config.ensures c.self.invariant
