use Rattle.std.proofs.Common.{List, subst}
use Rattle.cw_txn.specs.declared.entry.SetOffset.{SetOffset}
use Rattle.cw_world.specs.World.{Acts}
use Rattle.cw_herder.specs.Operations.{sets}
use Rattle.cw_herder.proofs.Done.{claims-made, proposes-made, fences-made, marks-made, connector-made, target-made, delete-made, sets-made}
use Rattle.cw_herder.proofs.operations.op_step.Goals as goal

pub returns-in-Lead : goal.returns-in-Lead
returns-in-Lead g c = claims-made g.D.Disk c.args.w c.args.world.now _ _ c.args.op.now c.in-Lead.is c.claim.ensures

pub returns-in-Propose : goal.returns-in-Propose
returns-in-Propose g c = proposes-made g.D.Disk c.args.w c.args.world.now _ _ c.args.op.now c.in-Propose.connector c.in-Propose.is c.propose.ensures

pub returns-in-Fence : goal.returns-in-Fence
returns-in-Fence g c = fences-made g.D.Disk c.args.w c.args.world.now _ _ c.args.op.now c.in-Fence.connector c.in-Fence.is c.fence.ensures

pub returns-in-Mark : goal.returns-in-Mark
returns-in-Mark g c = marks-made g.D.Disk c.args.w c.args.world.now _ _ c.args.op.now c.in-Mark.is c.mark.ensures

pub returns-in-Connector : goal.returns-in-Connector
returns-in-Connector g c = connector-made g.D.Disk c.args.w c.args.world.now _ _ c.args.op.now _ _ c.in-Connector.is c.configure.ensures

pub returns-in-SetTarget : goal.returns-in-SetTarget
returns-in-SetTarget g c = target-made g.D.Disk c.args.w c.args.world.now _ _ c.args.op.now _ _ c.in-SetTarget.is c.configure-in-SetTarget.ensures

pub returns-in-Delete : goal.returns-in-Delete
returns-in-Delete g c = delete-made g.D.Disk c.args.w c.args.world.now _ _ c.args.op.now _ c.in-Delete.is c.configure-in-Delete.ensures

pub returns-in-Offsets : goal.returns-in-Offsets
returns-in-Offsets g c = sets-made g.D.Disk c.args.w c.args.world.now _ _ c.args.op.now c.in-Offsets.connector c.in-Offsets.list c.in-Offsets.is
    (subst (λ (l : List SetOffset). Acts g.D.Disk (sets c.args.w c.in-Offsets.connector l) c.args.world.now c.set_offsets.new.world c.set_offsets.result)
    c.as_slice.ensures c.set_offsets.ensures)
