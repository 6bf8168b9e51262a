use Rattle.cw_types.specs.declared.logs.DiskName.TheVariants.{ConfigA, ConfigB, OffsetsA, OffsetsB, StatusA, StatusB, Txn, Batches}
use Rattle.cw_gen.proofs.summing.empty_disks.Goals as goal

pub returns : goal.returns
returns c ConfigA = c.new.ensures
returns c ConfigB = c.new-2.ensures
returns c OffsetsA = c.new-3.ensures
returns c OffsetsB = c.new-4.ensures
returns c StatusA = c.new-5.ensures
returns c StatusB = c.new-6.ensures
returns c Txn = c.new-7.ensures
returns c Batches = c.new-8.ensures
