use Rattle.cw_disk.proofs.Images.{held_same}
use Rattle.cw_disk.proofs.memory.MemDiskDisk.reserve.Goals as goal

pub invariant_of-self : goal.invariant_of-self
invariant_of-self c = record {
  held = held_same c.self.inside.held c.reserve.new.self c.reserve.ensures.bytes c.reserve.ensures.loose c.reserve.ensures.synced c.reserve.ensures.least c.reserve.ensures.clean c.self.invariant.held;
  wide = c.reserve.ensures.kept c.self.inside.room c.self.invariant.wide;
}
