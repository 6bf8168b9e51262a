use Rattle.std.proofs.Common.{◌∙◌, ap}
use Rattle.cw_disk.proofs.Images.{sync_only, sync_held, goes_on_to}
use Rattle.cw_disk.proofs.memory.MemDiskDisk.sync.Goals as goal

pub invariant_of-self-2 : goal.invariant_of-self-2
invariant_of-self-2 c = record {
  held = sync_held c.self.inside.held c.sync.new.self c.self.invariant.held c.sync.ensures.fast;
  wide = c.sync.ensures.room c.self.inside.room c.self.invariant.wide;
}

pub returns-clause-durable : goal.returns-clause-durable
returns-clause-durable c file is image left =
    let reads = ap (λ v. v.held.bytes.items) c.self.view_is in
    sync_only c.self.inside.held c.sync.new.self c.self.invariant.held c.sync.ensures.fast image left ∙ reads ∙ cc

pub returns-clause-time : goal.returns-clause-time
returns-clause-time c = rw (← c.self.view_is) (goes_on_to c.self.inside.past.items c.and-self-inside.result.items c.self.inside.held c.sync.new.self c.and-self-inside.ensures)
