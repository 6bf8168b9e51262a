use Rattle.std.proofs.Common.{◌≤◌, length, subst, sym, refl}
use Rattle.cw_disk.proofs.Images.{cut_follows, cut_held, goes_on_to}
use Rattle.cw_disk.proofs.memory.MemDiskDisk.cut.Goals as goal

pub invariant_of-self : goal.invariant_of-self
invariant_of-self c =
    let end = subst (λ v. c.args.to ≤ length v.held.bytes.items) (sym c.self.view_is) (c.requires _ refl) in
    record {
      held = cut_held c.self.inside.held c.cut.new.self c.args.to c.self.invariant.held end c.cut.ensures.cut;
      wide = c.cut.ensures.room c.self.inside.room c.self.invariant.wide;
    }

pub returns-clause-crash : goal.returns-clause-crash
returns-clause-crash c =
    let end = subst (λ v. c.args.to ≤ length v.held.bytes.items) (sym c.self.view_is) (c.requires _ refl) in
    rw (← c.self.view_is) (cut_follows c.self.inside.held c.cut.new.self c.args.to c.self.invariant.held end c.cut.ensures.cut)

pub returns-clause-time : goal.returns-clause-time
returns-clause-time c = rw (← c.self.view_is) (goes_on_to c.self.inside.past.items c.and-self-inside.result.items c.self.inside.held c.cut.new.self c.and-self-inside.ensures)
