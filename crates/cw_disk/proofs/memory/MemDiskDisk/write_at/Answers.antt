use Rattle.std.proofs.Common.{◌+◌, ◌≤◌, List, ℕ, length, subst, sym, refl}
use Rattle.cw_disk.specs.Memory.{Wrote, Leaves}
use Rattle.cw_disk.proofs.Images.{write_follows, write_first, write_held, goes_on_to}
use Rattle.cw_disk.proofs.memory.MemDiskDisk.write_at.Goals as goal

pub invariant_of-self : goal.invariant_of-self
invariant_of-self c =
    let starts = subst (λ v. c.args.at ≤ length v.held.bytes.items) (sym c.self.view_is) (c.requires.start _ refl) in
    let room = subst (λ v. c.args.at + length c.args.from.now ≤ v.room) (sym c.self.view_is) c.requires.room in
    record {
      held = write_held c.self.inside.held c.write.new.self c.args.at c.args.from.now c.self.invariant.held starts c.write.ensures.wrote;
      wide = c.write.ensures.room c.self.inside.room room c.self.invariant.wide;
    }

pub returns-clause-crash : goal.returns-clause-crash
returns-clause-crash c =
    let starts = subst (λ v. c.args.at ≤ length v.held.bytes.items) (sym c.self.view_is) (c.requires.start _ refl) in
    rw (← c.self.view_is) (write_follows c.self.inside.held c.write.new.self c.args.at c.args.from.now c.self.invariant.held starts c.write.ensures.wrote)

pub returns-clause-first : goal.returns-clause-first
returns-clause-first c at from few =
    let wrote = subst (λ (n : ℕ). Wrote n c.args.from.now c.self.inside.held c.write.new.self) at c.write.ensures.wrote in
    let wrote_first = subst (λ (l : List ℕ). Wrote 0 l c.self.inside.held c.write.new.self) from wrote in
    write_first c.self.inside.held c.write.new.self c.self.invariant.held wrote_first (subst (λ v. (image : List ℕ) → Leaves v.held image → length image ≤ 1) (sym c.self.view_is) few)

pub returns-clause-time : goal.returns-clause-time
returns-clause-time c = rw (← c.self.view_is) (goes_on_to c.self.inside.past.items c.and-self-inside.result.items c.self.inside.held c.write.new.self c.and-self-inside.ensures)
