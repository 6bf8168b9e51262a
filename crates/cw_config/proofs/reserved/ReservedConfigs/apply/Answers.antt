use Rattle.std.proofs.Common.{◌≡◌, ◌++◌, length, arith, ap}
use Rattle.std.specs.Vec.Iter.{into_iter_items, into_iter_len}
use Rattle.cw_config.proofs.Applying.{applied_one}
use Rattle.cw_config.proofs.reserved.ReservedConfigs.apply.Goals as goal

pub loop-added-preserved : goal.loop-added-preserved
loop-added-preserved c =
    let steps = c.in-Some.ensures.steps in
    let len : into_iter_len c.next.new.self ≡ length (into_iter_items c.next.new.self) = omega (arith, steps.1, c.loop-added.invariant.2, ap length steps.0) in (
      tt,
      tt,
      len,
      applied_one c.loop-added.tables c.loop-added.records.items (into_iter_items c.loop-added.added-iterator) (c.args.self.records ++ c.args.self.frame) c.loop-added.invariant.3
          c.in-Some.added (into_iter_items c.next.new.self) steps.0 c.add.new.tables c.add.new.records.items c.add.ensures.items c.add.ensures.kept c.add.ensures.rows,
    )
