use Rattle.std.proofs.Common.{◌<◌, length, arith}
use Rattle.cw_config.proofs.MadeRows.{same-then, have-more}
use Rattle.cw_config.proofs.reserved.make_rows.Goals as goal

pub returns-in_err-make_row-clause-same : goal.returns-in_err-make_row-clause-same
returns-in_err-make_row-clause-same c = same-then c.args.tables.now c.loop-added.tables c.make_row.new.self c.loop-added.invariant.same c.in_err-make_row.ensures.same

pub loop-added-preserved : goal.loop-added-preserved
loop-added-preserved c =
    let within : c.loop-added.added-index < length c.args.frame.now = omega (arith, c.loop-added-test.true) in
    record {
      same = same-then c.args.tables.now c.loop-added.tables c.make_row.new.self c.loop-added.invariant.same c.in_ok-make_row.ensures.same;
      rows = have-more c.loop-added.tables c.make_row.new.self c.args.frame.now c.loop-added.added-index c.added-item.result within c.added-item.is
          c.in_ok-make_row.ensures.kept c.loop-added.invariant.rows c.in_ok-make_row.ensures.there;
    }
