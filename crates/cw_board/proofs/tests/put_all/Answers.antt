use Rattle.std.proofs.Common.{◌≡◌, [], ◌∷◌, rules}
use Rattle.cw_board.proofs.Removals.{removal, stands_behind}
use Rattle.cw_board.proofs.tests.put_all.Goals as goal

pub loop-offset-preserved : goal.loop-offset-preserved
loop-offset-preserved g c =
    let one : c.expect-records.result.items ≡ removal c.loop-offset.offset ∷ [] = search rules in
    stands_behind c.loop-offset.writer.given c.loop-offset.offset c.loop-offset.invariant c.expect-records.result.items c.put.new.self.given c.put.new.self.published c.put.result
    c.expect-in-loop-offset.result one c.expect-in-loop-offset.ensures c.put.ensures.published c.put.ensures.all
