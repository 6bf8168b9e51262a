use Rattle.std.proofs.Common.{sym, ◌∙◌, arith}
use Rattle.cw_io.proofs.Pieces.{left_behind}
use Rattle.cw_io.proofs.portions.Front.give.Goals as goal

pub returns-clause-taken : goal.returns-clause-taken
returns-clause-taken c =
    sym c.self.view_is
    ∙ left_behind c.self.inside.bytes.items c.deref.result.now c.copy_from_slice.new.self _ c.self.inside.at c.min-count.result (omega arith) c.deref.ensures.value c.copy_from_slice.ensures.after
