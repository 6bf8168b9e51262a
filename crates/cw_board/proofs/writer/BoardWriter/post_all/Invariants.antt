use Rattle.std.proofs.Common.{◌≡◌, ◌++◌, take}
use Rattle.cw_board.specs.Records.{posted}
use Rattle.cw_board.proofs.writer.BoardWriter.post_all.Given as goal

-- the records up to here are given
abbrev pub invariant-loop-index : goal.invariant-loop-index
invariant-loop-index g l =
    (l.self.published ≡ l.fn.self.published)
    × (l.self.front ≡ l.fn.self.front)
    × (l.self.given ≡ l.fn.self.given ++ posted l.worker (take l.index l.records))
