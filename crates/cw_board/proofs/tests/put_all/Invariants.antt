use Rattle.std.proofs.Common.{◌≤◌}
use Rattle.cw_config.specs.Acceptance.{end_of}
use Rattle.cw_board.specs.Records.{configs_of}
use Rattle.cw_board.proofs.tests.put_all.Given as goal

-- the next record may stand behind those that were given
abbrev pub invariant-loop-offset : goal.invariant-loop-offset
invariant-loop-offset g l = end_of (configs_of 0 l.writer.given) ≤ l.offset
