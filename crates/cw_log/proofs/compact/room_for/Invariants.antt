use Rattle.std.proofs.Common.{◌≡◌, ◌≤◌, ◌+◌, length, take, vec_len, vec_capacity}
use Rattle.std.specs.Prelude.{All}
use Rattle.cw_log.specs.Compaction.{bodies_in}
use Rattle.cw_log.proofs.compact.room_for.Given as goal

abbrev pub invariant-loop-body : goal.invariant-loop-body
invariant-loop-body l = record {
  empty : vec_len l.room ≡ 0;
  fits : All (λ body. length body + 6 ≤ vec_capacity l.room) (bodies_in (take l.body-index l.bodies));
}
