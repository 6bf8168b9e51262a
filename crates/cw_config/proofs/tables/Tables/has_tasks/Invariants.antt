use Rattle.std.proofs.Common.{◌≡◌, true}
use Rattle.std.specs.List.{list_all, range_with_len}
use Rattle.cw_config.specs.Tables.{is_deferred}
use Rattle.cw_config.proofs.tables.Tables.has_tasks.Given as goal

-- each task so far waits for a commit
abbrev pub invariant-loop-index : goal.invariant-loop-index
invariant-loop-index l = record {
  name : l.id.connector ≡ l.name;
  so_far : list_all (is_deferred l.self l.name) (range_with_len 0 l.index) ≡ true;
}
