use Rattle.std.proofs.Common.{List, ◌++◌, subst}
use Rattle.std.specs.List.{filter_map}
use Rattle.cw_bytes.specs.declared.applied.Applied.{Applied}
use Rattle.cw_config.specs.declared.records.ConfigRecord.{ConfigRecord}
use Rattle.cw_config.specs.Compaction.{config_in}
use Rattle.cw_open.specs.Standing.{AreFences}
use Rattle.cw_open.proofs.FenceLemmas.{frames_more, frames_all}
use Rattle.cw_open.proofs.fences.FenceTable.of.Goals as goal

pub loop-at-init : goal.loop-at-init
loop-at-init c = c.new-table.ensures

pub loop-at-preserved : goal.loop-at-preserved
loop-at-preserved c =
    frames_more c.args.frames.now c.loop-at.at c.index-frames-at.result c.loop-at-test.true c.index-frames-at.is c.loop-at.table c.put_all.new.table c.loop-at.invariant
    (subst (λ (frame : List Applied). (l : List ConfigRecord) → AreFences c.loop-at.table l → AreFences c.put_all.new.table (l ++ filter_map config_in frame)) c.as_slice.ensures c.in_ok-put_all.ensures)

pub returns : goal.returns
returns c = frames_all c.args.frames.now c.loop-at.at c.loop-at.table c.loop-at-test.false c.loop-at.invariant
