use Rattle.std.proofs.Common.{◌++◌, List, ap, ◌∙◌}
use Rattle.std.specs.List.{filter_map}
use Rattle.cw_bytes.specs.declared.applied.Applied.{Applied}
use Rattle.cw_config.specs.Compaction.{config_in}
use Rattle.cw_topics.proofs.Taking.{frame-read, frames-read}
use Rattle.cw_topics.proofs.opened.configs_of.Goals as goal

pub loop-frame-preserved : goal.loop-frame-preserved
loop-frame-preserved c =
    frame-read c.args.frames.now c.loop-frame.frame-index c.loop-frame.records.items c.loop-frame.invariant c.frame-item.result c.loop-frame-test.true c.frame-item.is
    c.read_frame.new.records.items
    (c.in_ok-read_frame.ensures ∙ ap (λ (l : List Applied). c.loop-frame.records.items ++ filter_map config_in l) c.as_slice.ensures)

pub returns : goal.returns
returns c = frames-read c.args.frames.now c.loop-frame.frame-index c.loop-frame.records.items c.loop-frame.invariant c.loop-frame-test.false
