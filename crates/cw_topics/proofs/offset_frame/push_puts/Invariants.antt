use Rattle.std.proofs.Common.{◌≡◌, ◌++◌, take}
use Rattle.std.specs.List.{filter_map}
use Rattle.cw_offset.specs.Replay.{put_in}
use Rattle.cw_topics.proofs.offset_frame.push_puts.Given as goal

abbrev pub invariant-loop-record : goal.invariant-loop-record
invariant-loop-record l = l.calls.items ≡ l.initial.calls.items ++ filter_map (put_in l.tag) (take l.record-index l.records)
