use Rattle.std.proofs.Common.{◌≡◌, ◌++◌, ◌-◌, ◌*◌, ◌+◌, length, map}
use Rattle.std.specs.List.{join_with_byte}
use Rattle.cw_plugin.specs.Tasks.{groups}
use Rattle.cw_plugin.proofs.shares.parted.Given as goal

abbrev pub invariant-loop-index : goal.invariant-loop-index
invariant-loop-index l = record {
  left : (l.count - l.index) * l.least + (l.more - l.index) ≡ length l.rest;
  made : l.groups.items ++ map (join_with_byte 44) (groups (l.count - l.index) l.least (l.more - l.index) l.rest)
      ≡ map (join_with_byte 44) (groups l.count l.least l.more l.texts);
}
