use Rattle.std.proofs.Common.{◌≡◌, take}
use Rattle.cw_plugin.proofs.task.copy_of_parts.Given as goal

-- the copies so far are the first of all
abbrev pub invariant-loop-part : goal.invariant-loop-part
invariant-loop-part l = l.copies.items ≡ take l.part-index l.part-items
