use Rattle.std.proofs.Common.{◌≡◌, length}
use Rattle.cw_plugin.specs.Lists.{has_repeat}
use Rattle.cw_plugin.proofs.lists.has_repeat.Given as goal

abbrev pub invariant-loop-first : goal.invariant-loop-first
invariant-loop-first l = has_repeat l.rest ≡ has_repeat l.texts

abbrev pub decreases-loop-first : goal.decreases-loop-first
decreases-loop-first l = length l.rest
