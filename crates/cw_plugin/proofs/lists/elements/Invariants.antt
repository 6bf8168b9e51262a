use Rattle.std.proofs.Common.{◌≡◌, ◌++◌, length}
use Rattle.std.specs.Str.{IsUtf8}
use Rattle.cw_plugin.specs.Lists.{elements}
use Rattle.cw_plugin.proofs.lists.elements.Given as goal

abbrev pub invariant-loop-front : goal.invariant-loop-front
invariant-loop-front l = (l.found.items ++ elements l.rest ≡ elements l.text) × IsUtf8 l.rest

abbrev pub decreases-loop-front : goal.decreases-loop-front
decreases-loop-front l = length l.rest
