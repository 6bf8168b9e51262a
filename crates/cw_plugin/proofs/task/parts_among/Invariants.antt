use Rattle.std.proofs.Common.{◌≡◌, [], drop}
use Rattle.cw_plugin.specs.Parts.{parts_behind}
use Rattle.cw_plugin.proofs.task.parts_among.Given as goal

abbrev pub invariant-loop-text : goal.invariant-loop-text
invariant-loop-text l = parts_behind l.found.items l.connector l.field (drop l.text-index l.texts) ≡ parts_behind [] l.connector l.field l.texts
