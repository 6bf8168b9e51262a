use Rattle.std.proofs.Common.{◌≡◌, drop}
use Rattle.cw_plugin.specs.Classes.{class_among}
use Rattle.cw_plugin.proofs.class.class_among.Given as goal

abbrev pub invariant-loop-class : goal.invariant-loop-class
invariant-loop-class l = class_among (drop l.class-index l.classes) l.text ≡ class_among l.classes l.text
