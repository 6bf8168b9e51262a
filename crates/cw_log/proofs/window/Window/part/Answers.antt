use Rattle.std.proofs.Common.{◌∙◌}
use Rattle.cw_log.proofs.Windows.{part_within}
use Rattle.cw_log.proofs.window.Window.part.Goals as goal

pub returns-clause-bytes : goal.returns-clause-bytes
returns-clause-bytes g c file is long =
    let shown = part_within file c.place_of.new.self.bytes.items c.place_of.new.self.start c.in_ok-from.from c.args.at c.args.size c.place_of.new.self.filled c.in_ok-from.ensures.place.0 (c.in_ok-from.ensures.all file is long) (c.in_ok-from.ensures.window file is).shows in
    c.in_ok-copy_into.ensures ∙ c.shown.ensures ∙ shown
