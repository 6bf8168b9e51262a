use Rattle.std.proofs.Common.{map}
use Rattle.cw_model.specs.TickText.{item_text}
use Rattle.cw_cluster.proofs.Spaces.{done-then, held-words}
use Rattle.cw_cluster.proofs.wording.write_held.Goals as goal

pub returns : goal.returns
returns c =
    done-then c.write_items.result
    (held-words (map item_text c.args.items.now) c.args.w c.args.text.now.items c.write.new.self.items c.write_items.new.text.items c.in_ok-write.ensures.bytes)
    c.write_items.ensures
