use Rattle.std.proofs.Common.{◌≡◌, ◌∙◌, sym, subst}
use Rattle.std.proofs.lemmas.Result.{IfOk-weaker}
use Rattle.cw_disk.specs.Memory.{Leaves}
use Rattle.cw_disk.proofs.Images.{way_image}
use Rattle.cw_disk.proofs.memory.MemDisk.image.Goals as goal

pub returns-clause-left : goal.returns-clause-left
returns-clause-left c =
    rw (← c.self.view_is) (IfOk-weaker c.new-2.result (λ disk. disk.held.bytes.items ≡ c.in_ok-bytes.bytes.items) (λ disk. Leaves c.self.inside.held disk.held.bytes.items)
    (λ disk is. subst (Leaves c.self.inside.held) (sym (is ∙ c.in_ok-bytes.ensures)) (way_image c.args.way c.self.inside.held c.self.invariant.held)) c.new-2.ensures.reads)
