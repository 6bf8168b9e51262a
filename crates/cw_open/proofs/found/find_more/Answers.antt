use Rattle.std.proofs.Common.{◌∙◌, sym}
use Rattle.cw_open.proofs.FoundLemmas.{finds-frame, finds-none, finds-nothing}
use Rattle.cw_open.proofs.found.find_more.Goals as goal

pub returns-then-is_some : goal.returns-then-is_some
returns-then-is_some g c = finds-nothing g.A.LogFrame.at c.args.body.now c.args.gate c.args.frames.now.items c.args.gates.now.items c.args.unread.now (cc)

pub returns-in_ok-push-in-Ok-2 : goal.returns-in_ok-push-in-Ok-2
returns-in_ok-push-in-Ok-2 g c = rw (c.in_ok-push-in-Ok.ensures.items, c.in_ok-push-in-Ok-2.ensures.items)
    (finds-frame g.A.LogFrame.at c.args.body.now c.args.gate c.args.frames.now.items c.args.gates.now.items c.args.unread.now (cc) c.in-Ok.frame c.in-Ok.ensures)

pub returns-in-Err-NotBody : goal.returns-in-Err-NotBody
returns-in-Err-NotBody g c =
    finds-none g.A.LogFrame.at c.args.body.now c.args.gate c.args.frames.now.items c.args.gates.now.items c.args.unread.now (cc)
    (c.in-Err-NotBody.ensures (λ e. let same = sym c.in-Err-NotBody.field-0-is ∙ e in cc))
