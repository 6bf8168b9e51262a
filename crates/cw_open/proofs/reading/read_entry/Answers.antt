use Rattle.std.proofs.Common.{Err, ap, ◌∙◌, arith}
use Rattle.cw_open.proofs.BodyLemmas.{data-read, data-unread}
use Rattle.cw_open.proofs.reading.read_entry.Goals as goal

pub returns-in-Ok : goal.returns-in-Ok
returns-in-Ok c = data-read c.args.body.now c.in-Ok.entry c.in-Ok.ensures.found

pub returns-in-Err-NotBody : goal.returns-in-Err-NotBody
returns-in-Err-NotBody c = λ other. data-unread c.args.body.now (λ i. omega (arith, c.type_inv.body i)) (λ a is spelled. c.read_data.ensures.refused a is spelled (c.in-Err-NotBody.is ∙ ap Err c.in-Err-NotBody.field-0-is))
