use Rattle.std.proofs.Common.{Err, ap, ◌∙◌, arith}
use Rattle.cw_open.proofs.BodyLemmas.{entries-read, entries-unread}
use Rattle.cw_open.proofs.reading.read_listed_entries.Goals as goal

pub returns-in-Ok : goal.returns-in-Ok
returns-in-Ok c = rw (c.new.ensures) (entries-read c.args.body.now c.in-Ok.entries.items c.in-Ok.ensures.found)

pub returns-in-Err-NotEntries : goal.returns-in-Err-NotEntries
returns-in-Err-NotEntries c = λ other. entries-unread c.args.body.now (λ i. omega (arith, c.type_inv.body i)) (λ a is spelled. c.read_entries.ensures.refused a is spelled (c.in-Err-NotEntries.is ∙ ap Err c.in-Err-NotEntries.field-0-is))
