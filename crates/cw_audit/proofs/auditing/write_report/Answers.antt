use Rattle.cw_open.specs.Opened.{opened_by}
use Rattle.cw_audit.proofs.Ends.{written-text}
use Rattle.cw_audit.proofs.auditing.write_report.Goals as goal

pub returns-in-Ok-clause-written : goal.returns-in-Ok-clause-written
returns-in-Ok-clause-written g c =
    written-text g.O.Sink c.args.feeds.now c.args.group.now (opened_by c.args.judged.now) c.args.output.now c.write_text.new.output c.in-Ok.text.items c.as_slice.result.now
    c.as_slice.ensures.value c.in-Ok.ensures c.write_text.result c.write_text.ensures.written
