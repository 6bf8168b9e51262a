use Rattle.std.proofs.Common.{sym}
use Rattle.cw_sourcetask.proofs.Scanned.{turn-within}
use Rattle.cw_sourcetask.proofs.scans.scan.Goals as goal

pub cut_at-requires-clause-within : goal.cut_at-requires-clause-within
cut_at-requires-clause-within c = turn-within c.args.feeds.now c.args.instance.now c.in-Some.place (sym c.in-Some.ensures)
