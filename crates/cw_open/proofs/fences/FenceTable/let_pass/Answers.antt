use Rattle.std.proofs.Common.{sym}
use Rattle.cw_open.proofs.FenceLemmas.{passes_some, passes_none}
use Rattle.cw_open.proofs.fences.FenceTable.let_pass.Goals as goal

pub returns-in-Some : goal.returns-in-Some
returns-in-Some c = λ records kept. passes_some records c.args.self.now kept c.args.name.now c.args.generation c.args.place c.in-Some.fenced.now (sym c.in-Some.ensures.value) c.let_pass.result c.let_pass.ensures

pub returns-in-None : goal.returns-in-None
returns-in-None c = λ records kept. passes_none records c.args.self.now kept c.args.name.now c.args.generation c.args.place (sym c.in-None.ensures.value)
