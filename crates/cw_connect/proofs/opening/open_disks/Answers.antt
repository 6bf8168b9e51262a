use Rattle.cw_connect.proofs.Opened.{tells_all}
use Rattle.cw_connect.proofs.opening.open_disks.Goals as goal

pub returns-in-Ok-clause-from : goal.returns-in-Ok-clause-from
returns-in-Ok-clause-from g c = record {
  stands = c.in-Ok.ensures.stands;
  files = λ files tell. c.in-Ok.ensures.files files tell;
  agreed = c.in-Ok.ensures.agreed;
  facts = c.is_safe.ensures.facts;
  told = λ files tell. tells_all g.D.Disk c.args.disks c.in-Ok.world.logs files c.in-Ok.ensures.from tell;
}
