use Rattle.cw_rows.proofs.CrewLemmas.{crew-stopped}
use Rattle.cw_rows.proofs.crew.Crew.stop.Goals as goal

pub invariant_of-self : goal.invariant_of-self
invariant_of-self c = crew-stopped _ _ _ _ _ c.self.view_is c.args.i c.requires c.index.result.now c.index_mut.result.now c.index.ensures
    c.index_mut.ensures.value _ c.remove_number.ensures c.self.invariant
