use Rattle.std.proofs.Common.{refl, sym}
use Rattle.cw_rows.proofs.CrewLemmas.{crew-change}
use Rattle.cw_rows.proofs.crew.Crew.poll_on.Goals as goal

pub invariant_of-self : goal.invariant_of-self
invariant_of-self c = crew-change _ _ _ _ _ c.self.view_is c.args.i c.requires.there c.index_mut-instance.result.now c.index_mut-instance.ensures.value _ refl
    (sym c.requires.runs) c.self.invariant
