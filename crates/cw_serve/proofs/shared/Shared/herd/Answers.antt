use Rattle.cw_serve.proofs.shared.Shared.herd.Goals as goal

pub returns-clause-turn : goal.returns-clause-turn
returns-clause-turn g c = λ on low. (c.tick-herded.new.self, c.tick-herded.ensures.turn on low, c.publish.ensures)
