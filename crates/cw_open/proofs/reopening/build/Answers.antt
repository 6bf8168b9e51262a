use Rattle.std.proofs.Common.{refl, sym, subst}
use Rattle.cw_model.specs.FactsLogs.{AreShort}
use Rattle.cw_model.specs.Reopening.{stored_of}
use Rattle.cw_world.specs.Logs.{AreSides}
use Rattle.cw_open.specs.Opened.{logs_in}
use Rattle.cw_open.proofs.ReopenLemmas.{state-by, judged-facts}
use Rattle.cw_open.proofs.reopening.build.Goals as goal

pub new-requires-clause-facts : goal.new-requires-clause-facts
new-requires-clause-facts g c =
    let is = state-by c.args.judged c.in-Ok.cluster.state c.number.result c.number-2.result c.number-3.result c.number.ensures c.number-2.ensures c.number-3.ensures c.in-Ok.ensures.state in
    judged-facts c.args.judged c.requires.sound c.in-Ok.cluster.setting c.in-Ok.cluster.state is (subst AreShort (sym c.in-Ok.ensures.setting.feeds_are) c.are_short.ensures) c.in-Ok.ensures.agreed

pub new-requires-clause-sides : goal.new-requires-clause-sides
new-requires-clause-sides g c =
    let is = state-by c.args.judged c.in-Ok.cluster.state c.number.result c.number-2.result c.number-3.result c.number.ensures c.number-2.ensures c.number-3.ensures c.in-Ok.ensures.state in
    subst (λ s. AreSides (stored_of s) (logs_in c.args.judged)) (sym is) (record { config = refl; offsets = refl; status = refl })
