use Rattle.std.proofs.Common.{◌≡◌, ◌⊎◌, ◌∙◌, subst, sym}
use Rattle.cw_connect.proofs.Generated.{generated, is_write, told_as_run}
use Rattle.cw_connect.specs.Generated.{IsGenerated, run_asked}
use Rattle.cw_connect.specs.Statuses.{status_of_stop}
use Rattle.cw_connect.specs.declared.status.Status.{Status}
use Rattle.cw_connect.specs.declared.status.Status.TheVariants.{Memory}
use Rattle.cw_connect.proofs.generating.make_and_play.Goals as goal

pub returns-clause-due : goal.returns-clause-due
returns-clause-due g c = let did = c.generate.ensures in
    subst (λ (s : Status). IsGenerated g.O.Sink c.args.options s c.args.output.now c.generate.new.output) (sym c.of_gen.ensures)
    (generated g.O.Sink c.args.options c.args.output.now c.generate.new.output c.generate.result did.done did.part did.silent did.through did.full)

pub returns-clause-write_fault : goal.returns-clause-write_fault
returns-clause-write_fault g c = λ is. c.generate.ensures.rose (is_write c.generate.result (sym c.of_gen.ensures ∙ is))

pub returns-clause-complete : goal.returns-clause-complete
returns-clause-complete g c = λ calm. let did = c.generate.ensures in
    subst (λ (s : Status). (s ≡ status_of_stop (run_asked c.args.options).stop) ⊎ (s ≡ Memory)) (sym c.of_gen.ensures)
    (told_as_run (run_asked c.args.options).stop c.generate.result did.through did.full (λ is. calm (did.rose is)))
