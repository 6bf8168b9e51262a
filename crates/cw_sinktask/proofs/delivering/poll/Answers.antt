use Rattle.std.proofs.Common.{refl, sym, ◌∙◌, arith}
use Rattle.cw_model.specs.declared.did.Did.TheVariants as did
use Rattle.cw_model.specs.Lookups.{instance_of}
use Rattle.cw_model.specs.Polls.{gathered}
use Rattle.cw_model.specs.Steps.{step}
use Rattle.cw_edges.specs.Handing.{file_of}
use Rattle.cw_sinktask.proofs.Delivered.{into-none, at-end, nothing-left}
use Rattle.cw_tasks.proofs.Told.{idle, out-of-memory}
use Rattle.cw_sinktask.proofs.delivering.poll.Goals as goal

pub hand_out-requires-clause-gathered : goal.hand_out-requires-clause-gathered
hand_out-requires-clause-gathered g c = sym c.in-Ok-Some.ensures ∙ c.in-Ok-Some.field-0-is

pub returns-in-Ok-None : goal.returns-in-Ok-None
returns-in-Ok-None g c =
    let old = c.args.world.now in
    let own = instance_of c.args.i old.state in
    let none = into-none (file_of own) (gathered own old.state.batches) (sym c.in-Ok-None.ensures ∙ c.in-Ok-None.field-0-is) in
    record {
      world = idle g.D.Disk (step old.setting c.args.i) old did.AtEnd (at-end old.setting c.args.i old.state c.requires.goes_on c.requires.phase c.requires.sink none);
      files = λ held is. (held, is, nothing-left old.setting c.args.i old.state c.requires.goes_on c.requires.phase c.requires.sink none held);
      told = refl;
      later = omega (arith);
      counted = tt;
    }

pub returns-in-Err : goal.returns-in-Err
returns-in-Err g c = record {
  world = out-of-memory g.D.Disk (step c.args.world.now.setting c.args.i) c.args.world.now;
  files = λ held is. (held, is, refl);
  told = refl;
  later = omega (arith);
  counted = tt;
}
