use Rattle.std.proofs.Common.{ℕ, Ok, ap}
use Rattle.cw_model.specs.declared.did.Did.{Did}
use Rattle.cw_model.specs.declared.did.Did.TheVariants as did
use Rattle.cw_model.specs.Answers.{Answer}
use Rattle.cw_tasks.proofs.refusals.fail_if_fenced.Goals as goal

abbrev fenced : (own current : ℕ) → Answer (Unit {0}) → Answer Did
fenced own current done = (Ok (did.Fenced own current), done.1)

pub returns : goal.returns
returns g c = record {
  row = ap (fenced c.args.own c.args.current) c.fail.ensures.row;
  setting = c.fail.ensures.setting;
  logs = c.fail.ensures.logs;
  name = c.fail.ensures.name;
}
