use Rattle.std.proofs.Common.{rules, not, get_or}
use Rattle.std.proofs.lemmas.Fn.{filter_same}
use Rattle.cw_model.specs.Lookups.{no_instance}
use Rattle.cw_model.specs.Phases.{is_ended}
use Rattle.cw_rows.proofs.numbers.Numbers.keep_running.Goals as goal

pub returns : goal.returns
returns c = rw (← c.self.view_is) (filter_same _ (λ n. not (is_ended (get_or c.args.instances.now n no_instance).phase)) _
    (λ x b f' k. search rules) _ _ c.retain.ensures.filtered)
