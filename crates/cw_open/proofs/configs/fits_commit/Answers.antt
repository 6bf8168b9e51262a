use Rattle.std.proofs.Common.{◌↔◌, IsTrue, Option, sym, subst}
use Rattle.cw_keys.specs.declared.config_key.ConfigKey.TheVariants as key
use Rattle.cw_keys.specs.declared.config_value.ConfigValue.{ConfigValue}
use Rattle.cw_model.specs.ConfigsAllowed.{FitsBehind}
use Rattle.cw_open.proofs.configs.fits_commit.Goals as goal

pub returns-in_ok-fits-in-Some : goal.returns-in_ok-fits-in-Some
returns-in_ok-fits-in-Some c =
    subst (λ (v : Option ConfigValue). IsTrue c.in_ok-fits-in-Some.fits ↔ FitsBehind c.args.passed.now (key.Commit c.args.name.now) v) (sym c.in-Some.is) c.in_ok-fits-in-Some.ensures
