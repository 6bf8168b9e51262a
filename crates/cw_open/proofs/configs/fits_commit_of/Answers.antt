use Rattle.std.proofs.Common.{◌↔◌, IsTrue, Some, sym, subst}
use Rattle.cw_keys.specs.declared.config_key.ConfigKey.TheVariants as key
use Rattle.cw_keys.specs.declared.config_value.ConfigValue.{ConfigValue}
use Rattle.cw_model.specs.ConfigsAllowed.{FitsBehind}
use Rattle.cw_open.proofs.configs.fits_commit_of.Goals as goal

pub returns-in_ok-fits-in-Commit : goal.returns-in_ok-fits-in-Commit
returns-in_ok-fits-in-Commit c =
    subst (λ (v : ConfigValue). IsTrue c.in_ok-fits-in-Commit.fits ↔ FitsBehind c.args.passed.now (key.Commit c.args.name.now) (Some v)) (sym c.in-Commit.is) c.in_ok-fits-in-Commit.ensures
