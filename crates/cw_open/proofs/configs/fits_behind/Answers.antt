use Rattle.std.proofs.Common.{◌↔◌, IsTrue, sym, subst}
use Rattle.cw_keys.specs.declared.config_key.ConfigKey.{ConfigKey}
use Rattle.cw_model.specs.ConfigsAllowed.{FitsBehind}
use Rattle.cw_open.proofs.configs.fits_behind.Goals as goal

pub returns-in_ok-fits-in-Connector : goal.returns-in_ok-fits-in-Connector
returns-in_ok-fits-in-Connector c =
    subst (λ (k : ConfigKey). IsTrue c.in_ok-fits-in-Connector.fits ↔ FitsBehind c.args.passed.now k c.args.added.now.value) (sym c.in-Connector.is) (c.in_ok-fits-in-Connector.ensures c.args.passed.now c.in-Connector.field-0)

pub returns-in_ok-fits-in-Task : goal.returns-in_ok-fits-in-Task
returns-in_ok-fits-in-Task c =
    subst (λ (k : ConfigKey). IsTrue c.in_ok-fits-in-Task.fits ↔ FitsBehind c.args.passed.now k c.args.added.now.value) (sym c.in-Task.is) (c.in_ok-fits-in-Task.ensures c.args.passed.now c.in-Task.id.index)

pub returns-in_ok-fits-in-Commit : goal.returns-in_ok-fits-in-Commit
returns-in_ok-fits-in-Commit c =
    subst (λ (k : ConfigKey). IsTrue c.in_ok-fits-in-Commit.fits ↔ FitsBehind c.args.passed.now k c.args.added.now.value) (sym c.in-Commit.is) c.in_ok-fits-in-Commit.ensures
