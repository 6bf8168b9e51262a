use Rattle.std.proofs.Common.{rules}
use Rattle.cw_keys.proofs.Fitting.{value_fits}
use Rattle.cw_keys.proofs.config.read_config.Goals as goal

pub returns-in-Some-2-clause-writable : goal.returns-in-Some-2-clause-writable
returns-in-Some-2-clause-writable c = value_fits c.in-Some.key c.in-Some-value.text.now c.in-Some-2.value (search rules)
