use Rattle.cw_keys.proofs.Values.{record_again}
use Rattle.cw_keys.proofs.config.write_config.Goals as goal

pub returns-clause-again : goal.returns-clause-again
returns-clause-again c =
    record_again c.args.key.now _ _ _ c.in_ok-bytes.ensures.key c.requires c.in_ok-bytes.ensures.text c.in_ok-write_some.ensures.again
