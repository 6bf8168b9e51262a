use Rattle.cw_keys.proofs.Values.{status_record_again}
use Rattle.cw_keys.proofs.status.write_status.Goals as goal

pub returns-clause-again : goal.returns-clause-again
returns-clause-again c =
    status_record_again c.args.item.now c.args.value.now _ _ c.in_ok-key.ensures.item c.in_ok-write_text.ensures.worker c.in_ok-key.ensures.text c.in_ok-write_text.ensures.again
