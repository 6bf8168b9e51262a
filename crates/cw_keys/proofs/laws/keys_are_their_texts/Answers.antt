use Rattle.cw_keys.proofs.Keys.{config_key_again, config_key_only, status_item_again, status_item_only}
use Rattle.cw_keys.proofs.PartKeys.{part_again, part_only}
use Rattle.cw_keys.proofs.laws.keys_are_their_texts.Goals as goal

pub returns-clause-config_again : goal.returns-clause-config_again
returns-clause-config_again c = config_key_again

pub returns-clause-config_only : goal.returns-clause-config_only
returns-clause-config_only c = config_key_only

pub returns-clause-status_again : goal.returns-clause-status_again
returns-clause-status_again c = status_item_again

pub returns-clause-status_only : goal.returns-clause-status_only
returns-clause-status_only c = status_item_only

pub returns-clause-part_again : goal.returns-clause-part_again
returns-clause-part_again c = part_again

pub returns-clause-part_only : goal.returns-clause-part_only
returns-clause-part_only c = part_only
