use Rattle.cw_laws.proofs.Items.{stop_item-keeps, restart-keeps}
use Rattle.cw_laws.proofs.Leading.{read_config-keeps}
use Rattle.cw_laws.proofs.item_laws.items_keep_facts.Goals as goal

pub returns-clause-read_config : goal.returns-clause-read_config
returns-clause-read_config c = λ setting s w. read_config-keeps setting w s

pub returns-clause-stop_item : goal.returns-clause-stop_item
returns-clause-stop_item c = λ setting s i. stop_item-keeps setting i s

pub returns-clause-restart : goal.returns-clause-restart
returns-clause-restart c = λ setting s w item. restart-keeps setting w item s
