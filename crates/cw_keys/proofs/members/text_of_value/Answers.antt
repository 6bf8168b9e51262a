use Rattle.std.proofs.Common.{◌∙◌}
use Rattle.cw_json.proofs.Texts.{reading_text}
use Rattle.cw_keys.proofs.Choice.{if_ok_both}
use Rattle.cw_keys.proofs.members.text_of_value.Goals as goal

pub returns-clause-again : goal.returns-clause-again
returns-clause-again c =
    if_ok_both c.to_vec.result _ _ _ (λ text back utf8. reading_text text.items utf8 ∙ back c.requires.shallow) c.to_vec.ensures.reads_back c.to_vec.ensures.utf8
