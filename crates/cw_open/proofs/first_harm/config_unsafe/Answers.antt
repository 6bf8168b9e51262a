use Rattle.std.proofs.Common.{List, subst}
use Rattle.cw_bytes.specs.declared.applied.Applied.{Applied}
use Rattle.cw_txn.specs.declared.entry.Entry.{Entry}
use Rattle.cw_model.specs.StandsFor.{judged, AreStamped}
use Rattle.cw_open.specs.Judging.{Says}
use Rattle.cw_open.proofs.first_harm.config_unsafe.Goals as goal

pub returns : goal.returns
returns c =
    subst (λ (e : List Entry). Says (judged (λ before frame. AreStamped e frame) c.args.frames.now.config) c.first_configs_not_stamped.result) c.requires
    (subst (λ (l : List (List Applied)). Says (judged (λ before frame. AreStamped c.args.entries.now frame) l) c.first_configs_not_stamped.result) c.configs.ensures c.first_configs_not_stamped.ensures)
