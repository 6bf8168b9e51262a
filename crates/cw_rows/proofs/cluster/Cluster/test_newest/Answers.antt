use Rattle.std.proofs.Common.{◌∙◌, ℕ, List, Option, ap, unwrap_or}
use Rattle.cw_config.specs.declared.records.ConfigRecord.{ConfigRecord}
use Rattle.cw_config.specs.View.{generation_of}
use Rattle.cw_rows.proofs.ConfigDue.{newest-is}
use Rattle.cw_rows.proofs.cluster.Cluster.test_newest.Goals as goal

pub returns : goal.returns
returns c = c.test_same.ensures ∙ newest-is c.args.w c.args.name.now c.args.self.now.state _ _
    (c.unwrap_or-own.ensures ∙ ap (λ (g : Option ℕ). unwrap_or g 0) (c.generation.ensures ∙ ap (λ (l : List ConfigRecord). generation_of c.args.name.now l) c.config_of.ensures))
    (c.unwrap_or-current.ensures ∙ ap (λ (g : Option ℕ). unwrap_or g 0) (c.generation-2.ensures ∙ ap (λ (l : List ConfigRecord). generation_of c.args.name.now l) c.config_state.ensures))
