use Rattle.std.proofs.Common.{◌∙◌, ap, sym, subst, ◌<◌, ◌^◌, length}
use Rattle.cw_model.specs.Updates.{with_configs, next_config, stamp_of}
use Rattle.cw_rows.specs.Configs.{HaveRead}
use Rattle.cw_rows.specs.Kept.{Kept}
use Rattle.cw_rows.proofs.ConfigDue.{append_config-puts, still-read}
use Rattle.cw_topics.proofs.ConfigFrames.{first-at}
use Rattle.cw_rows.proofs.Few.{few}
use Rattle.cw_bytes.specs.Spelling.{records_bytes}
use Rattle.cw_rows.proofs.cluster.Cluster.put_append_config.Goals as goal

pub invariant_of-self : goal.invariant_of-self
invariant_of-self c = rw (c.put_configs.ensures) (still-read c.self.inside.topics c.self.inside.crew c.args.frame _ c.self.invariant
    (subst (λ (k : Kept). HaveRead k.state) (sym c.self.view_is) c.requires.read))

pub returns : goal.returns
returns c values same = rw (c.put_configs.ensures) (append_config-puts c.args.w values c.args.self.now _ (ap (λ (k : Kept). k.setting) c.self.view_is)
    c.args.frame c.first-first.result c.requires.passed same c.requires.offsets
    (c.first-first.ensures ∙ first-at c.args.frame (next_config c.args.self.now.state) (stamp_of c.args.self.now.state) values c.requires.some same)
    c.requires.room (ap (λ (k : Kept). with_configs c.args.frame k.state) c.self.view_is))

pub put_configs-requires-clause-few : goal.put_configs-requires-clause-few
put_configs-requires-clause-few c = subst (λ (k : Kept). length k.state.config.frames < 2 ^ 62) (sym c.self.view_is) (few records_bytes c.args.self.now.state.config.frames _ c.requires.room)
