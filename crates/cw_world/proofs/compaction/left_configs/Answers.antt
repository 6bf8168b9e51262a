use Rattle.std.proofs.Common.{◌≡◌, ◌≢◌, ◌∙◌, ◌-◌, ◌<◌, ◌^◌, ℕ, Err, sym, ap, subst}
use Rattle.cw_types.specs.declared.logs.LogName.TheVariants.{Config}
use Rattle.cw_model.specs.State.{Cluster}
use Rattle.cw_model.specs.EventsCompaction.{compact, compacts}
use Rattle.cw_world.proofs.Turning.{open-passed, open-refused, configs-written, configs-worn}
use Rattle.cw_world.proofs.compaction.left_configs.Goals as goal

pub left_configs-requires : goal.left_configs-requires
left_configs-requires g c =
    let s : Cluster = c.args.cluster.now.state in
    let alive = open-passed s.closed _ c.in_ok-test_open.ensures in
    configs-written c.args.cluster.now.setting s c.requires.facts (λ name. c.logs_keep_facts.ensures.compact c.args.cluster.now.setting s name)
    (record { alive = alive; next = subst (λ (n : ℕ). n < 2 ^ 64 - 1) (c.requires.side alive) c.in_ok-test_side.ensures.passed })
