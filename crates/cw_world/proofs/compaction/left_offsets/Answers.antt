use Rattle.std.proofs.Common.{◌≡◌, ◌≢◌, ◌∙◌, ◌-◌, ◌<◌, ◌^◌, ℕ, Err, sym, ap, subst}
use Rattle.cw_types.specs.declared.logs.LogName.TheVariants.{Offsets}
use Rattle.cw_model.specs.State.{Cluster}
use Rattle.cw_model.specs.EventsCompaction.{compact, compacts}
use Rattle.cw_world.proofs.Turning.{open-passed, open-refused, offsets-written, offsets-worn}
use Rattle.cw_world.proofs.compaction.left_offsets.Goals as goal

pub left_offsets-requires-clause-written : goal.left_offsets-requires-clause-written
left_offsets-requires-clause-written g c =
    let s : Cluster = c.args.cluster.now.state in
    let alive = open-passed s.closed _ c.in_ok-test_open.ensures in
    offsets-written c.args.cluster.now.setting s c.requires.facts (λ name. c.logs_keep_facts.ensures.compact c.args.cluster.now.setting s name)
    (record { alive = alive; next = subst (λ (n : ℕ). n < 2 ^ 64 - 1) (c.requires.side alive) c.in_ok-test_side.ensures.passed })

pub left_offsets-requires-clause-whole : goal.left_offsets-requires-clause-whole
left_offsets-requires-clause-whole g c = c.requires.facts.logs.all_entries
