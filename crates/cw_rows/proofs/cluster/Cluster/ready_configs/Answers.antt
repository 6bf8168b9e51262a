use Rattle.std.proofs.Common.{◌<◌, ◌+◌, ◌^◌, List, length, sym, ap, subst, ◌∙◌}
use Rattle.cw_config.specs.Acceptance.{end_of}
use Rattle.cw_config.specs.declared.records.ConfigRecord.{ConfigRecord}
use Rattle.cw_model.specs.Updates.{stamp_of}
use Rattle.cw_rows.specs.Kept.{Kept}
use Rattle.cw_topics.proofs.ConfigFrames.{first-fits, first-lacks, offsets-lack, offsets-made}
use Rattle.cw_rows.proofs.cluster.Cluster.ready_configs.Goals as goal

pub unplaced-requires-clause-none : goal.unplaced-requires-clause-none
unplaced-requires-clause-none c =
    let s = c.args.self.now.state in
    let past = first-lacks (end_of c.configs.result.now) (length c.args.values.now) (sym c.first_offset.ensures ∙ c.in-None.is) in
    offsets-lack (end_of s.configs) (stamp_of s) c.args.values.now c.requires.some
    (subst (λ (l : List ConfigRecord). 2 ^ 64 < end_of l + length c.args.values.now) (c.configs.ensures ∙ ap (λ (k : Kept). k.state.configs) c.self.view_is) past)

pub returns-in-Some-clause-offsets : goal.returns-in-Some-clause-offsets
returns-in-Some-clause-offsets c =
    let p = first-fits (end_of c.configs.result.now) (length c.args.values.now) c.in-Some.first (sym c.first_offset.ensures ∙ c.in-Some.is) in
    offsets-made c.in-Some.first _ c.args.values.now c.ready_from.result p.1 c.ready_from.ensures.frame
