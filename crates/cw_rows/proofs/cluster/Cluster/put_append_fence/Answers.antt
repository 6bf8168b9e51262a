use Rattle.std.proofs.Common.{◌<◌, ◌≤◌, ◌∙◌, List, arith, length, refl, ap, sym, subst, ◌^◌}
use Rattle.cw_config.specs.declared.records.ConfigRecord.{ConfigRecord}
use Rattle.cw_config.specs.View.{task_count_of}
use Rattle.cw_model.specs.EventsLeading.{fence_record, without_fencing}
use Rattle.cw_model.specs.Lookups.{seen}
use Rattle.cw_model.specs.Updates.{with_configs, changes_row, next_config, stamp_of}
use Rattle.cw_rows.specs.Configs.{HaveRead}
use Rattle.cw_rows.specs.Kept.{Kept}
use Rattle.cw_rows.proofs.ConfigDue.{append_fence-puts, still-read, row-changed}
use Rattle.cw_topics.proofs.ConfigFrames.{first-at}
use Rattle.cw_rows.proofs.Few.{few}
use Rattle.cw_bytes.specs.Spelling.{records_bytes}
use Rattle.cw_rows.proofs.cluster.Cluster.put_append_fence.Goals as goal

pub invariant_of-self : goal.invariant_of-self
invariant_of-self c =
    let there = subst (λ (k : Kept). c.args.w < length k.state.rows) (sym c.self.view_is) c.requires.there in
    rw (c.put_configs.ensures, c.end_fencing.ensures) (row-changed _ c.self.inside.crew c.args.w without_fencing there (λ row. refl)
    (still-read c.self.inside.topics c.self.inside.crew c.args.frame _ c.self.invariant
    (subst (λ (k : Kept). HaveRead k.state) (sym c.self.view_is) c.requires.read)))

pub put_configs-requires-clause-some : goal.put_configs-requires-clause-some
put_configs-requires-clause-some c = subst (λ (l : List ConfigRecord). 1 ≤ length l) (sym c.requires.frame) (omega arith)

pub returns : goal.returns
returns c =
    let s = c.args.self.now.state in
    let values = fence_record c.args.name.now (task_count_of c.args.name.now (seen c.args.w s)) in
    let some : 1 ≤ length c.args.frame = subst (λ (l : List ConfigRecord). 1 ≤ length l) (sym c.requires.frame) (omega arith) in
    rw (c.put_configs.ensures, c.end_fencing.ensures) (append_fence-puts c.args.w c.args.name.now c.args.self.now _ (ap (λ (k : Kept). k.setting) c.self.view_is)
    c.args.frame c.first-first.result c.requires.passed c.requires.newest c.requires.frame c.requires.offsets
    (c.first-first.ensures ∙ first-at c.args.frame (next_config s) (stamp_of s) values some c.requires.frame)
    c.requires.room (ap (λ (k : Kept). changes_row c.args.w without_fencing (with_configs c.args.frame k.state)) c.self.view_is))

pub put_configs-requires-clause-few : goal.put_configs-requires-clause-few
put_configs-requires-clause-few c = subst (λ (k : Kept). length k.state.config.frames < 2 ^ 62) (sym c.self.view_is) (few records_bytes c.args.self.now.state.config.frames _ c.requires.room)
