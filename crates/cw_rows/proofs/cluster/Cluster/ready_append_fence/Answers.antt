use Rattle.std.proofs.Common.{◌≡◌, ℕ, List, ◌∙◌, ap, sym, refl, subst}
use Rattle.std.proofs.lemmas.Result.{err_from_is_err_and}
use Rattle.cw_config.specs.declared.records.ConfigRecord.{ConfigRecord}
use Rattle.cw_config.specs.View.{task_count_of}
use Rattle.cw_rest.specs.Seen.{KeyedValues}
use Rattle.cw_model.specs.EventsLeading.{fence_record}
use Rattle.cw_model.specs.Lookups.{seen}
use Rattle.cw_model.specs.Updates.{stamped}
use Rattle.cw_rows.specs.Configs.{IsUnplaced, newest_test}
use Rattle.cw_rows.specs.Kept.{Kept}
use Rattle.cw_rows.proofs.ConfigDue.{append_fence-readies, append_fence-refuses, append_fence-stale, append_fence-unplaced}
use Rattle.cw_rows.proofs.cluster.Cluster.ready_append_fence.Goals as goal

pub returns-in_err-test_leader-clause-due : goal.returns-in_err-test_leader-clause-due
returns-in_err-test_leader-clause-due c =
    let p = err_from_is_err_and c.from_residual.result c.from_residual.ensures.1 in
    let behind = c.in_err-test_leader.ensures.err c.in_err-test_leader.field-0.0 refl in
    rw (p.1, p.2) (append_fence-refuses c.args.w c.args.name.now c.args.self.now _ (ap (λ (k : Kept). k.setting) behind) c.in_err-test_leader.field-0.0
    (sym c.in_err-test_leader.ensures.tested) (ap (λ (k : Kept). k.state) behind))

pub returns-in_err-test_newest-clause-due : goal.returns-in_err-test_newest-clause-due
returns-in_err-test_newest-clause-due c =
    let p = err_from_is_err_and c.from_residual-in_err-test_newest.result c.from_residual-in_err-test_newest.ensures.1 in
    let same = c.in_ok-test_leader.ensures.ok in
    rw (p.1, p.2) (append_fence-stale c.args.w c.args.name.now c.args.self.now _ (ap (λ (k : Kept). k.setting) same) c.in_err-test_newest.field-0.0
    (sym c.in_ok-test_leader.ensures.tested)
    (ap (λ (k : Kept). newest_test c.args.w c.args.name.now k.state) (sym same) ∙ sym c.in_err-test_newest.ensures) (ap (λ (k : Kept). k.state) same))

pub returns-in_err-frame-clause-due : goal.returns-in_err-frame-clause-due
returns-in_err-frame-clause-due c =
    let p = err_from_is_err_and c.from_residual-in_err-frame.result c.from_residual-in_err-frame.ensures.1 in
    let same = c.in_ok-test_leader.ensures.ok in
    let kept = c.ready_configs.ensures.same ∙ ap (λ (k : Kept). record k { ready_configs = c.ready_configs.new.self.ready_configs }) same in
    let fault = c.in_err-frame.field-0.0 in
    let s = c.args.self.now.state in
    let values : c.as_slice.result.now ≡ fence_record c.args.name.now (task_count_of c.args.name.now (seen c.args.w s)) =
    c.as_slice.ensures.value ∙ c.in-Ok.ensures ∙ ap (λ (n : ℕ). fence_record c.args.name.now n) (c.task_count.ensures ∙
    ap (λ (l : List ConfigRecord). task_count_of c.args.name.now l) (c.config_of.ensures ∙ ap (λ (k : Kept). seen c.args.w k.state) same)) in
    let written : stamped c.as_slice.result.now c.test_leader.new.self.state ≡ stamped (fence_record c.args.name.now (task_count_of c.args.name.now (seen c.args.w s))) s =
    ap (λ (v : KeyedValues). stamped v c.test_leader.new.self.state) values ∙
    ap (λ (k : Kept). stamped (fence_record c.args.name.now (task_count_of c.args.name.now (seen c.args.w s))) k.state) same in
    rw (p.1, p.2) (append_fence-unplaced c.args.w c.args.name.now c.args.self.now _ (ap (λ (k : Kept). k.setting) kept) c.args.size fault
    (sym c.in_ok-test_leader.ensures.tested)
    (ap (λ (k : Kept). newest_test c.args.w c.args.name.now k.state) (sym same) ∙ sym c.in_ok-test_newest.ensures) c.requires.size
    (λ other. subst (λ (l : List ConfigRecord). IsUnplaced c.args.size l fault) written (c.in_err-frame.ensures.refused fault refl other))
    (ap (λ (k : Kept). k.state) kept))

pub returns-clause-due : goal.returns-clause-due
returns-clause-due c =
    let same = c.in_ok-test_leader.ensures.ok in
    let kept = c.ready_configs.ensures.same ∙ ap (λ (k : Kept). record k { ready_configs = c.ready_configs.new.self.ready_configs }) same in
    let s = c.args.self.now.state in
    let values : c.as_slice.result.now ≡ fence_record c.args.name.now (task_count_of c.args.name.now (seen c.args.w s)) =
    c.as_slice.ensures.value ∙ c.in-Ok.ensures ∙ ap (λ (n : ℕ). fence_record c.args.name.now n) (c.task_count.ensures ∙
    ap (λ (l : List ConfigRecord). task_count_of c.args.name.now l) (c.config_of.ensures ∙ ap (λ (k : Kept). seen c.args.w k.state) same)) in
    let written : stamped c.as_slice.result.now c.test_leader.new.self.state ≡ stamped (fence_record c.args.name.now (task_count_of c.args.name.now (seen c.args.w s))) s =
    ap (λ (v : KeyedValues). stamped v c.test_leader.new.self.state) values ∙
    ap (λ (k : Kept). stamped (fence_record c.args.name.now (task_count_of c.args.name.now (seen c.args.w s))) k.state) same in
    append_fence-readies c.args.w c.args.name.now c.args.self.now _ (ap (λ (k : Kept). k.setting) kept) c.in_ok-frame.frame
    (sym c.in_ok-test_leader.ensures.tested)
    (ap (λ (k : Kept). newest_test c.args.w c.args.name.now k.state) (sym same) ∙ sym c.in_ok-test_newest.ensures)
    (c.in_ok-frame.ensures.frame ∙ written) c.in_ok-frame.ensures.offsets (ap (λ (k : Kept). k.state) kept)
