use Rattle.std.proofs.Common.{◌∙◌, ap, sym, refl, subst}
use Rattle.std.proofs.lemmas.Result.{err_from_is_err_and}
use Rattle.cw_model.specs.Updates.{next_config, stamp_of, stamped}
use Rattle.cw_rows.specs.Configs.{IsUnplaced}
use Rattle.cw_rows.specs.Kept.{Kept}
use Rattle.cw_rows.proofs.ConfigDue.{append_config-readies, append_config-refuses, append_config-unplaced}
use Rattle.cw_topics.proofs.ConfigFrames.{values-writable}
use Rattle.cw_rows.proofs.cluster.Cluster.ready_append_config.Goals as goal

pub returns-in_err-test_leader-clause-due : goal.returns-in_err-test_leader-clause-due
returns-in_err-test_leader-clause-due c =
    let p = err_from_is_err_and c.from_residual.result c.from_residual.ensures.1 in
    let behind = c.in_err-test_leader.ensures.err c.in_err-test_leader.field-0.0 refl in
    rw (p.1, p.2) (append_config-refuses c.args.w c.args.values.now c.args.self.now _ (ap (λ (k : Kept). k.setting) behind) c.in_err-test_leader.field-0.0
    (sym c.in_err-test_leader.ensures.tested) (ap (λ (k : Kept). k.state) behind))

pub ready_configs-requires-clause-writable : goal.ready_configs-requires-clause-writable
ready_configs-requires-clause-writable c =
    let s = c.args.self.now.state in
    values-writable (next_config s) (stamp_of s) s.configs c.args.values.now c.requires.may.allowed

pub returns-in_err-frame-clause-due : goal.returns-in_err-frame-clause-due
returns-in_err-frame-clause-due c =
    let p = err_from_is_err_and c.from_residual-in_err-frame.result c.from_residual-in_err-frame.ensures.1 in
    let same = c.in_ok-test_leader.ensures.ok in
    let fault = c.in_err-frame.field-0.0 in
    rw (p.1, p.2) (append_config-unplaced c.args.w c.args.values.now c.args.self.now _
    (ap (λ (k : Kept). k.setting) (c.ready_configs.ensures.same ∙ ap (λ (k : Kept). record k { ready_configs = c.ready_configs.new.self.ready_configs }) same))
    c.args.size fault (sym c.in_ok-test_leader.ensures.tested) c.requires.size
    (λ other. subst (λ (k : Kept). IsUnplaced c.args.size (stamped c.args.values.now k.state) fault) same (c.in_err-frame.ensures.refused fault refl other))
    (ap (λ (k : Kept). k.state) (c.ready_configs.ensures.same ∙ ap (λ (k : Kept). record k { ready_configs = c.ready_configs.new.self.ready_configs }) same)))

pub returns-clause-due : goal.returns-clause-due
returns-clause-due c =
    let same = c.in_ok-test_leader.ensures.ok in
    let kept = c.ready_configs.ensures.same ∙ ap (λ (k : Kept). record k { ready_configs = c.ready_configs.new.self.ready_configs }) same in
    append_config-readies c.args.w c.args.values.now c.args.self.now _ (ap (λ (k : Kept). k.setting) kept) c.in_ok-frame.frame
    (sym c.in_ok-test_leader.ensures.tested) (c.in_ok-frame.ensures.frame ∙ ap (λ (k : Kept). stamped c.args.values.now k.state) same)
    c.in_ok-frame.ensures.offsets (ap (λ (k : Kept). k.state) kept)
