use Rattle.std.proofs.Common.{◌≡◌, ℕ, ◌+◌, Some, subst, ap, ◌∙◌, arith}
use Rattle.std.specs.BTreeMap.{Updates}
use Rattle.cw_types.specs.declared.ids.Tid.{Tid}
use Rattle.cw_types.specs.Same.{tid_order}
use Rattle.cw_compact.proofs.Entered.{raised}
use Rattle.cw_compact.proofs.outcomes.raise.Goals as goal

pub returns : goal.returns
returns c =
    let e : c.in-Some.epoch ≡ c.value_at.result + 1 = omega arith in
    raised c.args.tid.now c.args.epochs.now c.insert.new.self c.in-Some.epoch (e ∙ ap (λ (n : ℕ). n + 1) c.value_at.ensures)
    (subst (λ (t : Tid). Updates tid_order c.args.epochs.now c.insert.new.self t (Some c.in-Some.epoch)) c.in_ok-copy.ensures c.in_ok-insert.ensures.updates)
