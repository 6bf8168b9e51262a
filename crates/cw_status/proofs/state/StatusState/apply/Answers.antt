use Rattle.std.proofs.Common.{◌∙◌, ◌++◌, ◌∷◌, [], List, ap, subst, inl}
use Rattle.cw_status.specs.declared.record.StatusRecord.{StatusRecord}
use Rattle.cw_status.specs.Table.{IsFirstAt}
use Rattle.cw_status.proofs.Added.{applied_one, without, fewer, taken_is}
use Rattle.cw_status.proofs.state.StatusState.apply.Goals as goal

pub invariant_of-self : goal.invariant_of-self
invariant_of-self c =
    applied_one c.self.inside.latest c.self.inside.applied.items c.self.inside.reserved.items c.self.invariant
    c.put_made.new.latest c.remove-reserved.result c.put_made.new.applied.items c.remove-reserved.new.self.items
    c.put_made.ensures.applied c.put_made.ensures.set c.put_made.ensures.kept
    (fewer c.self.inside.reserved.items c.remove-reserved.new.self.items c.in-Some.at c.remove-reserved.ensures.by_index.2)

pub returns-in-Some-clause-ok : goal.returns-in-Some-clause-ok
returns-in-Some-clause-ok c =
    let last : StatusRecord = record { offset = c.args.offset; item = c.args.item.now; value = c.args.value } in
    let first : IsFirstAt last c.self.inside.reserved.items c.in-Some.at = subst (λ (l : List StatusRecord). IsFirstAt last l c.in-Some.at) c.deref.ensures.value c.in-Some.ensures in
    let one = taken_is c.self.inside.reserved.items c.in-Some.at last c.remove-reserved.result first c.remove-reserved.ensures.value in
    rw (← c.self.view_is) (record {
      applied = c.put_made.ensures.applied ∙ ap (λ (e : StatusRecord). c.self.inside.applied.items ++ e ∷ []) one;
      reserved = inl (without c.self.inside.reserved.items c.remove-reserved.new.self.items c.in-Some.at c.remove-reserved.ensures.by_index.2 last first);
    })
