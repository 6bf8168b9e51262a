use Rattle.std.proofs.Common.{◌∙◌, Bool, true, false, inl, inr, sym, ap, subst}
use Rattle.cw_log.specs.Log.{kind_of}
use Rattle.cw_pair.specs.Pair.{IsRight}
use Rattle.cw_pair.specs.State.{OpensOf, sides_of, told_with}
use Rattle.cw_pair.proofs.Stretches.{opens_a, opens_b, opens_none}
use Rattle.cw_pair.proofs.pair.PairLog.open_with.Goals as goal

pub open_chosen-requires-clause-first : goal.open_chosen-requires-clause-first
open_chosen-requires-clause-first g c b is' a is =
    inr (subst (λ (on_b : Bool). IsRight (kind_of c.args.name) on_b a b) c.in-Ok-true.field-0-test (c.in-Ok-true.ensures.chosen a (sym c.choose.ensures.reads_a.same ∙ is) b (sym c.choose.ensures.reads_b.same ∙ is')))

pub open_chosen-requires-in-Ok-false-clause-first : goal.open_chosen-requires-in-Ok-false-clause-first
open_chosen-requires-in-Ok-false-clause-first g c a is b is' =
    subst (λ (on_b : Bool). IsRight (kind_of c.args.name) on_b a b) c.in-Ok-false.field-0-test (c.in-Ok-false.ensures.chosen a (sym c.choose.ensures.reads_a.same ∙ is) b (sym c.choose.ensures.reads_b.same ∙ is'))

pub returns-in-Ok-clause-list : goal.returns-in-Ok-clause-list
returns-in-Ok-clause-list g c a is b is' =
    let found = c.in-Ok.ensures.list b (c.choose.ensures.reads_b.same ∙ is') a (c.choose.ensures.reads_a.same ∙ is) in
    (found.0, ap (λ told. told_with told c.in-Ok.two.log.bodies) (ap g.D.Disk.holds c.in-Ok.ensures.new.4 ∙ c.choose.ensures.reads_a.same ∙ is) ∙ found.1, inr found.2)

pub returns-in-Ok-open_chosen-clause-list : goal.returns-in-Ok-open_chosen-clause-list
returns-in-Ok-open_chosen-clause-list g c a is b is' =
    let found = c.in-Ok-open_chosen.ensures.list a (c.choose.ensures.reads_a.same ∙ is) b (c.choose.ensures.reads_b.same ∙ is') in
    (found.0, ap (λ told. told_with told c.in-Ok-open_chosen.two.log.bodies) (ap g.D.Disk.holds c.in-Ok-open_chosen.ensures.new.4 ∙ c.choose.ensures.reads_b.same ∙ is') ∙ found.1, inl found.2)

pub returns-in-Ok-clause-any_moment : goal.returns-in-Ok-clause-any_moment
returns-in-Ok-clause-any_moment g c a is b is' =
    subst (OpensOf g.D.Disk.holds g.D.Disk.may_leave g.D.Disk.moment g.D.Disk.left_since g.D.Disk.count g.D.Disk.reserved (kind_of c.args.name) a b (record { a = c.args.a; b = c.args.b })) (sym (ap (λ (on_b : Bool). sides_of on_b c.in-Ok.two.log.disk c.in-Ok.two.other) c.in-Ok.ensures.new.3 ∙ ap (sides_of true c.in-Ok.two.log.disk) c.in-Ok.ensures.new.4))
    (opens_b g.D.Disk.holds g.D.Disk.may_leave g.D.Disk.moment g.D.Disk.left_since g.D.Disk.count g.D.Disk.reserved g.met.D.Disk.only_now (kind_of c.args.name) a b (record { a = c.args.a; b = c.args.b }) (record { a = c.choose.new.a; b = c.choose.new.b })
    c.choose.ensures.reads_a c.choose.ensures.reads_b c.in-Ok.two.log.disk (c.in-Ok-true.ensures.settled.0 a (c.choose.ensures.reads_a.same ∙ is)) (c.in-Ok.ensures.any_moment b (c.choose.ensures.reads_b.same ∙ is') a (c.choose.ensures.reads_a.same ∙ is)))

pub returns-in-Err-open_chosen-clause-any_moment : goal.returns-in-Err-open_chosen-clause-any_moment
returns-in-Err-open_chosen-clause-any_moment g c a is b is' =
    subst (OpensOf g.D.Disk.holds g.D.Disk.may_leave g.D.Disk.moment g.D.Disk.left_since g.D.Disk.count g.D.Disk.reserved (kind_of c.args.name) a b (record { a = c.args.a; b = c.args.b })) (sym (ap (λ disk. sides_of true c.in-Err-open_chosen.fault.chosen disk) c.in-Err-open_chosen.ensures.same))
    (opens_b g.D.Disk.holds g.D.Disk.may_leave g.D.Disk.moment g.D.Disk.left_since g.D.Disk.count g.D.Disk.reserved g.met.D.Disk.only_now (kind_of c.args.name) a b (record { a = c.args.a; b = c.args.b }) (record { a = c.choose.new.a; b = c.choose.new.b })
    c.choose.ensures.reads_a c.choose.ensures.reads_b c.in-Err-open_chosen.fault.chosen (c.in-Ok-true.ensures.settled.0 a (c.choose.ensures.reads_a.same ∙ is)) (c.in-Err-open_chosen.ensures.any_moment b (c.choose.ensures.reads_b.same ∙ is') a (c.choose.ensures.reads_a.same ∙ is)))

pub returns-in-Ok-open_chosen-clause-any_moment : goal.returns-in-Ok-open_chosen-clause-any_moment
returns-in-Ok-open_chosen-clause-any_moment g c a is b is' =
    subst (OpensOf g.D.Disk.holds g.D.Disk.may_leave g.D.Disk.moment g.D.Disk.left_since g.D.Disk.count g.D.Disk.reserved (kind_of c.args.name) a b (record { a = c.args.a; b = c.args.b })) (sym (ap (λ (on_b : Bool). sides_of on_b c.in-Ok-open_chosen.two.log.disk c.in-Ok-open_chosen.two.other) c.in-Ok-open_chosen.ensures.new.3 ∙ ap (sides_of false c.in-Ok-open_chosen.two.log.disk) c.in-Ok-open_chosen.ensures.new.4))
    (opens_a g.D.Disk.holds g.D.Disk.may_leave g.D.Disk.moment g.D.Disk.left_since g.D.Disk.count g.D.Disk.reserved g.met.D.Disk.only_now (kind_of c.args.name) a b (record { a = c.args.a; b = c.args.b }) (record { a = c.choose.new.a; b = c.choose.new.b })
    c.choose.ensures.reads_a c.choose.ensures.reads_b c.in-Ok-open_chosen.two.log.disk (c.in-Ok-false.ensures.settled.1 b (c.choose.ensures.reads_b.same ∙ is')) (c.in-Ok-open_chosen.ensures.any_moment a (c.choose.ensures.reads_a.same ∙ is) b (c.choose.ensures.reads_b.same ∙ is')))

pub returns-in-Err-open_chosen-2-clause-any_moment : goal.returns-in-Err-open_chosen-2-clause-any_moment
returns-in-Err-open_chosen-2-clause-any_moment g c a is b is' =
    subst (OpensOf g.D.Disk.holds g.D.Disk.may_leave g.D.Disk.moment g.D.Disk.left_since g.D.Disk.count g.D.Disk.reserved (kind_of c.args.name) a b (record { a = c.args.a; b = c.args.b })) (sym (ap (λ disk. sides_of false c.in-Err-open_chosen-2.fault.chosen disk) c.in-Err-open_chosen-2.ensures.same))
    (opens_a g.D.Disk.holds g.D.Disk.may_leave g.D.Disk.moment g.D.Disk.left_since g.D.Disk.count g.D.Disk.reserved g.met.D.Disk.only_now (kind_of c.args.name) a b (record { a = c.args.a; b = c.args.b }) (record { a = c.choose.new.a; b = c.choose.new.b })
    c.choose.ensures.reads_a c.choose.ensures.reads_b c.in-Err-open_chosen-2.fault.chosen (c.in-Ok-false.ensures.settled.1 b (c.choose.ensures.reads_b.same ∙ is')) (c.in-Err-open_chosen-2.ensures.any_moment a (c.choose.ensures.reads_a.same ∙ is) b (c.choose.ensures.reads_b.same ∙ is')))

pub returns-in-Err-clause-any_moment : goal.returns-in-Err-clause-any_moment
returns-in-Err-clause-any_moment g c a is b is' =
    opens_none g.D.Disk.holds g.D.Disk.may_leave g.D.Disk.moment g.D.Disk.left_since g.D.Disk.count g.D.Disk.reserved g.met.D.Disk.only_now (kind_of c.args.name) a b (record { a = c.args.a; b = c.args.b }) (record { a = c.choose.new.a; b = c.choose.new.b }) c.choose.ensures.reads_a c.choose.ensures.reads_b
