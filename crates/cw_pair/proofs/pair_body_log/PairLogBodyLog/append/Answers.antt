use Rattle.std.proofs.Common.{◌≡◌, ◌⊎◌, ◌++◌, ◌∷◌, [], Some, refl, map}
use Rattle.cw_log.specs.Log.{BeforeOrAfter, IsSide}
use Rattle.cw_pair.specs.State.{sides_of}
use Rattle.cw_pair.proofs.Judged.{append_memory}
use Rattle.cw_pair.proofs.Pairs.{append_images, append_list, left_behind, pair_same, told_both}
use Rattle.cw_pair.proofs.Stretches.{adds_both, chosen_adds, pair_of, past_pushed}
use Rattle.cw_pair.proofs.pair_body_log.PairLogBodyLog.append.Goals as goal

pub invariant_of-self-in-Err-Memory : goal.invariant_of-self-in-Err-Memory
invariant_of-self-in-Err-Memory g c =
    let same = (append_memory c.in-Err-Memory.field-0 _ _ _ _ c.in-Err-Memory.field-0-is c.in-Err-Memory.ensures.fault).2 in
    pair_same g.D.Disk.holds g.D.Disk.may_leave c.self.inside.two.log c.append.new.self c.self.inside.two.other same.kind same.number same.bodies same.shut c.self.invariant

pub returns-in-Ok-clause-any_moment : goal.returns-in-Ok-clause-any_moment
returns-in-Ok-clause-any_moment g c = rw (← c.self.view_is) (λ alive before told.
    let two = c.self.inside.two in
    let both = told_both (g.D.Disk.holds two.other) two.log.bodies before told in
    chosen_adds g.D.Disk.may_leave g.D.Disk.moment g.D.Disk.left_since g.met.D.Disk.counts_now g.met.D.Disk.only_now
    (pair_of two.log two.other two.on_b (map (λ t. sides_of t.on_b t.log.disk t.other) c.self.inside.past.items) c.self.inside.failed)
    (pair_of c.append.new.self two.other two.on_b (map (λ t. sides_of t.on_b t.log.disk t.other) c.and-past.result.items) c.self.inside.failed)
    (λ image. BeforeOrAfter two.log.kind before c.args.body.now image × IsSide two.log.number image) (λ list. (list ≡ before) ⊎ (list ≡ before ++ c.args.body.now ∷ []))
    c.append.ensures.kind (past_pushed (λ t. sides_of t.on_b t.log.disk t.other) c.self.inside.past.items c.and-past.result.items two c.and-past.ensures) refl refl
    (adds_both g.D.Disk.moment g.D.Disk.left_since two.log.disk c.append.new.self.disk (BeforeOrAfter two.log.kind before c.args.body.now) (IsSide two.log.number) (c.append.ensures.any_moment alive before both.2) (c.append.ensures.side before both.2))
    (λ image other q left list stands. append_list two.log.kind two.log.number before list c.args.body.now image other q.0 q.1 (left_behind g.D.Disk.holds g.D.Disk.may_leave two.log two.other both.0 other before c.self.invariant alive both.2 both.1 left) stands))

pub returns-in-Err-Memory-clause-any_moment : goal.returns-in-Err-Memory-clause-any_moment
returns-in-Err-Memory-clause-any_moment g c = rw (← c.self.view_is) (λ alive before told.
    let two = c.self.inside.two in
    let both = told_both (g.D.Disk.holds two.other) two.log.bodies before told in
    chosen_adds g.D.Disk.may_leave g.D.Disk.moment g.D.Disk.left_since g.met.D.Disk.counts_now g.met.D.Disk.only_now
    (pair_of two.log two.other two.on_b (map (λ t. sides_of t.on_b t.log.disk t.other) c.self.inside.past.items) c.self.inside.failed)
    (pair_of c.append.new.self two.other two.on_b (map (λ t. sides_of t.on_b t.log.disk t.other) c.and-past.result.items) c.self.inside.failed)
    (λ image. BeforeOrAfter two.log.kind before c.args.body.now image × IsSide two.log.number image) (λ list. (list ≡ before) ⊎ (list ≡ before ++ c.args.body.now ∷ []))
    c.append.ensures.kind (past_pushed (λ t. sides_of t.on_b t.log.disk t.other) c.self.inside.past.items c.and-past.result.items two c.and-past.ensures) refl refl
    (adds_both g.D.Disk.moment g.D.Disk.left_since two.log.disk c.append.new.self.disk (BeforeOrAfter two.log.kind before c.args.body.now) (IsSide two.log.number) (c.append.ensures.any_moment alive before both.2) (c.append.ensures.side before both.2))
    (λ image other q left list stands. append_list two.log.kind two.log.number before list c.args.body.now image other q.0 q.1 (left_behind g.D.Disk.holds g.D.Disk.may_leave two.log two.other both.0 other before c.self.invariant alive both.2 both.1 left) stands))

pub returns-in-Err-Failed-clause-any_moment : goal.returns-in-Err-Failed-clause-any_moment
returns-in-Err-Failed-clause-any_moment g c = rw (← c.self.view_is) (λ alive before told.
    let two = c.self.inside.two in
    let both = told_both (g.D.Disk.holds two.other) two.log.bodies before told in
    chosen_adds g.D.Disk.may_leave g.D.Disk.moment g.D.Disk.left_since g.met.D.Disk.counts_now g.met.D.Disk.only_now
    (pair_of two.log two.other two.on_b (map (λ t. sides_of t.on_b t.log.disk t.other) c.self.inside.past.items) c.self.inside.failed)
    (pair_of c.append.new.self two.other two.on_b (map (λ t. sides_of t.on_b t.log.disk t.other) c.and-past.result.items) (Some c.log_faults.result))
    (λ image. BeforeOrAfter two.log.kind before c.args.body.now image × IsSide two.log.number image) (λ list. (list ≡ before) ⊎ (list ≡ before ++ c.args.body.now ∷ []))
    c.append.ensures.kind (past_pushed (λ t. sides_of t.on_b t.log.disk t.other) c.self.inside.past.items c.and-past.result.items two c.and-past.ensures) refl refl
    (adds_both g.D.Disk.moment g.D.Disk.left_since two.log.disk c.append.new.self.disk (BeforeOrAfter two.log.kind before c.args.body.now) (IsSide two.log.number) (c.append.ensures.any_moment alive before both.2) (c.append.ensures.side before both.2))
    (λ image other q left list stands. append_list two.log.kind two.log.number before list c.args.body.now image other q.0 q.1 (left_behind g.D.Disk.holds g.D.Disk.may_leave two.log two.other both.0 other before c.self.invariant alive both.2 both.1 left) stands))

pub returns-in-Ok-clause-left : goal.returns-in-Ok-clause-left
returns-in-Ok-clause-left g c = rw (← c.self.view_is) (λ alive before told image left.
    let two = c.self.inside.two in
    let both = told_both (g.D.Disk.holds two.other) two.log.bodies before told in
    append_images g.D.Disk.may_leave g.D.Disk.holds g.D.Disk.moment g.D.Disk.left_since g.met.D.Disk.counts_now g.met.D.Disk.only_now
    two.log c.append.new.self two.other two.on_b before c.args.body.now both.0 c.self.invariant alive both.2 both.1 c.append.ensures.kind (c.append.ensures.left alive before both.2)
    (c.rest.ensures.side alive before both.2) (c.append.ensures.side before both.2) image.0 image.1 left)

pub returns-in-Err-Memory-clause-left : goal.returns-in-Err-Memory-clause-left
returns-in-Err-Memory-clause-left g c = rw (← c.self.view_is) (λ alive before told image left.
    let two = c.self.inside.two in
    let both = told_both (g.D.Disk.holds two.other) two.log.bodies before told in
    append_images g.D.Disk.may_leave g.D.Disk.holds g.D.Disk.moment g.D.Disk.left_since g.met.D.Disk.counts_now g.met.D.Disk.only_now
    two.log c.append.new.self two.other two.on_b before c.args.body.now both.0 c.self.invariant alive both.2 both.1 c.append.ensures.kind (c.append.ensures.left alive before both.2)
    (c.rest.ensures.side alive before both.2) (c.append.ensures.side before both.2) image.0 image.1 left)

pub returns-in-Err-Failed-clause-left : goal.returns-in-Err-Failed-clause-left
returns-in-Err-Failed-clause-left g c = rw (← c.self.view_is) (λ alive before told image left.
    let two = c.self.inside.two in
    let both = told_both (g.D.Disk.holds two.other) two.log.bodies before told in
    append_images g.D.Disk.may_leave g.D.Disk.holds g.D.Disk.moment g.D.Disk.left_since g.met.D.Disk.counts_now g.met.D.Disk.only_now
    two.log c.append.new.self two.other two.on_b before c.args.body.now both.0 c.self.invariant alive both.2 both.1 c.append.ensures.kind (c.append.ensures.left alive before both.2)
    (c.rest.ensures.side alive before both.2) (c.append.ensures.side before both.2) image.0 image.1 left)

pub returns-in-Err-Full-clause-left : goal.returns-in-Err-Full-clause-left
returns-in-Err-Full-clause-left g c = rw (← c.self.view_is) (λ alive before told image left.
    let two = c.self.inside.two in
    let both = told_both (g.D.Disk.holds two.other) two.log.bodies before told in
    append_images g.D.Disk.may_leave g.D.Disk.holds g.D.Disk.moment g.D.Disk.left_since g.met.D.Disk.counts_now g.met.D.Disk.only_now
    two.log c.append.new.self two.other two.on_b before c.args.body.now both.0 c.self.invariant alive both.2 both.1 c.append.ensures.kind (c.append.ensures.left alive before both.2)
    (c.rest.ensures.side alive before both.2) (c.append.ensures.side before both.2) image.0 image.1 left)
