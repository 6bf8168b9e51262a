use Rattle.std.proofs.Common.{◌≡◌, ◌⊎◌, ◌∙◌, ◌+◌, ℕ, Some, not, sym, ap, subst, map}
use Rattle.cw_log.specs.Compaction.{IsReplaced, bodies_in}
use Rattle.cw_pair.specs.Pair.{IsBehind}
use Rattle.cw_pair.specs.State.{IsPair, MayLeave, sides_of}
use Rattle.cw_pair.proofs.Judged.{compact_failed, compact_memory, compact_worn, told_from}
use Rattle.cw_pair.proofs.Pairs.{behind_next, compact_images, compact_list, pair_read, told_both}
use Rattle.cw_pair.proofs.Stretches.{failed_other, other_adds, pair_of, past_pushed, sides_swapped}
use Rattle.cw_pair.proofs.pair.PairLog.compact.Goals as goal

pub invariant_of-self : goal.invariant_of-self
invariant_of-self g c = record {
  settled = λ alive. c.in-Ok.ensures.settled;
  behind = λ alive bodies told file is.
      let log = c.self.inside.two.log in
      let is' = ap g.D.Disk.holds (sym c.in-Ok.ensures.other) ∙ is in
      let before = told_from log.bodies (g.D.Disk.holds log.disk) file (sym c.rest.ensures.told) is' in
      let left = g.met.D.Disk.as_read log.disk file is' in
      let next = behind_next log.kind log.number before.0 file (c.rest.ensures.left c.in-Ok.ensures.alive.0 before.0 before.1 file left) (c.rest.ensures.side c.in-Ok.ensures.alive.0 before.0 before.1 file left) in
      subst (λ (kind : ℕ). IsBehind kind c.compact_onto.new.self.number file) (sym c.compact_onto.ensures.kind) (subst (λ (n : ℕ). IsBehind log.kind n file) (sym c.in-Ok.ensures.number) next);
}

pub invariant_of-self-in-Err-Memory : goal.invariant_of-self-in-Err-Memory
invariant_of-self-in-Err-Memory g c =
    let found = compact_memory c.in-Err-Memory.field-0 _ _ _ _ c.in-Err-Memory.field-0-is c.in-Err-Memory.ensures.fault in
    subst (λ log. IsPair g.D.Disk.holds g.D.Disk.may_leave log c.compact_onto.new.other) (sym found.1)
    (pair_read g.D.Disk.holds g.D.Disk.may_leave c.self.inside.two.log c.self.inside.two.other c.compact_onto.new.other found.2.same found.2.fewer c.self.invariant)

pub returns-in-Ok-clause-any_moment : goal.returns-in-Ok-clause-any_moment
returns-in-Ok-clause-any_moment g c = rw (← c.self.view_is) (λ alive before told.
    let two = c.self.inside.two in
    let after = bodies_in c.args.bodies.now.items in
    let both = told_both (g.D.Disk.holds two.other) two.log.bodies before told in
    other_adds g.D.Disk.may_leave g.D.Disk.moment g.D.Disk.left_since g.met.D.Disk.counts_now g.met.D.Disk.only_now
    (pair_of two.log two.other two.on_b (map (λ t. sides_of t.on_b t.log.disk t.other) c.self.inside.past.items) c.self.inside.failed)
    (pair_of c.compact_onto.new.self c.compact_onto.new.other (not two.on_b) (map (λ t. sides_of t.on_b t.log.disk t.other) c.and-past.result.items) c.self.inside.failed)
    c.compact_onto.new.self.disk (IsReplaced two.log.kind (two.log.number + 1) after both.0) (λ list. (list ≡ before) ⊎ (list ≡ after))
    c.compact_onto.ensures.kind (past_pushed (λ t. sides_of t.on_b t.log.disk t.other) c.self.inside.past.items c.and-past.result.items two c.and-past.ensures)
    (ap (sides_of (not two.on_b) c.compact_onto.new.self.disk) c.in-Ok.ensures.other) (c.in-Ok.ensures.any_moment alive both.0 both.1)
    (λ image chosen q left list stands. compact_list two.log.kind two.log.number before after list both.0 image chosen q (c.self.invariant.behind alive before both.2 both.0 both.1) (c.rest.ensures.left alive before both.2 chosen left) (c.rest.ensures.side alive before both.2 chosen left) stands))

pub returns-in-Err-Memory-clause-any_moment : goal.returns-in-Err-Memory-clause-any_moment
returns-in-Err-Memory-clause-any_moment g c = rw (← c.self.view_is) (λ alive before told.
    let two = c.self.inside.two in
    let after = bodies_in c.args.bodies.now.items in
    let both = told_both (g.D.Disk.holds two.other) two.log.bodies before told in
    let found = compact_memory c.in-Err-Memory.field-0 _ _ _ _ c.in-Err-Memory.field-0-is c.in-Err-Memory.ensures.fault in
    other_adds g.D.Disk.may_leave g.D.Disk.moment g.D.Disk.left_since g.met.D.Disk.counts_now g.met.D.Disk.only_now
    (pair_of two.log two.other two.on_b (map (λ t. sides_of t.on_b t.log.disk t.other) c.self.inside.past.items) c.self.inside.failed)
    (pair_of c.compact_onto.new.self c.compact_onto.new.other two.on_b (map (λ t. sides_of t.on_b t.log.disk t.other) c.and-past.result.items) c.self.inside.failed)
    c.compact_onto.new.other (IsReplaced two.log.kind (two.log.number + 1) after both.0) (λ list. (list ≡ before) ⊎ (list ≡ after))
    c.compact_onto.ensures.kind (past_pushed (λ t. sides_of t.on_b t.log.disk t.other) c.self.inside.past.items c.and-past.result.items two c.and-past.ensures)
    (ap (λ log. sides_of two.on_b log.disk c.compact_onto.new.other) found.1 ∙ sides_swapped two.on_b two.log.disk c.compact_onto.new.other) (c.in-Err-Memory.ensures.any_moment alive both.0 both.1)
    (λ image chosen q left list stands. compact_list two.log.kind two.log.number before after list both.0 image chosen q (c.self.invariant.behind alive before both.2 both.0 both.1) (c.rest.ensures.left alive before both.2 chosen left) (c.rest.ensures.side alive before both.2 chosen left) stands))

pub returns-in-Err-Failed-clause-any_moment : goal.returns-in-Err-Failed-clause-any_moment
returns-in-Err-Failed-clause-any_moment g c = rw (← c.self.view_is) (λ alive before told.
    let two = c.self.inside.two in
    let after = bodies_in c.args.bodies.now.items in
    let both = told_both (g.D.Disk.holds two.other) two.log.bodies before told in
    let found = compact_failed c.in-Err-Failed.field-0 _ _ _ _ c.in-Err-Failed.field-0-is c.in-Err-Failed.ensures.fault in
    other_adds g.D.Disk.may_leave g.D.Disk.moment g.D.Disk.left_since g.met.D.Disk.counts_now g.met.D.Disk.only_now
    (pair_of two.log two.other two.on_b (map (λ t. sides_of t.on_b t.log.disk t.other) c.self.inside.past.items) c.self.inside.failed)
    (pair_of c.compact_onto.new.self c.compact_onto.new.other two.on_b (map (λ t. sides_of t.on_b t.log.disk t.other) c.and-past.result.items) (Some c.other_faults.result))
    c.compact_onto.new.other (IsReplaced two.log.kind (two.log.number + 1) after both.0) (λ list. (list ≡ before) ⊎ (list ≡ after))
    c.compact_onto.ensures.kind (past_pushed (λ t. sides_of t.on_b t.log.disk t.other) c.self.inside.past.items c.and-past.result.items two c.and-past.ensures)
    (ap (λ log. sides_of two.on_b log.disk c.compact_onto.new.other) found.1 ∙ sides_swapped two.on_b two.log.disk c.compact_onto.new.other) (c.in-Err-Failed.ensures.any_moment alive both.0 both.1)
    (λ image chosen q left list stands. compact_list two.log.kind two.log.number before after list both.0 image chosen q (c.self.invariant.behind alive before both.2 both.0 both.1) (c.rest.ensures.left alive before both.2 chosen left) (c.rest.ensures.side alive before both.2 chosen left) stands))

pub returns-in-Err-Failed-clause-fault : goal.returns-in-Err-Failed-clause-fault
returns-in-Err-Failed-clause-fault g c = rw (← c.self.view_is) (
    let two = c.self.inside.two in
    let found = compact_failed c.in-Err-Failed.field-0 _ _ _ _ c.in-Err-Failed.field-0-is c.in-Err-Failed.ensures.fault in
    (found.0, found.1, failed_other g.D.Disk.count two.on_b two.log.disk two.other c.compact_onto.new.self.disk c.compact_onto.new.other c.other_faults.result c.other_faults.ensures found.2))

pub returns-in-Ok-clause-left : goal.returns-in-Ok-clause-left
returns-in-Ok-clause-left g c = rw (← c.self.view_is) (λ alive before told a b left.
    let two = c.self.inside.two in
    let both = told_both (g.D.Disk.holds two.other) two.log.bodies before told in
    compact_images g.D.Disk.may_leave g.D.Disk.holds g.D.Disk.moment g.D.Disk.left_since g.met.D.Disk.counts_now g.met.D.Disk.only_now
    two.log two.other c.compact_onto.new.self.disk two.on_b before (bodies_in c.args.bodies.now.items) both.0 c.self.invariant alive both.2 both.1 (c.rest.ensures.left alive before both.2)
    (c.rest.ensures.side alive before both.2) (c.in-Ok.ensures.any_moment alive both.0 both.1) a b
    (subst (λ disks. MayLeave g.D.Disk.may_leave disks a b) (ap (sides_of (not two.on_b) c.compact_onto.new.self.disk) c.in-Ok.ensures.other ∙ sym (sides_swapped two.on_b two.log.disk c.compact_onto.new.self.disk)) left))

pub returns-in-Err-Memory-clause-left : goal.returns-in-Err-Memory-clause-left
returns-in-Err-Memory-clause-left g c = rw (← c.self.view_is) (λ alive before told a b left.
    let two = c.self.inside.two in
    let both = told_both (g.D.Disk.holds two.other) two.log.bodies before told in
    let found = compact_memory c.in-Err-Memory.field-0 _ _ _ _ c.in-Err-Memory.field-0-is c.in-Err-Memory.ensures.fault in
    compact_images g.D.Disk.may_leave g.D.Disk.holds g.D.Disk.moment g.D.Disk.left_since g.met.D.Disk.counts_now g.met.D.Disk.only_now
    two.log two.other c.compact_onto.new.other two.on_b before (bodies_in c.args.bodies.now.items) both.0 c.self.invariant alive both.2 both.1 (c.rest.ensures.left alive before both.2)
    (c.rest.ensures.side alive before both.2) (c.in-Err-Memory.ensures.any_moment alive both.0 both.1) a b
    (subst (λ disks. MayLeave g.D.Disk.may_leave disks a b) (ap (λ log. sides_of two.on_b log.disk c.compact_onto.new.other) found.1) left))

pub returns-in-Err-Failed-clause-left : goal.returns-in-Err-Failed-clause-left
returns-in-Err-Failed-clause-left g c = rw (← c.self.view_is) (λ alive before told a b left.
    let two = c.self.inside.two in
    let both = told_both (g.D.Disk.holds two.other) two.log.bodies before told in
    let found = compact_failed c.in-Err-Failed.field-0 _ _ _ _ c.in-Err-Failed.field-0-is c.in-Err-Failed.ensures.fault in
    compact_images g.D.Disk.may_leave g.D.Disk.holds g.D.Disk.moment g.D.Disk.left_since g.met.D.Disk.counts_now g.met.D.Disk.only_now
    two.log two.other c.compact_onto.new.other two.on_b before (bodies_in c.args.bodies.now.items) both.0 c.self.invariant alive both.2 both.1 (c.rest.ensures.left alive before both.2)
    (c.rest.ensures.side alive before both.2) (c.in-Err-Failed.ensures.any_moment alive both.0 both.1) a b
    (subst (λ disks. MayLeave g.D.Disk.may_leave disks a b) (ap (λ log. sides_of two.on_b log.disk c.compact_onto.new.other) found.1) left))

pub returns-in-Err-Worn-clause-left : goal.returns-in-Err-Worn-clause-left
returns-in-Err-Worn-clause-left g c = rw (← c.self.view_is) (λ alive before told a b left.
    let two = c.self.inside.two in
    let both = told_both (g.D.Disk.holds two.other) two.log.bodies before told in
    let found = compact_worn c.in-Err-Worn.field-0 _ _ _ _ c.in-Err-Worn.field-0-is c.in-Err-Worn.ensures.fault in
    compact_images g.D.Disk.may_leave g.D.Disk.holds g.D.Disk.moment g.D.Disk.left_since g.met.D.Disk.counts_now g.met.D.Disk.only_now
    two.log two.other c.compact_onto.new.other two.on_b before (bodies_in c.args.bodies.now.items) both.0 c.self.invariant alive both.2 both.1 (c.rest.ensures.left alive before both.2)
    (c.rest.ensures.side alive before both.2) (c.in-Err-Worn.ensures.any_moment alive both.0 both.1) a b
    (subst (λ disks. MayLeave g.D.Disk.may_leave disks a b) (ap (λ log. sides_of two.on_b log.disk c.compact_onto.new.other) found.2) left))
