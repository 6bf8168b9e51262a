use Rattle.std.proofs.Common.{List, ℕ, Some, refl, map}
use Rattle.cw_pair.specs.State.{sides_of}
use Rattle.cw_pair.proofs.Pairs.{pair_same}
use Rattle.cw_pair.proofs.Stretches.{chosen_adds, pair_of, past_pushed}
use Rattle.cw_pair.proofs.pair_body_log.PairLogBodyLog.read_body.Goals as goal

pub invariant_of-self-in-Err-Failed : goal.invariant_of-self-in-Err-Failed
invariant_of-self-in-Err-Failed g c =
    let same = c.read_body.ensures.same in
    pair_same g.D.Disk.holds g.D.Disk.may_leave c.self.inside.two.log c.read_body.new.self c.self.inside.two.other same.kind same.number same.bodies same.shut c.self.invariant

pub returns-in-Ok-clause-any_moment : goal.returns-in-Ok-clause-any_moment
returns-in-Ok-clause-any_moment g c = rw (← c.self.view_is) (
    let two = c.self.inside.two in
    chosen_adds g.D.Disk.may_leave g.D.Disk.moment g.D.Disk.left_since g.met.D.Disk.counts_now g.met.D.Disk.only_now
    (pair_of two.log two.other two.on_b (map (λ t. sides_of t.on_b t.log.disk t.other) c.self.inside.past.items) c.self.inside.failed)
    (pair_of c.read_body.new.self two.other two.on_b (map (λ t. sides_of t.on_b t.log.disk t.other) c.and-self-inside.result.items) c.self.inside.failed)
    (λ (image : List ℕ). ⊥) (λ (list : List (List ℕ)). ⊥) c.read_body.ensures.same.kind (past_pushed (λ t. sides_of t.on_b t.log.disk t.other) c.self.inside.past.items c.and-self-inside.result.items two c.and-self-inside.ensures) refl refl
    c.read_body.ensures.reads.adds (λ image other none left list stands. none))

pub returns-in-Err-Memory-clause-any_moment : goal.returns-in-Err-Memory-clause-any_moment
returns-in-Err-Memory-clause-any_moment g c = rw (← c.self.view_is) (
    let two = c.self.inside.two in
    chosen_adds g.D.Disk.may_leave g.D.Disk.moment g.D.Disk.left_since g.met.D.Disk.counts_now g.met.D.Disk.only_now
    (pair_of two.log two.other two.on_b (map (λ t. sides_of t.on_b t.log.disk t.other) c.self.inside.past.items) c.self.inside.failed)
    (pair_of c.read_body.new.self two.other two.on_b (map (λ t. sides_of t.on_b t.log.disk t.other) c.and-self-inside.result.items) c.self.inside.failed)
    (λ (image : List ℕ). ⊥) (λ (list : List (List ℕ)). ⊥) c.read_body.ensures.same.kind (past_pushed (λ t. sides_of t.on_b t.log.disk t.other) c.self.inside.past.items c.and-self-inside.result.items two c.and-self-inside.ensures) refl refl
    c.read_body.ensures.reads.adds (λ image other none left list stands. none))

pub returns-in-Err-Failed-clause-any_moment : goal.returns-in-Err-Failed-clause-any_moment
returns-in-Err-Failed-clause-any_moment g c = rw (← c.self.view_is) (
    let two = c.self.inside.two in
    chosen_adds g.D.Disk.may_leave g.D.Disk.moment g.D.Disk.left_since g.met.D.Disk.counts_now g.met.D.Disk.only_now
    (pair_of two.log two.other two.on_b (map (λ t. sides_of t.on_b t.log.disk t.other) c.self.inside.past.items) c.self.inside.failed)
    (pair_of c.read_body.new.self two.other two.on_b (map (λ t. sides_of t.on_b t.log.disk t.other) c.and-self-inside.result.items) (Some c.log_faults.result))
    (λ (image : List ℕ). ⊥) (λ (list : List (List ℕ)). ⊥) c.read_body.ensures.same.kind (past_pushed (λ t. sides_of t.on_b t.log.disk t.other) c.self.inside.past.items c.and-self-inside.result.items two c.and-self-inside.ensures) refl refl
    c.read_body.ensures.reads.adds (λ image other none left list stands. none))
