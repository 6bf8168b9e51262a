use Rattle.std.proofs.Common.{List, ℕ, refl, map}
use Rattle.cw_pair.specs.State.{sides_of}
use Rattle.cw_pair.proofs.Stretches.{chosen_adds, pair_of, past_pushed}
use Rattle.cw_pair.proofs.pair_body_log.PairLogBodyLog.reserve.Goals as goal

pub returns-clause-any_moment : goal.returns-clause-any_moment
returns-clause-any_moment g c = rw (← c.self.view_is) (
    let two = c.self.inside.two in
    chosen_adds g.D.Disk.may_leave g.D.Disk.moment g.D.Disk.left_since g.met.D.Disk.counts_now g.met.D.Disk.only_now
    (pair_of two.log two.other two.on_b (map (λ t. sides_of t.on_b t.log.disk t.other) c.self.inside.past.items) c.self.inside.failed)
    (pair_of c.reserve.new.self two.other two.on_b (map (λ t. sides_of t.on_b t.log.disk t.other) c.and-self-inside.result.items) c.self.inside.failed)
    (λ (image : List ℕ). ⊥) (λ (list : List (List ℕ)). ⊥) c.reserve.ensures.same.kind (past_pushed (λ t. sides_of t.on_b t.log.disk t.other) c.self.inside.past.items c.and-self-inside.result.items two c.and-self-inside.ensures) refl refl
    c.reserve.ensures.reads.adds (λ image other none left list stands. none))
