use Rattle.std.proofs.Common.{◌+◌, ◌++◌, ◌∷◌, [], ℕ, List, Option, length, refl, sym, subst, arith}
use Rattle.cw_open.specs.FoundFrames.{FoundState, IsFoundIn}
use Rattle.cw_open.proofs.FoundLemmas.{takes-one}
use Rattle.cw_open.proofs.found.FoundFrames.take.Goals as goal

abbrev as_found : {A : Type 0} → List A → List ℕ → Option ℕ → ℕ → ℕ → FoundState A
as_found frames gates unread count size = record { frames = frames; gates = gates; unread = unread; count = count; size = size }

pub invariant_of-self : goal.invariant_of-self
invariant_of-self g c = let own = c.self.inside in let new = c.find_more.new in record {
  bodies = c.self.invariant.bodies ++ c.args.body.now ∷ [];
  «in» = takes-one g.A.LogFrame.at (as_found own.frames.items own.gates.items own.unread own.count own.size)
      (as_found new.frames.items new.gates.items new.unread (own.count + 1) (own.size + (length c.args.body.now + 5)))
      c.args.body.now (λ i. omega (arith, c.type_inv.body i)) c.in-Ok.ensures refl refl c.self.invariant.bodies c.self.invariant.«in»;
}

pub returns-in-Ok : goal.returns-in-Ok
returns-in-Ok g c bodies is = let own = c.self.inside in let new = c.find_more.new in
    takes-one g.A.LogFrame.at (as_found own.frames.items own.gates.items own.unread own.count own.size)
    (as_found new.frames.items new.gates.items new.unread (own.count + 1) (own.size + (length c.args.body.now + 5)))
    c.args.body.now (λ i. omega (arith, c.type_inv.body i)) c.in-Ok.ensures refl refl bodies
    (subst (λ s. IsFoundIn g.A.LogFrame.at s bodies) (sym c.self.view_is) is)
