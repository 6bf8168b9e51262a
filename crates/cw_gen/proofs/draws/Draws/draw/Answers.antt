use Rattle.std.proofs.Common.{ℕ, ◌/◌, ◌%◌, ◌^◌, ap, ◌∙◌}
use Rattle.cw_gen.specs.Draws.{drawn, next_number}
use Rattle.cw_gen.proofs.draws.Draws.draw.Goals as goal

pub returns-clause-drawn : goal.returns-clause-drawn
unfolding drawn
returns-clause-drawn c = ap (λ (x : ℕ). x / 2 ^ 33 % c.args.k) (c.next_number-self-inside.ensures ∙ ap next_number c.self.view_is)
