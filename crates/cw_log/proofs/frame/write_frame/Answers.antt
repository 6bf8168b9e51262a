use Rattle.std.proofs.Common.{◌∙◌, List, ℕ, subst}
use Rattle.cw_log.specs.Calls.{IsGated}
use Rattle.cw_log.proofs.frame.write_frame.Goals as goal

pub returns-clause-left : goal.returns-clause-left
returns-clause-left g c file is image left = subst (λ (tail : List ℕ). IsGated c.args.gate file tail image) (c.deref.ensures.value ∙ c.fill.ensures.bytes) (c.open_gate.ensures.left file is image left)
