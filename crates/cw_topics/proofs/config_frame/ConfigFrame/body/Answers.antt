use Rattle.std.proofs.Common.{◌≤◌, ◌∙◌, ℕ, List, length, sym, subst}
use Rattle.cw_topics.proofs.ConfigFrames.{config-bytes}
use Rattle.cw_topics.proofs.config_frame.ConfigFrame.body.Goals as goal

pub returns-clause-some : goal.returns-clause-some
returns-clause-some c = subst (λ (bytes : List ℕ). 1 ≤ length bytes) (sym (c.as_slice.ensures.value ∙ c.self.invariant.body_is)) (config-bytes c.self.inside.records.items)
