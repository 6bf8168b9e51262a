use Rattle.std.proofs.Common.{◌≡◌, ℕ, List, ◌++◌, IfOk, codes, subst}
use Rattle.cw_rest.specs.Messages as message
use Rattle.cw_reply.proofs.message.already_there.Goals as goal

pub returns : goal.returns
returns c = subst (λ (text : List ℕ). IfOk c.refusal_of.result (λ reply. reply ≡ message.refusal 409 (codes "Connector " ++ text ++ codes " already exists"))) c.text_of_name.ensures.text c.refusal_of.ensures
