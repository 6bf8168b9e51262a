-- What an event keeps.
use Rattle.cw_model.specs.State.{Setting, Cluster}
use Rattle.cw_model.specs.Answers.{Answer}
use Rattle.cw_model.specs.Facts.{AreFacts}

-- whatever an event answers, a state that has all facts has them behind it
abbrev pub Keeps : {A : Type 0} → Setting → Cluster → Answer A → Type 0
Keeps setting s answer = AreFacts setting s → AreFacts setting answer.1
