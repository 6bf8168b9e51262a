-- An event that was refused, as a task's step tells of it (KIP-618).
use Rattle.std.specs.Prelude.{ℕ}
use Rattle.cw_model.specs.declared.did.Did.{Did}
use Rattle.cw_model.specs.declared.fault.WorldFault.{WorldFault}
use Rattle.cw_model.specs.State.{Cluster}
use Rattle.cw_model.specs.Answers.{Answer, refused}
use Rattle.cw_model.specs.Steps.{tells}

-- what is told of it; a task whose producer is fenced fails
abbrev pub refuses : ℕ → WorldFault → Cluster → Answer Did
refuses i fault s = tells i (refused fault s) (λ (done : Did). done)
