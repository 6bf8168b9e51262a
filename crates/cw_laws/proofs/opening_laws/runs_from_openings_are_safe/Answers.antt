use Rattle.std.proofs.Common.{inl, refl}
use Rattle.cw_model.specs.Reopening.{stored_of}
use Rattle.cw_model.specs.Runs.{behind_all}
use Rattle.cw_laws.proofs.Kept.{run-keeps-facts}
use Rattle.cw_laws.proofs.Opens.{opens, left-opens}
use Rattle.cw_laws.proofs.opening_laws.runs_from_openings_are_safe.Goals as goal

pub returns-clause-safe : goal.returns-clause-safe
returns-clause-safe c = λ setting stored s steps opening run. (run-keeps-facts setting s steps run (opens setting stored s opening)).safe

pub returns-clause-journal : goal.returns-clause-journal
returns-clause-journal c = λ setting stored s steps opening run. (run-keeps-facts setting s steps run (opens setting stored s opening)).journal

pub returns-clause-again : goal.returns-clause-again
returns-clause-again c = λ setting other stored s steps opening run short.
    let facts = run-keeps-facts setting s steps run (opens setting stored s opening) in
    left-opens setting other (behind_all setting s steps) (behind_all setting s steps) (stored_of (behind_all setting s steps)) facts facts short (inl refl)
