use Rattle.std.proofs.Common.{◌≡◌, ◌↔◌, IsTrue, List, ℕ, subst}
use Rattle.std.specs.Result.{IsOk}
use Rattle.cw_keys.specs.Statuses.{status_of}
use Rattle.cw_open.proofs.Readings.{status_is}
use Rattle.cw_open.proofs.statuses.is_status.Goals as goal

pub returns-in_ok-read-in-Some : goal.returns-in_ok-read-in-Some
returns-in_ok-read-in-Some c =
    status_is c.args.applied.now c.in-Some.value c.in-Some.is c.in_ok-read-in-Some.read
    (subst (λ (text : List ℕ). IsTrue c.in_ok-read-in-Some.read ↔ IsOk (status_of c.args.applied.now.key text)) c.as_slice-in-Some.ensures
    (subst (λ (key : List ℕ). IsTrue c.in_ok-read-in-Some.read ↔ IsOk (status_of key c.as_slice-in-Some.result.now)) c.as_slice.ensures c.in_ok-read-in-Some.ensures))
