use Rattle.cw_txn.proofs.WalkLemmas.{is_coordinator, names_not_allowed, names_unchained}
use Rattle.cw_txn.proofs.replay.Replay.into_coordinator.Goals as goal

pub returns-in-Some-clause-fault : goal.returns-in-Some-clause-fault
returns-in-Some-clause-fault c = names_not_allowed c.self.inside.walk c.args.self c.self.invariant c.self.view_is c.in-Some.gate c.in-Some.is

pub returns-in-Some-unchained-clause-fault : goal.returns-in-Some-unchained-clause-fault
returns-in-Some-unchained-clause-fault c =
    names_unchained c.self.inside.walk c.args.self c.self.invariant c.self.view_is c.in-Some-unchained.gate c.in_default.is c.in-Some-unchained.is

pub coordinator_of-requires : goal.coordinator_of-requires
coordinator_of-requires c = is_coordinator c.self.inside.walk c.self.invariant c.in_default.is c.in_default-unchained.is
