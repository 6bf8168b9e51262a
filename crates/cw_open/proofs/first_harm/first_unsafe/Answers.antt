use Rattle.std.proofs.Common.{subst}
use Rattle.cw_types.specs.declared.logs.LogName.TheVariants.{Config, Txn}
use Rattle.cw_model.specs.StandsFor.{safety_of}
use Rattle.cw_open.specs.Judging.{Says}
use Rattle.cw_open.proofs.HarmLemmas.{txn_unsafe, all_safe}
use Rattle.cw_open.proofs.first_harm.first_unsafe.Goals as goal

pub returns-in-Some-2 : goal.returns-in-Some-2
returns-in-Some-2 c =
    txn_unsafe c.args.frames.now (subst (Says (safety_of c.args.frames.now Config)) c.in_default.is c.config_unsafe.ensures)
    c.in-Some-2.at (subst (Says (safety_of c.args.frames.now Txn)) c.in-Some-2.is c.in_ok-at.ensures)

pub returns : goal.returns
returns c =
    all_safe c.args.frames.now (subst (Says (safety_of c.args.frames.now Config)) c.in_default.is c.config_unsafe.ensures)
    (subst (Says (safety_of c.args.frames.now Txn)) c.in_default-2.is c.in_ok-at.ensures)
