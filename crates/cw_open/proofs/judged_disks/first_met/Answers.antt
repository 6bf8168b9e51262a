use Rattle.std.proofs.Common.{Some, subst}
use Rattle.cw_open.specs.Contents.{SaysWhatIsRead}
use Rattle.cw_open.specs.Found.{SaysHarm}
use Rattle.cw_open.specs.declared.first_harm.FirstHarm.{FirstHarm}
use Rattle.cw_open.proofs.JudgedLemmas.{not-allowed-met, unsafe-met}
use Rattle.cw_open.proofs.judged_disks.first_met.Goals as goal

pub returns-in-Some-NotAllowed : goal.returns-in-Some-NotAllowed
returns-in-Some-NotAllowed c = λ stored read.
    not-allowed-met stored c.args.frames.now c.args.gates.now (subst (SaysWhatIsRead c.args.frames.now c.args.gates.now stored) c.in_default.is read)
    c.in-Some-NotAllowed.place c.place.result c.place.ensures
    (subst (λ (h : FirstHarm). SaysHarm c.args.frames.now (Some h)) c.in-Some-NotAllowed.field-0-is (subst (SaysHarm c.args.frames.now) c.in-Some-NotAllowed.is c.in_ok-place.ensures))

pub returns-in-Some-Unsafe : goal.returns-in-Some-Unsafe
returns-in-Some-Unsafe c = λ stored read.
    let harm = subst (λ (h : FirstHarm). SaysHarm c.args.frames.now (Some h)) c.in-Some-Unsafe.field-0-is (subst (SaysHarm c.args.frames.now) c.in-Some-Unsafe.is c.in_ok-place.ensures) in
    unsafe-met stored c.args.frames.now c.args.gates.now (subst (SaysWhatIsRead c.args.frames.now c.args.gates.now stored) c.in_default.is read)
    c.in-Some-Unsafe.place c.place-in-Some-Unsafe.result c.place-in-Some-Unsafe.ensures harm.0 harm.1
