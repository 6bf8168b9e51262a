use Rattle.std.proofs.Common.{◌++◌, List, take, sym, subst, arith}
use Rattle.std.proofs.lemmas.List.{take_all}
use Rattle.cw_bytes.specs.Frames.{joined}
use Rattle.cw_txn.specs.declared.entry.Entry.{Entry}
use Rattle.cw_compact.specs.Outcomes.{AreOutcomes}
use Rattle.cw_compact.proofs.Joined.{joined_more}
use Rattle.cw_compact.proofs.offsets.outcomes_of.Goals as goal

pub loop-frame-init : goal.loop-frame-init
loop-frame-init c = λ log stored. c.new-outcomes.ensures log

pub loop-frame-preserved : goal.loop-frame-preserved
loop-frame-preserved c = λ log stored.
    let frames : List (List Entry) = c.args.txn.now in
    let before : List Entry = joined (take c.loop-frame.frame-index frames) in
    subst (AreOutcomes c.note_entries.new.outcomes log)
    (sym (joined_more frames c.loop-frame.frame-index c.frame-item.result c.loop-frame-test.true c.frame-item.is))
    (subst (λ (f : List Entry). AreOutcomes c.note_entries.new.outcomes log (before ++ f)) c.as_slice.ensures
    (c.in_ok-note_entries.ensures log before stored (c.loop-frame.invariant log stored)))

pub returns : goal.returns
returns c = λ log stored. subst (λ (l : List (List Entry)). AreOutcomes c.loop-frame.outcomes log (joined l)) (take_all c.loop-frame.frame-index c.args.txn.now (omega arith)) (c.loop-frame.invariant log stored)
