use Rattle.std.proofs.Common.{◌++◌, ◌∷◌, [], List, take, ap, sym, subst, ◌∙◌, arith, append_assoc}
use Rattle.std.proofs.lemmas.List.{take_all}
use Rattle.cw_txn.specs.declared.entry.Entry.{Entry}
use Rattle.cw_compact.specs.Outcomes.{AreOutcomes}
use Rattle.cw_compact.proofs.Joined.{more, append_none}
use Rattle.cw_compact.proofs.offsets.note_entries.Goals as goal

pub loop-entry-init : goal.loop-entry-init
loop-entry-init c = λ log before stored known. subst (AreOutcomes c.args.outcomes.now log) (sym (append_none before)) known

pub loop-entry-preserved : goal.loop-entry-preserved
loop-entry-preserved c = λ log before stored known.
    let entries : List Entry = c.args.entries.now in
    let front : List Entry = take c.loop-entry.entry-index entries in
    subst (AreOutcomes c.note.new.self log)
    (append_assoc before front (c.entry-item.result ∷ [])
    ∙ ap (λ (l : List Entry). before ++ l) (sym (more entries c.loop-entry.entry-index c.entry-item.result c.loop-entry-test.true c.entry-item.is)))
    (c.in_ok-note.ensures log (before ++ front) stored (c.loop-entry.invariant log before stored known))

pub returns : goal.returns
returns c = λ log before stored known. subst (λ (l : List Entry). AreOutcomes c.loop-entry.outcomes log (before ++ l)) (take_all c.loop-entry.entry-index c.args.entries.now (omega arith)) (c.loop-entry.invariant log before stored known)
