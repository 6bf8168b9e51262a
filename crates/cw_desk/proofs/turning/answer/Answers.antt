use Rattle.std.proofs.lemmas.Result.{err_from_is_err_and}
use Rattle.std.specs.declared.alloc.AllocError.{AllocError}
use Rattle.cw_world.specs.Receipts.{ReceiptState}
use Rattle.std.proofs.Common.{Result, ◌≡◌, ◌<◌, length, sym, ap, ◌∙◌, subst}
use Rattle.cw_model.specs.State.{Cluster}
use Rattle.cw_desk.specs.Turns.{IsTurn, entry_of, lengths_in}
use Rattle.cw_desk.proofs.Submitted.{turn-wants, turn-stops, turn-fails, turn-done, may-keep, left-there}
use Rattle.cw_desk.proofs.turning.answer.Goals as goal

pub returns-in_default : goal.returns-in_default
returns-in_default g c = turn-wants g.D.Disk c.args.w c.args.call c.args.world.now _

pub entry_of-requires : goal.entry_of-requires
entry_of-requires g c = subst (λ (t : Cluster). c.args.w < length t.rows) (sym c.cluster-2.ensures.state)
    (left-there g.D.Disk c.args.w c.args.call c.args.world.now c.submit-answer.new.world c.submit-answer.result c.is_safe.ensures.facts c.requires
    c.submit-answer.ensures)

pub returns-in_err-entry : goal.returns-in_err-entry
returns-in_err-entry g c =
    let p = err_from_is_err_and c.from_residual.result c.from_residual.ensures.1 in
    subst (λ (r : Result ReceiptState AllocError). IsTurn g.D.Disk c.args.w c.args.call c.args.world.now c.submit-answer.new.world r) (sym p.1)
    (turn-stops g.D.Disk c.args.w c.args.call c.args.world.now c.submit-answer.new.world c.submit-answer.result c.is_safe.ensures.facts
    c.requires c.submit-answer.ensures p.0)

pub journal-requires : goal.journal-requires
journal-requires g c =
    let found : c.in-Some.found ≡ lengths_in c.args.w c.args.call c.args.world.now.state =
    c.in-Some.ensures.some ∙ ap (λ (t : Cluster). lengths_in c.args.w c.args.call t) c.cluster.ensures.state in
    let is : c.in_ok-entry.entry ≡ entry_of c.args.w c.args.call c.submit-answer.result c.args.world.now.state c.submit-answer.new.world.state =
    c.in_ok-entry.ensures c.args.world.now.state found ∙
    ap (λ (t : Cluster). entry_of c.args.w c.args.call c.submit-answer.result c.args.world.now.state t) c.cluster-2.ensures.state in
    may-keep g.D.Disk c.args.w c.args.call c.args.world.now c.submit-answer.new.world c.submit-answer.result c.is_safe.ensures.facts
    c.requires c.submit-answer.ensures c.in_ok-entry.entry is

pub returns-in-Ok : goal.returns-in-Ok
returns-in-Ok g c =
    let found : c.in-Some.found ≡ lengths_in c.args.w c.args.call c.args.world.now.state =
    c.in-Some.ensures.some ∙ ap (λ (t : Cluster). lengths_in c.args.w c.args.call t) c.cluster.ensures.state in
    let is : c.in_ok-entry.entry ≡ entry_of c.args.w c.args.call c.submit-answer.result c.args.world.now.state c.submit-answer.new.world.state =
    c.in_ok-entry.ensures c.args.world.now.state found ∙
    ap (λ (t : Cluster). entry_of c.args.w c.args.call c.submit-answer.result c.args.world.now.state t) c.cluster-2.ensures.state in
    turn-done g.D.Disk c.args.w c.args.call c.args.world.now c.submit-answer.new.world c.submit-answer.result c.is_safe.ensures.facts
    c.requires c.submit-answer.ensures c.in_ok-entry.entry is c.journal.new.self c.journal.result c.journal.ensures.done c.in-Ok.receipt c.in-Ok.is
    c.in-Ok.ensures.entry c.in-Ok.ensures.name

pub returns : goal.returns
returns g c =
    let found : c.in-Some.found ≡ lengths_in c.args.w c.args.call c.args.world.now.state =
    c.in-Some.ensures.some ∙ ap (λ (t : Cluster). lengths_in c.args.w c.args.call t) c.cluster.ensures.state in
    let is : c.in_ok-entry.entry ≡ entry_of c.args.w c.args.call c.submit-answer.result c.args.world.now.state c.submit-answer.new.world.state =
    c.in_ok-entry.ensures c.args.world.now.state found ∙
    ap (λ (t : Cluster). entry_of c.args.w c.args.call c.submit-answer.result c.args.world.now.state t) c.cluster-2.ensures.state in
    turn-fails g.D.Disk c.args.w c.args.call c.args.world.now c.submit-answer.new.world c.submit-answer.result c.is_safe.ensures.facts
    c.requires c.submit-answer.ensures c.in_ok-entry.entry is c.journal.new.self c.journal.result c.journal.ensures.done c.in-Err.field-0 _ c.in-Err.is
