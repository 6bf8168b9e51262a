use Rattle.std.proofs.Common.{◌∙◌, sym, subst}
use Rattle.cw_open.specs.Contents.{SaysWhatIsRead, frames_of, gates_of}
use Rattle.cw_open.proofs.ContentLemmas.{unread-offsets, unread-status, unread-txn, unread-batches, all-read}
use Rattle.cw_open.proofs.contents.first_unreadable.Goals as goal

pub returns-in-Some-unread : goal.returns-in-Some-unread
returns-in-Some-unread g c stored are = subst (SaysWhatIsRead (frames_of c.args.logs.now) (gates_of c.args.logs.now) stored) (sym c.found_at-in-Some-unread.ensures)
    (unread-offsets c.args.logs.now stored are (sym c.unread.ensures ∙ c.in_default.is)
    c.in-Some-unread.at (sym c.unread-2.ensures ∙ c.in-Some-unread.is))

pub returns-in-Some-unread-2 : goal.returns-in-Some-unread-2
returns-in-Some-unread-2 g c stored are = subst (SaysWhatIsRead (frames_of c.args.logs.now) (gates_of c.args.logs.now) stored) (sym c.found_at-in-Some-unread-2.ensures)
    (unread-status c.args.logs.now stored are (sym c.unread.ensures ∙ c.in_default.is) (sym c.unread-2.ensures ∙ c.in_default-unread.is)
    c.in-Some-unread-2.at (sym c.unread-3.ensures ∙ c.in-Some-unread-2.is))

pub returns-in-Some-unread-3 : goal.returns-in-Some-unread-3
returns-in-Some-unread-3 g c stored are = subst (SaysWhatIsRead (frames_of c.args.logs.now) (gates_of c.args.logs.now) stored) (sym c.found_at-in-Some-unread-3.ensures)
    (unread-txn c.args.logs.now stored are (sym c.unread.ensures ∙ c.in_default.is) (sym c.unread-2.ensures ∙ c.in_default-unread.is) (sym c.unread-3.ensures ∙ c.in_default-unread-2.is)
    c.in-Some-unread-3.at (sym c.unread-4.ensures ∙ c.in-Some-unread-3.is))

pub returns-in-Some-unread-4 : goal.returns-in-Some-unread-4
returns-in-Some-unread-4 g c stored are = subst (SaysWhatIsRead (frames_of c.args.logs.now) (gates_of c.args.logs.now) stored) (sym c.found_at-in-Some-unread-4.ensures)
    (unread-batches c.args.logs.now stored are (sym c.unread.ensures ∙ c.in_default.is) (sym c.unread-2.ensures ∙ c.in_default-unread.is) (sym c.unread-3.ensures ∙ c.in_default-unread-2.is) (sym c.unread-4.ensures ∙ c.in_default-unread-3.is)
    c.in-Some-unread-4.at (sym c.unread-5.ensures ∙ c.in-Some-unread-4.is))

pub returns : goal.returns
returns g c stored are = all-read c.args.logs.now stored are (sym c.unread.ensures ∙ c.in_default.is) (sym c.unread-2.ensures ∙ c.in_default-unread.is) (sym c.unread-3.ensures ∙ c.in_default-unread-2.is) (sym c.unread-4.ensures ∙ c.in_default-unread-3.is)
    (sym c.unread-5.ensures ∙ c.in_default-unread-4.is)
