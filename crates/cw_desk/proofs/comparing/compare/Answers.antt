use Rattle.std.proofs.Common.{rules, ◌≡◌, List, length, subst}
use Rattle.cw_world.specs.Receipts.{ReceiptState}
use Rattle.cw_desk.specs.Comparing.{NoneTwice, NoneElsewhere}
use Rattle.cw_desk.proofs.Order.{are_the_journal}
use Rattle.cw_desk.proofs.Witnesses.{as_they_were}
use Rattle.cw_desk.proofs.comparing.compare.Goals as goal

pub returns-in-Some-clause-differs : goal.returns-in-Some-clause-differs
returns-in-Some-clause-differs c = as_they_were c.args.journal.now c.args.receipts.items c.sort.new.receipts.items c.twice.result c.sort.ensures.permutation c.twice.ensures

pub returns-in-Some-first_elsewhere-clause-differs : goal.returns-in-Some-first_elsewhere-clause-differs
returns-in-Some-first_elsewhere-clause-differs c =
    as_they_were c.args.journal.now c.args.receipts.items c.sort.new.receipts.items c.elsewhere.result c.sort.ensures.permutation c.elsewhere.ensures

pub returns-clause-journal : goal.returns-clause-journal
returns-clause-journal c =
    let rs = c.sort.new.receipts.items in
    let size : length rs ≡ length c.args.journal.now = search rules in
    are_the_journal c.args.journal.now rs size c.sort.ensures.sorted
    (subst (λ (l : List ReceiptState). NoneTwice l (length l)) c.as_slice.ensures.value c.in_default.ensures.none)
    (subst (λ (l : List ReceiptState). NoneElsewhere c.args.journal.now l (length l)) c.as_slice-2.ensures.value c.in_default-first_elsewhere.ensures.none)
