use Rattle.std.proofs.Common.{◌+◌, sym, ap, ◌∙◌, arith}
use Rattle.cw_topics.specs.Topics.{TopicsState}
use Rattle.cw_topics.specs.Statuses.{next_in, offset_from}
use Rattle.cw_topics.proofs.StatusLists.{no-offset, too-long}
use Rattle.cw_topics.proofs.topics.Topics.ready_status.Goals as goal

pub returns-in_default-clause-refused : goal.returns-in_default-clause-refused
returns-in_default-clause-refused c = λ why is other. no-offset c.args.size (c.len.result + c.len-2.result + 34) _ why c.in_ok-key.key.items c.in_ok-key.text.items
    c.in_ok-key.ensures.key c.in_ok-key.ensures.text
    (ap (λ (t : TopicsState). offset_from (next_in t.statuses.list)) (sym c.self.view_is) ∙ sym c.next.ensures ∙ c.in_default.is)
    (omega (arith, c.len.ensures, c.len-2.ensures)) cc

pub returns-then-len-gt-MOST-clause-refused : goal.returns-then-len-gt-MOST-clause-refused
returns-then-len-gt-MOST-clause-refused c = λ why is other. too-long c.args.size (c.len.result + c.len-2.result + 34) _ why c.in_ok-key.key.items c.in_ok-key.text.items
    c.in_ok-key.ensures.key c.in_ok-key.ensures.text
    (omega (arith, c.if-len-gt-MOST.true, c.len-3.ensures)) (omega (arith, c.len.ensures, c.len-2.ensures)) cc
