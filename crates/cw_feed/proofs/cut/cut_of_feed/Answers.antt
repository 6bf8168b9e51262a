use Rattle.std.proofs.Common.{sym}
use Rattle.std.proofs.lemmas.List.{take_rest}
use Rattle.cw_feed.proofs.Cuts.{feed_is_cut, feed_is_too_long, feed_is_at_end, cut_of_feed-past}
use Rattle.cw_feed.proofs.cut.cut_of_feed.Goals as goal

pub returns-then-from-bytes : goal.returns-then-from-bytes
returns-then-from-bytes c = sym (cut_of_feed-past c.args.from c.args.max c.args.bytes.now c.if-from-bytes.true)

pub returns-in-Some : goal.returns-in-Some
returns-in-Some c =
    feed_is_cut c.args.from c.args.max c.args.bytes.now _ (take_rest c.args.bytes.now c.args.from) c.in-Some.first c.lines_end-to.result c.requires c.in-Some.ensures c.lines_end-to.ensures.end

pub returns-in-None : goal.returns-in-None
returns-in-None c =
    feed_is_too_long c.args.from c.args.max c.args.bytes.now _ (take_rest c.args.bytes.now c.args.from) c.in-None.ensures c.if-rest-gt-LONGEST_LINE.true

pub returns-in-None-2 : goal.returns-in-None-2
returns-in-None-2 c =
    feed_is_at_end c.args.from c.args.max c.args.bytes.now _ (take_rest c.args.bytes.now c.args.from) c.in-None.ensures c.if-rest-gt-LONGEST_LINE.false
