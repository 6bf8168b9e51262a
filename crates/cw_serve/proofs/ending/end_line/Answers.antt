use Rattle.std.proofs.Common.{rules, ◌≡◌, length}
use Rattle.cw_serve.proofs.Talking.{beside_none, kept_last, no_talks_yet}
use Rattle.cw_serve.proofs.ending.end_line.Goals as goal

pub returns-clause-talks : goal.returns-clause-talks
returns-clause-talks g c =
    let none : length c.args.books.items ≡ 0 = search rules in
    let handled = c.absorb_all.ensures.talks (no_talks_yet _ g.L.Link c.args.acceptor.now.taken c.args.books.items c.requires.fresh.0 none) in
    kept_last _ g.L.Link c.serve_left-own.new.acceptor.taken c.absorb_all.new.books.items c.push_reserved.new.self.items c.serve_left-own.result c.push_reserved.ensures.items
    (c.serve_left-own.ensures.talks _ (beside_none g.L.Link c.absorb_all.new.acceptor.taken _ c.args.own.receipts.items c.requires.fresh.1 handled))
