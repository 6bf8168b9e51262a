use Rattle.cw_connect.proofs.Unread.{unread}
use Rattle.cw_connect.proofs.top.run_words.Goals as goal

pub returns-in-Ok : goal.returns-in-Ok
returns-in-Ok g c = c.run_command.ensures _ c.in-Ok.ensures.asked

pub returns-in-Err : goal.returns-in-Err
returns-in-Err g c = unread g.D.Disk g.I.Source g.O.Sink g.H.Shelf g.U.Outlet g.N.Listener g.N.Link.Link _ _ _ _ c.none.ensures c.new.ensures.items
    c.in-Err.fault c.of_words.result c.of_words.ensures c.in-Err.ensures.usage
