use Rattle.cw_world.specs.Receipts.{ReceiptState}
use Rattle.cw_serve.specs.Following.{GoesOnFrom}
use Rattle.cw_serve.specs.Talking.{entries_in}
use Rattle.cw_serve.proofs.Talking.{pairs_shown, served}
use Rattle.cw_serve.proofs.handling.serve_link.Goals as goal

pub returns : goal.returns
returns g c =
    served g.L.Link c.args.ticket c.serve_conn.result _ _
    (entries_in c.args.kept.receipts.items) (entries_in c.serve_conn.new.desk.kept.receipts.items) c.serve_conn.ensures.talked.1
    (pairs_shown (λ (r : ReceiptState). r.entry) GoesOnFrom c.serve_conn.new.desk.kept.receipts.items c.serve_conn.new.desk.kept.follow)
