use Rattle.std.proofs.Common.{arith}
use Rattle.cw_log.proofs.Windows.{open_frame}
use Rattle.cw_log.proofs.scan.frame_of.Goals as goal

pub returns-clause-frame : goal.returns-clause-frame
returns-clause-frame c bytes long shows =
    open_frame c.args.five.now bytes c.from_be_bytes-length.result c.requires.five (λ i. omega (arith, c.type_inv.five i)) shows (omega arith) c.from_be_bytes-length.ensures
    (omega arith) c.from_be_bytes-length.type_inv (omega arith)
