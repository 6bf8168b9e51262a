use Rattle.std.proofs.Common.{◌+◌, ◌++◌, length}
use Rattle.cw_disk.specs.Disk.{written, Torn}
use Rattle.cw_disk.proofs.Moments.{adds_then, adds_weaker}
use Rattle.cw_log.specs.Calls.{IsGated}
use Rattle.cw_log.proofs.Gates.{told_after, behind_done, behind_torn, gate_torn}
use Rattle.cw_log.proofs.calls.open_gate.Goals as goal

pub returns-clause-left : goal.returns-clause-left
returns-clause-left g c file is image left =
    let start = c.requires.start file is in
    let staged = told_after (λ f. written f (c.args.gate + 1) c.args.tail.now) _ _ file (file ++ c.args.tail.now) c.in_ok-put.ensures.done is (behind_done file c.args.gate c.args.tail.now start) in
    gate_torn file c.args.gate c.args.tail.now start image (c.put-2.ensures.left _ staged image left)

pub returns-clause-adds : goal.returns-clause-adds
returns-clause-adds g c file is =
    let start = c.requires.start file is in
    let staged = told_after (λ f. written f (c.args.gate + 1) c.args.tail.now) _ _ file (file ++ c.args.tail.now) c.in_ok-put.ensures.done is (behind_done file c.args.gate c.args.tail.now start) in
    adds_then g.D.Disk.moment g.D.Disk.left_since c.args.disk.now c.put.new.disk c.put-2.new.disk (IsGated c.args.gate file c.args.tail.now)
    (adds_weaker g.D.Disk.moment g.D.Disk.left_since c.args.disk.now c.put.new.disk (Torn (c.args.gate + 1) (length c.args.tail.now) file) (IsGated c.args.gate file c.args.tail.now) (c.put.ensures.adds file is) (behind_torn file c.args.gate c.args.tail.now start))
    (adds_weaker g.D.Disk.moment g.D.Disk.left_since c.put.new.disk c.put-2.new.disk (Torn c.args.gate 1 (file ++ c.args.tail.now)) (IsGated c.args.gate file c.args.tail.now) (c.put-2.ensures.adds _ staged) (gate_torn file c.args.gate c.args.tail.now start))
