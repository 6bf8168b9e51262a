use Rattle.std.proofs.Common.{◌≡◌, ◌∙◌, ◌==◌, false, ap, sym, ◌+◌, drop, get_or, eq-eqb, arith}
use Rattle.std.proofs.lemmas.Bool.Decides.{nat_tests}
use Rattle.cw_http.specs.HeadEnd.{empty_line}
use Rattle.cw_http.proofs.HeadEnds.{head_length-other, head_length-open, head_length-more, slice-behind}
use Rattle.cw_http.proofs.head_end.head_length.Goals as goal
use Rattle.cw_http.proofs.head_end.head_length.Goals.{then-byte-eq10+in_default, else-byte-eq10}

pub loop-at-preserved : goal.loop-at-preserved
loop-at-preserved c =
    let byte = get_or c.args.bytes.now c.loop-at.at 0 in
    let rest = drop (c.loop-at.at + 1) c.args.bytes.now in
    head_length-more c.args.bytes.now c.loop-at.at c.loop-at-test.true
    (elim c.if-byte-eq10.branch [
      | then-byte-eq10+in_default w ↦ head_length-open byte rest (eq-eqb byte 10 w.if-byte-eq10.true)
          (ap empty_line (sym (slice-behind c.args.bytes.now (c.loop-at.at + 1))) ∙ sym w.empty_line.ensures.length ∙ w.in_default.is)
      | else-byte-eq10 w ↦
          let other : (byte == 10) ≡ false = grind (arith, nat_tests, w.if-byte-eq10.false) in head_length-other byte rest other
    ])
    c.loop-at.invariant
