use Rattle.std.proofs.Common.{◌≤◌, ◌++◌, ◌∷◌, inr, List, ℕ, length, sym, ◌∙◌, ap, arith, length-append}
use Rattle.cw_log.specs.Log.{IsSide, new_log, number_of}
use Rattle.cw_log.proofs.Gates.{told_before}
use Rattle.cw_log.proofs.Sides.{new_number, number_take}
use Rattle.cw_log.proofs.open.opened.Goals as goal

pub returns-then-size-lt2-clause-side : goal.returns-then-size-lt2-clause-side
returns-then-size-lt2-clause-side g c now told =
    let before = told_before (λ (f : List ℕ). new_log c.args.kind) (g.D.Disk.holds c.first_part.new.disk) now (sym c.in_ok-frames.ensures.bytes ∙ told) in
    ap number_of (sym before.2) ∙ new_number c.args.kind

pub returns-clause-bytes : goal.returns-clause-bytes
returns-clause-bytes g c file is =
    let ends = c.in_ok-frames-2.ensures.bytes file (c.first_part.ensures.reads.same ∙ is) in
    let long : 16 ≤ length file = omega (arith, ap length ends.split, length-append (ends.head ++ ends.front) (0 ∷ ends.rest), length-append ends.head ends.front, ends.size) in
    let size = c.in_ok-size.ensures.size file is in
    let head = c.in_ok-size.ensures.whole file is long in
    let side : IsSide c.number_in.result file = record {
      long = omega (arith, long);
      «open» = omega (arith, c.in_ok-size.ensures.first file is (omega (arith, long)), c.if-head-eq0.false);
      side = sym (c.number_in.ensures ∙ ap number_of head ∙ number_take file);
    } in
    inr (side, ends)
