use Rattle.std.proofs.Common.{◌∙◌, [], ◌∷◌, List, ℕ, length, sym, ap, arith, length-drop}
use Rattle.cw_disk.specs.Disk.{written}
use Rattle.cw_log.proofs.Gates.{told_before}
use Rattle.cw_log.proofs.compact.unmake.Goals as goal

pub clear-requires-2-clause-length : goal.clear-requires-2-clause-length
clear-requires-2-clause-length g c now told =
    let old = told_before (λ (f : List ℕ). written f 0 (0 ∷ [])) (g.D.Disk.holds c.head_of.new.disk) now (sym c.in_ok-put.ensures.done ∙ told) in
    omega (arith, c.in_ok-size.ensures.length old.0 (sym c.length_of.ensures.reads.same ∙ sym c.head_of.ensures.reads.same ∙ old.1), ap length old.2, length-drop 1 old.0, c.if-size-lt2.false)
