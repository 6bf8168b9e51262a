use Rattle.std.proofs.Common.{◌≡◌, ◌⊎◌, ◌∷◌, ℕ, suc, drop, ◌∙◌}
use Rattle.cw_disk.specs.Disk.{Torn}
use Rattle.cw_disk.proofs.Moments.{adds_then, adds_weaker}
use Rattle.cw_log.specs.Log.{IsUnmade}
use Rattle.cw_log.proofs.Gates.{reads_adds}
use Rattle.cw_log.proofs.Replaced.{first_torn}
use Rattle.cw_log.proofs.compact.open_first.Goals as goal

pub returns-clause-adds : goal.returns-clause-adds
returns-clause-adds g c file is =
    adds_then g.D.Disk.moment g.D.Disk.left_since c.args.disk.now c.flush.new.disk c.put.new.disk (λ image. IsUnmade image ⊎ ((gate : ℕ) × (image ≡ suc gate ∷ drop 1 file)))
    (reads_adds g.D.Disk.holds g.D.Disk.may_leave g.D.Disk.moment g.D.Disk.left_since g.D.Disk.count g.D.Disk.reserved g.met.D.Disk.counts_now c.args.disk.now c.flush.new.disk (λ image. IsUnmade image ⊎ ((gate : ℕ) × (image ≡ suc gate ∷ drop 1 file))) c.flush.ensures.reads)
    (adds_weaker g.D.Disk.moment g.D.Disk.left_since c.flush.new.disk c.put.new.disk (Torn 0 1 file) (λ image. IsUnmade image ⊎ ((gate : ℕ) × (image ≡ suc gate ∷ drop 1 file))) (c.put.ensures.adds file (c.flush.ensures.reads.same ∙ is))
    (λ image torn. first_torn file image (c.requires.closed file is) torn))
