use Rattle.std.proofs.Common.{◌≡◌, ◌+◌, List, ℕ, Some, None, Vec, sym, ap, subst, arith}
use Rattle.std.specs.declared.alloc.Global.{Global}
use Rattle.cw_disk.specs.Disk.{Only}
use Rattle.cw_log.specs.Log.{length_of}
use Rattle.cw_log.specs.State.{IsKnown, IsLog}
use Rattle.cw_log.specs.Compaction.{bodies_in}
use Rattle.cw_log.proofs.topic.TopicLog.compact_onto.Goals as goal

pub invariant_of-self : goal.invariant_of-self
invariant_of-self g c =
    subst (λ ahead. IsLog g.D.Disk.holds g.D.Disk.may_leave g.D.Disk.reserved c.swap.new.x c.self.inside.kind (c.self.inside.number + 1) 0 c.in-Ok.frames c.self.inside.tail ahead c.self.inside.shut) (sym c.take.ensures.after)
    (subst (λ disk. IsLog g.D.Disk.holds g.D.Disk.may_leave g.D.Disk.reserved disk c.self.inside.kind (c.self.inside.number + 1) 0 c.in-Ok.frames c.self.inside.tail None c.self.inside.shut) (sym c.swap.ensures.x_after) (record {
      kept = λ file is. (c.in-Ok.ensures.kept file is).0;
      rest = λ alive file is. (c.in-Ok.ensures.kept file is).1;
      known = λ file is. subst (λ known. IsKnown known c.in-Ok.frames.starts.items) (sym c.in-Ok.ensures.unknown) tt;
      side = c.in-Ok.ensures.side;
      low = c.in-Ok.ensures.gate.0;
      high = omega (arith, c.in-Ok.ensures.gate.1, c.requires.fits, ap (λ (vs : List (Vec ℕ Global)). length_of (bodies_in vs)) c.deref.ensures.value);
      room = λ some. absurd (omega arith);
      ahead_is = tt;
    }))

pub returns-in-Ok-clause-settled : goal.returns-in-Ok-clause-settled
returns-in-Ok-clause-settled g c =
    subst (λ disk. (file : List ℕ) → g.D.Disk.holds disk ≡ Some file → Only file (g.D.Disk.may_leave disk)) (sym c.swap.ensures.y_after) (λ file is. (c.self.invariant.rest c.if-self.false file is).only)
