use Rattle.std.proofs.Common.{ℕ, ap, sym, subst, option_map, arith}
use Rattle.cw_log.specs.Log.{StandsFor, bodies_at, kind_of, places_of}
use Rattle.cw_disk.specs.Disk.{AddsOf}
use Rattle.cw_disk.proofs.Moments.{adds_left}
use Rattle.cw_log.specs.Log.{OpensAs, StandAlike}
use Rattle.cw_log.specs.State.{IsKnown}
use Rattle.cw_log.proofs.topic.TopicLog.open_with.Goals as goal

pub invariant_of-result : goal.invariant_of-result
invariant_of-result g c = record {
  kept = λ file is. (c.in-Ok.ensures.kept file is).0;
  rest = λ alive file is. (c.in-Ok.ensures.kept file is).1;
  known = λ file is. subst (λ known. IsKnown known c.in-Ok.found.frames.starts.items) (sym c.in-Ok.ensures.unknown) tt;
  side = λ file is. c.in-Ok.ensures.side file is;
  low = c.in-Ok.ensures.gate.0;
  high = c.in-Ok.ensures.gate.1;
  room = λ some. absurd (omega arith);
  ahead_is = tt;
}

pub returns-in-Ok-clause-list : goal.returns-in-Ok-clause-list
returns-in-Ok-clause-list g c file is =
    let opens = c.in-Ok.ensures.list file is in (
      bodies_at (places_of c.in-Ok.found.frames) opens.new,
      ap (option_map (bodies_at (places_of c.in-Ok.found.frames))) opens.told,
      subst (λ (kind : ℕ). StandsFor kind (bodies_at (places_of c.in-Ok.found.frames) opens.new) file) c.kind_number-kind.ensures opens.stands,
    )

pub returns-in-Ok-clause-left : goal.returns-in-Ok-clause-left
returns-in-Ok-clause-left g c file is =
    let adds = subst (λ (kind : ℕ). AddsOf g.D.Disk.moment g.D.Disk.left_since c.args.disk c.opened.new.disk (StandAlike kind file)) c.kind_number-kind.ensures (c.opened.ensures.adds file is) in
    adds_left g.D.Disk.moment g.D.Disk.left_since g.D.Disk.may_leave g.met.D.Disk.counts_now g.met.D.Disk.only_now c.args.disk c.opened.new.disk (StandAlike (kind_of c.args.name) file) adds

pub returns-in-Err-clause-left : goal.returns-in-Err-clause-left
returns-in-Err-clause-left g c file is =
    let adds = subst (λ (kind : ℕ). AddsOf g.D.Disk.moment g.D.Disk.left_since c.args.disk c.opened.new.disk (StandAlike kind file)) c.kind_number-kind.ensures (c.opened.ensures.adds file is) in
    adds_left g.D.Disk.moment g.D.Disk.left_since g.D.Disk.may_leave g.met.D.Disk.counts_now g.met.D.Disk.only_now c.args.disk c.opened.new.disk (StandAlike (kind_of c.args.name) file) adds

pub returns-in-Ok-clause-bytes : goal.returns-in-Ok-clause-bytes
returns-in-Ok-clause-bytes g c file is =
    subst (λ (kind : ℕ). OpensAs kind c.in-Ok.found.number file (g.D.Disk.holds c.opened.new.disk)) c.kind_number-kind.ensures (c.in-Ok.ensures.bytes file is)
