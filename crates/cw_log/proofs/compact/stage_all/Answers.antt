use Rattle.std.proofs.Common.{◌≡◌, ◌≤◌, ◌∙◌, ◌+◌, vec_capacity, ◌++◌, ◌∷◌, [], List, ℕ, Vec, length, take, get_or, refl, sym, ap, subst, arith, length-append}
use Rattle.std.proofs.lemmas.List.{take_all, drop_all, append-nil}
use Rattle.std.specs.declared.alloc.Global.{Global}
use Rattle.cw_disk.specs.Disk.{written}
use Rattle.cw_disk.proofs.Moments.{adds_then}
use Rattle.cw_log.specs.Log.{IsBody, field, header}
use Rattle.cw_log.specs.Compaction.{IsClosed, IsStaged, bodies_in}
use Rattle.cw_log.proofs.Gates.{told_too, told_before}
use Rattle.cw_log.proofs.Made.{length-header}
use Rattle.cw_log.proofs.Replaced.{next_fits, in_all, bodies_more, rest_length, length_of-some, staged_first, staged_next, staged_long}
use Rattle.cw_log.proofs.compact.stage_all.Goals as goal

pub write_behind-requires-clause-room : goal.write_behind-requires-clause-room
write_behind-requires-clause-room g c =
    omega (arith, c.requires.bytes, length_of-some (bodies_in c.args.bodies.now), ap length c.header_of.ensures, length-append (header c.args.kind c.args.number) (0 ∷ []), length-header c.args.kind c.args.number)

pub write_behind-requires-clause-closed : goal.write_behind-requires-clause-closed
write_behind-requires-clause-closed g c file is image left = ap (take 1) (c.requires.settled file is image left ∙ c.requires.one file is)

pub loop-body-init : goal.loop-body-init
loop-body-init g c = record {
  staged = λ file is.
      let old = told_before (λ f. written f 1 c.header_of.result) (g.D.Disk.holds c.args.disk.now) file (sym c.in_ok-write_behind.ensures.done ∙ is) in
      staged_first c.args.kind c.args.number _ file (omega (arith, c.ranges.number.fits)) refl c.new.ensures
      (sym old.2 ∙ ap (λ f. written f 1 c.header_of.result) (c.requires.one old.0 old.1)
      ∙ ap (λ (l : List ℕ). 0 ∷ l) (ap (λ (l : List ℕ). c.header_of.result ++ l) (drop_all (1 + length c.header_of.result) (0 ∷ []) (omega arith)) ∙ append-nil c.header_of.result ∙ c.header_of.ensures));
  unknown = refl;
  count = refl;
  low = omega arith;
  left = refl;
  closed = c.write_behind.ensures.closed;
  told = c.write_behind.ensures.told;
  adds = c.write_behind.ensures.adds;
  reserved = c.write_behind.ensures.room;
  later = c.write_behind.ensures.later;
  room = omega arith;
}

pub stage-requires-clause-gate : goal.stage-requires-clause-gate
stage-requires-clause-gate g c file is = staged_long c.args.kind c.args.number _ c.loop-body.frames file (c.loop-body.invariant.staged file is)

pub stage-requires-clause-few : goal.stage-requires-clause-few
stage-requires-clause-few g c =
    let e : get_or c.args.bodies.now c.loop-body.body-index c.body-item.result ≡ c.body-item.result = cc in
    omega (arith, (in_all c.args.bodies.now c.loop-body.body-index c.body-item.result c.loop-body-test.true IsBody c.requires.bodies).few, ap (λ (v : Vec ℕ Global). length v.items) e, ap length c.deref.ensures.value)

pub stage-requires-clause-frame : goal.stage-requires-clause-frame
stage-requires-clause-frame g c =
    let e : get_or c.args.bodies.now c.loop-body.body-index c.body-item.result ≡ c.body-item.result = cc in
    omega (arith, in_all c.args.bodies.now c.loop-body.body-index c.body-item.result c.loop-body-test.true (λ (body : List ℕ). length body + 6 ≤ vec_capacity c.args.room.now) c.requires.frames, c.loop-body.invariant.room, ap (λ (v : Vec ℕ Global). length v.items) e, ap length c.deref.ensures.value)

pub stage-requires-clause-bytes : goal.stage-requires-clause-bytes
stage-requires-clause-bytes g c =
    let e : get_or c.args.bodies.now c.loop-body.body-index c.body-item.result ≡ c.body-item.result = cc in
    omega (arith, next_fits c.args.bodies.now c.loop-body.body-index c.body-item.result c.loop-body-test.true, c.loop-body.invariant.left, c.loop-body.invariant.reserved, c.requires.bytes, ap (λ (v : Vec ℕ Global). length v.items) e, ap length c.deref.ensures.value)

pub stage-requires-clause-fits : goal.stage-requires-clause-fits
stage-requires-clause-fits g c =
    let e : get_or c.args.bodies.now c.loop-body.body-index c.body-item.result ≡ c.body-item.result = cc in
    omega (arith, next_fits c.args.bodies.now c.loop-body.body-index c.body-item.result c.loop-body-test.true, c.loop-body.invariant.left, c.requires.fits, ap (λ (v : Vec ℕ Global). length v.items) e, ap length c.deref.ensures.value)

pub loop-body-preserved : goal.loop-body-preserved
loop-body-preserved g c =
    let vectors = c.args.bodies.now in
    let i = c.loop-body.body-index in
    let d = c.body-item.result in
    let e : get_or vectors i d ≡ d = cc in
    let body : (get_or vectors i d).items ≡ c.deref.result.now = ap (λ (v : Vec ℕ Global). v.items) e ∙ sym c.deref.ensures.value in
    let fits : IsBody c.deref.result.now = subst IsBody body (in_all vectors i d c.loop-body-test.true IsBody c.requires.bodies) in
    record {
      staged = λ now is.
          let old = told_before (λ (file : List ℕ). take c.loop-body.frames.gate file ++ 1 ∷ (field c.deref.result.now ++ 0 ∷ [])) (g.D.Disk.holds c.loop-body.disk) now (sym c.in_ok-stage.ensures.done ∙ is) in
          subst (λ (bs : List (List ℕ)). IsStaged c.args.kind c.args.number bs c.stage.new.frames now) (sym (bodies_more vectors i d c.loop-body-test.true ∙ ap (λ (b : List ℕ). bodies_in (take i vectors) ++ b ∷ []) body))
          (staged_next c.args.kind c.args.number (bodies_in (take i vectors)) c.loop-body.frames c.stage.new.frames old.0 c.deref.result.now now (c.loop-body.invariant.staged old.0 old.1) fits c.in_ok-stage.ensures.places c.in_ok-stage.ensures.gate (sym old.2));
      unknown = c.stage.ensures.unknown;
      count = omega (arith, c.in_ok-stage.ensures.count, c.loop-body.invariant.count);
      low = omega (arith, c.in_ok-stage.ensures.gate, c.loop-body.invariant.low);
      left = omega (arith, c.in_ok-stage.ensures.gate, c.loop-body.invariant.left, rest_length vectors i d c.loop-body-test.true, ap length body);
      closed = c.stage.ensures.closed;
      told = c.stage.ensures.told ∙ c.loop-body.invariant.told;
      adds = λ file is.
          let mid = told_too (g.D.Disk.holds c.loop-body.disk) (g.D.Disk.holds c.args.disk.now) (sym c.loop-body.invariant.told) file is in
          adds_then g.D.Disk.moment g.D.Disk.left_since c.args.disk.now c.loop-body.disk c.stage.new.disk IsClosed (c.loop-body.invariant.adds file is) (c.stage.ensures.adds mid.0 mid.1);
      reserved = omega (arith, c.stage.ensures.reserved, c.loop-body.invariant.reserved);
      later = omega (arith, c.stage.ensures.later, c.loop-body.invariant.later);
      room = omega (arith, c.stage.ensures.room, c.loop-body.invariant.room);
    }

pub returns-clause-staged : goal.returns-clause-staged
returns-clause-staged g c file is =
    subst (λ (vs : List (Vec ℕ Global)). IsStaged c.args.kind c.args.number (bodies_in vs) c.loop-body.frames file) (take_all c.loop-body.body-index c.args.bodies.now (omega arith)) (c.loop-body.invariant.staged file is)
