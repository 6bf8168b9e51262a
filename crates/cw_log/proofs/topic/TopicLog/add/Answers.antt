use Rattle.std.proofs.Common.{◌≡◌, ◌<◌, ◌+◌, ◌++◌, ◌∷◌, [], List, ℕ, Some, length, take, sym, ◌∙◌, ap, subst, arith}
use Rattle.cw_disk.proofs.Moments.{adds_weaker}
use Rattle.cw_log.specs.declared.place.Place.{Place}
use Rattle.cw_log.specs.Calls.{IsGated}
use Rattle.cw_log.specs.Log.{field, IsBody, IsSide, BeforeOrAfter, bodies_at, places_of}
use Rattle.cw_log.specs.State.{IsKept, IsRest}
use Rattle.cw_log.proofs.Gates.{told_before, told_too}
use Rattle.cw_log.proofs.Opened.{gate_within}
use Rattle.cw_log.proofs.Appended.{gated_stands, gated_front, rest_long, added_bodies, added_kept, added_end, same_bodies, same_kept}
use Rattle.cw_log.proofs.Sides.{gated_side}
use Rattle.cw_log.proofs.topic.TopicLog.add.Goals as goal

pub write_frame-requires-clause-start : goal.write_frame-requires-clause-start
write_frame-requires-clause-start g c file is =
    let rest = c.self.invariant.rest (ap (λ v. v.shut) c.self.view_is ∙ c.requires.opened) in
    rest_long c.self.inside.frames.gate (places_of c.self.inside.frames) file (c.self.invariant.kept file is).begins (rest file is).end

pub write_frame-requires-clause-settled : goal.write_frame-requires-clause-settled
write_frame-requires-clause-settled g c file is = (c.self.invariant.rest (ap (λ v. v.shut) c.self.view_is ∙ c.requires.opened) file is).only

pub invariant_of-self : goal.invariant_of-self
invariant_of-self g c =
    let fits : IsBody c.args.body.now = record { some = omega (arith, c.requires.some); few = omega (arith, c.requires.few) } in
    let rest = c.self.invariant.rest (ap (λ v. v.shut) c.self.view_is ∙ c.requires.opened) in
    let fit = subst (λ v. v.length + (length c.args.body.now + 5) < 18446744073709551616) (sym c.self.view_is) c.requires.fits in
    record {
      kept = λ file is. subst (λ (n : ℕ). IsKept c.self.inside.kind n (places_of c.push.new.self) file) (sym c.push.ensures.gate) (subst (λ (l : List Place). IsKept c.self.inside.kind (c.self.inside.frames.gate + (length c.args.body.now + 5)) l file) (sym c.push.ensures.places)
          (added_kept c.self.inside.kind c.self.inside.frames.gate (places_of c.self.inside.frames) c.args.body.now fits (g.D.Disk.holds c.self.inside.disk) (g.D.Disk.holds c.write_frame.new.disk) c.self.invariant.kept c.in-Ok.ensures.done file is));
      rest = λ _ file is. subst (λ (n : ℕ). IsRest n (g.D.Disk.may_leave c.write_frame.new.disk) file) (sym c.push.ensures.gate) (record {
        end = added_end c.self.inside.kind c.self.inside.frames.gate (places_of c.self.inside.frames) c.args.body.now fits (g.D.Disk.holds c.self.inside.disk) (g.D.Disk.holds c.write_frame.new.disk) c.self.invariant.kept c.in-Ok.ensures.done file is;
        only = c.in-Ok.ensures.durable file is;
      });
      known = λ file is. let before = told_too (g.D.Disk.holds c.self.inside.disk) (g.D.Disk.holds c.write_frame.new.disk) c.write_frame.ensures.told file is in c.push.ensures.known (c.self.invariant.known before.0 before.1);
      side = λ file is. let before = told_too (g.D.Disk.holds c.self.inside.disk) (g.D.Disk.holds c.write_frame.new.disk) c.write_frame.ensures.told file is in
          (gated_side c.self.inside.kind c.self.inside.frames.gate c.self.inside.number (places_of c.self.inside.frames) before.0 (field c.args.body.now ++ 0 ∷ []) file (c.self.invariant.kept before.0 before.1) (c.self.invariant.side before.0 before.1)
          (c.write_frame.ensures.left before.0 before.1 file (g.met.D.Disk.as_read c.write_frame.new.disk file is))).side;
      low = omega (arith, c.self.invariant.low, c.push.ensures.gate);
      high = omega (arith, fit, c.push.ensures.gate);
      room = λ some. absurd (omega arith);
      ahead_is = tt;
    }

pub invariant_of-self-in-Err : goal.invariant_of-self-in-Err
invariant_of-self-in-Err g c =
    let fits : IsBody c.args.body.now = record { some = omega (arith, c.requires.some); few = omega (arith, c.requires.few) } in
    let rest = c.self.invariant.rest (ap (λ v. v.shut) c.self.view_is ∙ c.requires.opened) in
    let front : (file now : List ℕ) → g.D.Disk.holds c.self.inside.disk ≡ Some file → g.D.Disk.holds c.write_frame.new.disk ≡ Some now → take c.self.inside.frames.gate now ≡ take c.self.inside.frames.gate file =
    λ file now is told. gated_front c.self.inside.frames.gate file (field c.args.body.now ++ 0 ∷ []) now (gate_within c.self.inside.frames.gate (places_of c.self.inside.frames) file (c.self.invariant.kept file is).begins).1 (c.write_frame.ensures.left file is now (g.met.D.Disk.as_read c.write_frame.new.disk now told)) in
    record {
      kept = same_kept c.self.inside.kind c.self.inside.frames.gate (places_of c.self.inside.frames) c.args.body.now fits (g.D.Disk.holds c.self.inside.disk) (g.D.Disk.holds c.write_frame.new.disk) c.self.invariant.kept c.write_frame.ensures.told front;
      rest = λ alive. absurd cc;
      known = λ file is. let before = told_too (g.D.Disk.holds c.self.inside.disk) (g.D.Disk.holds c.write_frame.new.disk) c.write_frame.ensures.told file is in c.self.invariant.known before.0 before.1;
      side = λ file is. let before = told_too (g.D.Disk.holds c.self.inside.disk) (g.D.Disk.holds c.write_frame.new.disk) c.write_frame.ensures.told file is in
          (gated_side c.self.inside.kind c.self.inside.frames.gate c.self.inside.number (places_of c.self.inside.frames) before.0 (field c.args.body.now ++ 0 ∷ []) file (c.self.invariant.kept before.0 before.1) (c.self.invariant.side before.0 before.1)
          (c.write_frame.ensures.left before.0 before.1 file (g.met.D.Disk.as_read c.write_frame.new.disk file is))).side;
      low = c.self.invariant.low;
      high = c.self.invariant.high;
      room = λ some. absurd (omega arith);
      ahead_is = tt;
    }

pub returns-in-Ok-clause-bodies : goal.returns-in-Ok-clause-bodies
returns-in-Ok-clause-bodies g c =
    let fits : IsBody c.args.body.now = record { some = omega (arith, c.requires.some); few = omega (arith, c.requires.few) } in
    let rest = c.self.invariant.rest (ap (λ v. v.shut) c.self.view_is ∙ c.requires.opened) in
    rw (c.push.ensures.places, ← c.self.view_is) (added_bodies c.self.inside.kind c.self.inside.frames.gate (places_of c.self.inside.frames) c.args.body.now fits (g.D.Disk.holds c.self.inside.disk) (g.D.Disk.holds c.write_frame.new.disk) c.self.invariant.kept c.in-Ok.ensures.done)

pub returns-in-Err-clause-kept : goal.returns-in-Err-clause-kept
returns-in-Err-clause-kept g c =
    let fits : IsBody c.args.body.now = record { some = omega (arith, c.requires.some); few = omega (arith, c.requires.few) } in
    let rest = c.self.invariant.rest (ap (λ v. v.shut) c.self.view_is ∙ c.requires.opened) in
    let front : (file now : List ℕ) → g.D.Disk.holds c.self.inside.disk ≡ Some file → g.D.Disk.holds c.write_frame.new.disk ≡ Some now → take c.self.inside.frames.gate now ≡ take c.self.inside.frames.gate file =
    λ file now is told. gated_front c.self.inside.frames.gate file (field c.args.body.now ++ 0 ∷ []) now (gate_within c.self.inside.frames.gate (places_of c.self.inside.frames) file (c.self.invariant.kept file is).begins).1 (c.write_frame.ensures.left file is now (g.met.D.Disk.as_read c.write_frame.new.disk now told)) in
    rw (← c.self.view_is) (same_bodies c.self.inside.kind c.self.inside.frames.gate (places_of c.self.inside.frames) c.args.body.now fits (g.D.Disk.holds c.self.inside.disk) (g.D.Disk.holds c.write_frame.new.disk) c.self.invariant.kept c.write_frame.ensures.told front)

pub returns-in-Ok-clause-left : goal.returns-in-Ok-clause-left
returns-in-Ok-clause-left g c bodies told image left =
    let fits : IsBody c.args.body.now = record { some = omega (arith, c.requires.some); few = omega (arith, c.requires.few) } in
    let rest = c.self.invariant.rest (ap (λ v. v.shut) c.self.view_is ∙ c.requires.opened) in
    let file = told_before (bodies_at (places_of c.self.inside.frames)) (g.D.Disk.holds c.self.inside.disk) bodies (ap (λ v. v.bodies) c.self.view_is ∙ told) in
    let kept = c.self.invariant.kept file.0 file.1 in
    let stands : (image : List ℕ) → IsGated c.self.inside.frames.gate file.0 (field c.args.body.now ++ 0 ∷ []) image → BeforeOrAfter c.self.inside.kind bodies c.args.body.now image =
    λ image gated. subst (λ (bs : List (List ℕ)). BeforeOrAfter c.self.inside.kind bs c.args.body.now image) file.2 (gated_stands c.self.inside.kind c.self.inside.frames.gate (places_of c.self.inside.frames) file.0 c.args.body.now kept fits (rest file.0 file.1).end image gated) in
    subst (λ v. BeforeOrAfter v.kind bodies c.args.body.now image) c.self.view_is (stands image (c.write_frame.ensures.left file.0 file.1 image left))

pub returns-in-Ok-clause-any_moment : goal.returns-in-Ok-clause-any_moment
returns-in-Ok-clause-any_moment g c bodies told =
    let fits : IsBody c.args.body.now = record { some = omega (arith, c.requires.some); few = omega (arith, c.requires.few) } in
    let rest = c.self.invariant.rest (ap (λ v. v.shut) c.self.view_is ∙ c.requires.opened) in
    let file = told_before (bodies_at (places_of c.self.inside.frames)) (g.D.Disk.holds c.self.inside.disk) bodies (ap (λ v. v.bodies) c.self.view_is ∙ told) in
    let kept = c.self.invariant.kept file.0 file.1 in
    let stands : (image : List ℕ) → IsGated c.self.inside.frames.gate file.0 (field c.args.body.now ++ 0 ∷ []) image → BeforeOrAfter c.self.inside.kind bodies c.args.body.now image =
    λ image gated. subst (λ (bs : List (List ℕ)). BeforeOrAfter c.self.inside.kind bs c.args.body.now image) file.2 (gated_stands c.self.inside.kind c.self.inside.frames.gate (places_of c.self.inside.frames) file.0 c.args.body.now kept fits (rest file.0 file.1).end image gated) in
    rw (← c.self.view_is) (adds_weaker g.D.Disk.moment g.D.Disk.left_since c.self.inside.disk c.write_frame.new.disk (IsGated c.self.inside.frames.gate file.0 (field c.args.body.now ++ 0 ∷ [])) (BeforeOrAfter c.self.inside.kind bodies c.args.body.now) (c.write_frame.ensures.adds file.0 file.1) stands)

pub returns-in-Err-clause-left : goal.returns-in-Err-clause-left
returns-in-Err-clause-left g c bodies told image left =
    let fits : IsBody c.args.body.now = record { some = omega (arith, c.requires.some); few = omega (arith, c.requires.few) } in
    let rest = c.self.invariant.rest (ap (λ v. v.shut) c.self.view_is ∙ c.requires.opened) in
    let file = told_before (bodies_at (places_of c.self.inside.frames)) (g.D.Disk.holds c.self.inside.disk) bodies (ap (λ v. v.bodies) c.self.view_is ∙ told) in
    let kept = c.self.invariant.kept file.0 file.1 in
    let stands : (image : List ℕ) → IsGated c.self.inside.frames.gate file.0 (field c.args.body.now ++ 0 ∷ []) image → BeforeOrAfter c.self.inside.kind bodies c.args.body.now image =
    λ image gated. subst (λ (bs : List (List ℕ)). BeforeOrAfter c.self.inside.kind bs c.args.body.now image) file.2 (gated_stands c.self.inside.kind c.self.inside.frames.gate (places_of c.self.inside.frames) file.0 c.args.body.now kept fits (rest file.0 file.1).end image gated) in
    subst (λ v. BeforeOrAfter v.kind bodies c.args.body.now image) c.self.view_is (stands image (c.write_frame.ensures.left file.0 file.1 image left))

pub returns-in-Err-clause-any_moment : goal.returns-in-Err-clause-any_moment
returns-in-Err-clause-any_moment g c bodies told =
    let fits : IsBody c.args.body.now = record { some = omega (arith, c.requires.some); few = omega (arith, c.requires.few) } in
    let rest = c.self.invariant.rest (ap (λ v. v.shut) c.self.view_is ∙ c.requires.opened) in
    let file = told_before (bodies_at (places_of c.self.inside.frames)) (g.D.Disk.holds c.self.inside.disk) bodies (ap (λ v. v.bodies) c.self.view_is ∙ told) in
    let kept = c.self.invariant.kept file.0 file.1 in
    let stands : (image : List ℕ) → IsGated c.self.inside.frames.gate file.0 (field c.args.body.now ++ 0 ∷ []) image → BeforeOrAfter c.self.inside.kind bodies c.args.body.now image =
    λ image gated. subst (λ (bs : List (List ℕ)). BeforeOrAfter c.self.inside.kind bs c.args.body.now image) file.2 (gated_stands c.self.inside.kind c.self.inside.frames.gate (places_of c.self.inside.frames) file.0 c.args.body.now kept fits (rest file.0 file.1).end image gated) in
    rw (← c.self.view_is) (adds_weaker g.D.Disk.moment g.D.Disk.left_since c.self.inside.disk c.write_frame.new.disk (IsGated c.self.inside.frames.gate file.0 (field c.args.body.now ++ 0 ∷ [])) (BeforeOrAfter c.self.inside.kind bodies c.args.body.now) (c.write_frame.ensures.adds file.0 file.1) stands)

pub returns-in-Ok-clause-side : goal.returns-in-Ok-clause-side
returns-in-Ok-clause-side g c bodies told =
    let file = told_before (bodies_at (places_of c.self.inside.frames)) (g.D.Disk.holds c.self.inside.disk) bodies (ap (λ v. v.bodies) c.self.view_is ∙ told) in
    rw (← c.self.view_is) (adds_weaker g.D.Disk.moment g.D.Disk.left_since c.self.inside.disk c.write_frame.new.disk (IsGated c.self.inside.frames.gate file.0 (field c.args.body.now ++ 0 ∷ [])) (IsSide c.self.inside.number) (c.write_frame.ensures.adds file.0 file.1)
    (λ image gated. gated_side c.self.inside.kind c.self.inside.frames.gate c.self.inside.number (places_of c.self.inside.frames) file.0 (field c.args.body.now ++ 0 ∷ []) image (c.self.invariant.kept file.0 file.1) (c.self.invariant.side file.0 file.1) gated))

pub returns-in-Err-clause-side : goal.returns-in-Err-clause-side
returns-in-Err-clause-side g c bodies told =
    let file = told_before (bodies_at (places_of c.self.inside.frames)) (g.D.Disk.holds c.self.inside.disk) bodies (ap (λ v. v.bodies) c.self.view_is ∙ told) in
    rw (← c.self.view_is) (adds_weaker g.D.Disk.moment g.D.Disk.left_since c.self.inside.disk c.write_frame.new.disk (IsGated c.self.inside.frames.gate file.0 (field c.args.body.now ++ 0 ∷ [])) (IsSide c.self.inside.number) (c.write_frame.ensures.adds file.0 file.1)
    (λ image gated. gated_side c.self.inside.kind c.self.inside.frames.gate c.self.inside.number (places_of c.self.inside.frames) file.0 (field c.args.body.now ++ 0 ∷ []) image (c.self.invariant.kept file.0 file.1) (c.self.invariant.side file.0 file.1) gated))
