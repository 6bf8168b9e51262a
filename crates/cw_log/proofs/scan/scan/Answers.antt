use Rattle.std.proofs.Common.{ℕ, ◌+◌, ◌-◌, List, [], ◌∷◌, length, drop, refl, sym, ◌∙◌, ap, subst, arith, length-append}
use Rattle.cw_log.specs.declared.place.Frame.{Frame}
use Rattle.cw_log.specs.declared.place.Place.{Place}
use Rattle.cw_log.specs.Log.{IsFrame, EndsWithin, Begins, bodies_at, places_before}
use Rattle.cw_log.proofs.Gates.{reads_none, reads_then}
use Rattle.cw_log.proofs.Starts.{places_before-push}
use Rattle.cw_log.proofs.Frames.{begins_start, begins_next, breaks}
use Rattle.cw_log.proofs.Opened.{bodies_at-push, gate_behind}
use Rattle.cw_log.proofs.scan.scan.Goals as goal

pub frames-init : goal.frames-init
frames-init g c = record {
  reads = reads_none g.D.Disk.holds g.D.Disk.may_leave g.D.Disk.moment g.D.Disk.left_since g.D.Disk.count g.D.Disk.reserved g.met.D.Disk.counts_now c.args.disk.now;
  window = λ file is. c.in_ok-window.ensures.window file;
  within = c.in_ok-window.ensures.within;
  begins = λ file is. subst (λ (l : List ℕ). Begins 16 (places_before 16 l) file) (sym c.new-starts.ensures) (begins_start file (omega (arith, c.requires.size file is, c.requires.long)));
  seen = λ file is none. subst (λ (l : List ℕ). g.V.BodyVisitor.has_seen c.expect.new.self (bodies_at (places_before 16 l) file)) (sym c.new-starts.ensures) (c.expect.ensures [] none);
  counted = ap length (sym c.new-starts.ensures);
  low = omega arith;
  high = c.requires.long;
}

pub frame_at-requires-clause-window : goal.frame_at-requires-clause-window
frame_at-requires-clause-window g c file is = c.frames.invariant.window file (sym c.frames.invariant.reads.same ∙ is)

pub show-requires-clause-window : goal.show-requires-clause-window
show-requires-clause-window g c file is = c.frame_at.ensures.window file (sym c.frame_at.ensures.reads.same ∙ is)

pub returns-in-Closed-clause-found : goal.returns-in-Closed-clause-found
returns-in-Closed-clause-found g c file is =
    (c.frames.invariant.begins file is, subst (λ (frame : Frame). IsFrame frame (drop c.frames.at file)) c.in-Closed.is (c.in_ok-frame_at.ensures.frame file (c.frames.invariant.reads.same ∙ is)))

pub returns-in-Broken-clause-cause : goal.returns-in-Broken-clause-cause
returns-in-Broken-clause-cause g c =
    (refl, λ file is. breaks c.frames.at (places_before c.frames.at c.frames.starts.items) file (c.frames.invariant.begins file is) (subst (λ (frame : Frame). IsFrame frame (drop c.frames.at file)) c.in-Broken.is (c.in_ok-frame_at.ensures.frame file (c.frames.invariant.reads.same ∙ is))))

pub frames-preserved : goal.frames-preserved
frames-preserved g c =
    let places = places_before c.frames.at c.frames.starts.items in
    let ends = subst (λ (frame : Frame). EndsWithin (c.args.size - c.frames.at) frame) c.in-Open.is c.in_ok-frame_at.ensures.ends in
    record {
      reads = reads_then g.D.Disk.holds g.D.Disk.may_leave g.D.Disk.moment g.D.Disk.left_since g.D.Disk.count g.D.Disk.reserved g.met.D.Disk.counts_now c.args.disk.now c.frames.disk c.show.new.disk c.frames.invariant.reads
          (reads_then g.D.Disk.holds g.D.Disk.may_leave g.D.Disk.moment g.D.Disk.left_since g.D.Disk.count g.D.Disk.reserved g.met.D.Disk.counts_now c.frames.disk c.frame_at.new.disk c.show.new.disk c.frame_at.ensures.reads c.show.ensures.reads);
      window = λ file is. c.show.ensures.window file (c.frame_at.ensures.reads.same ∙ c.frames.invariant.reads.same ∙ is);
      within = c.show.ensures.within;
      seen = λ file is none.
          subst (λ (l : List (List ℕ)). g.V.BodyVisitor.has_seen c.show.new.visitor l)
          (sym (ap (λ (l : List Place). bodies_at l file) (ap (places_before (c.frames.at + (5 + c.in-Open.length))) c.and-starts.ensures ∙ places_before-push c.frames.at c.in-Open.length (c.frames.at + (5 + c.in-Open.length)) c.frames.starts.items (omega arith)) ∙ bodies_at-push places c.frames.at c.in-Open.length file))
          (c.in_ok-show-in-Open.ensures.seen file (c.frame_at.ensures.reads.same ∙ c.frames.invariant.reads.same ∙ is) (bodies_at places file) (gate_behind c.frames.at places file (c.frames.invariant.begins file is)) (c.frames.invariant.seen file is none));
      begins = λ file is. subst (λ (l : List Place). Begins (c.frames.at + (5 + c.in-Open.length)) l file) (sym (ap (places_before (c.frames.at + (5 + c.in-Open.length))) c.and-starts.ensures ∙ places_before-push c.frames.at c.in-Open.length (c.frames.at + (5 + c.in-Open.length)) c.frames.starts.items (omega arith)))
          (begins_next c.frames.at c.in-Open.length (places_before c.frames.at c.frames.starts.items) file (c.frames.invariant.begins file is) (subst (λ (frame : Frame). IsFrame frame (drop c.frames.at file)) c.in-Open.is (c.in_ok-frame_at.ensures.frame file (c.frames.invariant.reads.same ∙ is))));
      counted = omega (arith, c.frames.invariant.counted, ap length c.and-starts.ensures, length-append c.frames.starts.items (c.frames.at ∷ []));
      low = omega (arith, c.frames.invariant.low);
      high = omega (arith, ends, c.frames.invariant.high);
    }
