use Rattle.std.proofs.Common.{sym, ◌∙◌, arith}
use Rattle.cw_log.proofs.Gates.{reads_then}
use Rattle.cw_log.proofs.Begun.{begun_none, begun_more, begun_all, begun_open}
use Rattle.cw_log.proofs.find.starts_of.Goals as goal

pub frame_at-requires-clause-size : goal.frame_at-requires-clause-size
frame_at-requires-clause-size g c file is = c.in_ok-size.ensures.length file (sym c.frames.invariant.reads.same ∙ is)

pub frame_at-requires-clause-window : goal.frame_at-requires-clause-window
frame_at-requires-clause-window g c file is = c.frames.invariant.window file (sym c.frames.invariant.reads.same ∙ is)

pub frames-init : goal.frames-init
frames-init g c = record {
  reads = c.length_of.ensures.reads;
  window = λ file is. c.in_ok-window.ensures.window file;
  within = c.in_ok-window.ensures.within;
  begun = λ file is gate starts b size. begun_none gate starts file c.new-starts.result.items b c.new-starts.ensures.items;
}

pub frames-preserved : goal.frames-preserved
frames-preserved g c = record {
  reads = reads_then g.D.Disk.holds g.D.Disk.may_leave g.D.Disk.moment g.D.Disk.left_since g.D.Disk.count g.D.Disk.reserved g.met.D.Disk.counts_now c.args.disk.now c.frames.disk c.frame_at.new.disk c.frames.invariant.reads c.frame_at.ensures.reads;
  window = λ file is. c.frame_at.ensures.window file (c.frames.invariant.reads.same ∙ is);
  within = c.frame_at.ensures.within;
  begun = λ file is gate starts b size.
      begun_more gate starts file c.frames.starts.items c.push.new.self.items c.frames.at c.in-Open.length c.in_ok-frame_at.field-0 b (c.frames.invariant.begun file is gate starts b size) (omega (arith, size))
      (c.in_ok-frame_at.ensures.frame file (c.frames.invariant.reads.same ∙ is)) c.in-Open.is c.in_ok-push-in-Open.ensures.items;
}

pub returns-in-Closed-clause-starts : goal.returns-in-Closed-clause-starts
returns-in-Closed-clause-starts g c file is gate starts b size =
    let one = begun_open gate starts file c.frames.starts.items c.frames.at c.in_ok-frame_at.field-0 b (c.frames.invariant.begun file is gate starts b size) (omega (arith, size)) (c.in_ok-frame_at.ensures.frame file (c.frames.invariant.reads.same ∙ is)) in
    absurd (let e = sym c.in-Closed.is ∙ one.1 in cc)

pub returns-in-Broken-clause-starts : goal.returns-in-Broken-clause-starts
returns-in-Broken-clause-starts g c file is gate starts b size =
    let one = begun_open gate starts file c.frames.starts.items c.frames.at c.in_ok-frame_at.field-0 b (c.frames.invariant.begun file is gate starts b size) (omega (arith, size)) (c.in_ok-frame_at.ensures.frame file (c.frames.invariant.reads.same ∙ is)) in
    absurd (let e = sym c.in-Broken.is ∙ one.1 in cc)

pub returns-clause-starts : goal.returns-clause-starts
returns-clause-starts g c file is gate starts b size = begun_all gate starts c.frames.starts.items c.frames.at (c.frames.invariant.begun file is gate starts b size) (omega (arith, size))
