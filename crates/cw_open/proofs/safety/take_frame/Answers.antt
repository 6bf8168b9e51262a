use Rattle.cw_open.proofs.SafeLemmas.{safe_begins, may_stand, safe_more, safe_not, safe_taken, safe_all}
use Rattle.cw_open.proofs.safety.take_frame.Goals as goal

pub loop-at-init : goal.loop-at-init
loop-at-init c = safe_begins c.args.known.now c.args.passed.now.entries c.args.frame.now

pub take_entry-requires : goal.take_entry-requires
take_entry-requires c =
    may_stand c.args.known.now c.args.passed.now.entries c.args.frame.now c.loop-at.at c.loop-at.passed.entries c.loop-at.invariant c.index-frame-at.result c.loop-at-test.true c.index-frame-at.is c.requires

pub returns-then-not-branch : goal.returns-then-not-branch
returns-then-not-branch c = record {
  taken = λ e. cc;
  fits = safe_not c.args.known.now c.args.passed.now.entries c.args.frame.now c.loop-at.at c.loop-at.passed.entries c.loop-at.invariant c.index-frame-at.result c.loop-at-test.true c.index-frame-at.is
      c.take_entry.new.passed.entries c.in_ok-take_entry.field-0
      (record { taken = c.in_ok-take_entry.ensures.taken; fits = c.in_ok-take_entry.ensures.fits }) c.if-not-branch.true;
}

pub loop-at-preserved : goal.loop-at-preserved
loop-at-preserved c =
    safe_more c.args.known.now c.args.passed.now.entries c.args.frame.now c.loop-at.at c.loop-at.passed.entries c.loop-at.invariant c.index-frame-at.result c.loop-at-test.true c.index-frame-at.is
    c.take_entry.new.passed.entries c.in_ok-take_entry.field-0
    (record { taken = c.in_ok-take_entry.ensures.taken; fits = c.in_ok-take_entry.ensures.fits }) c.if-not-branch.false

pub returns : goal.returns
returns c = record {
  taken = λ e. safe_taken c.args.known.now c.args.passed.now.entries c.args.frame.now c.loop-at.at c.loop-at.passed.entries c.loop-at.invariant c.loop-at-test.false;
  fits = safe_all c.args.known.now c.args.passed.now.entries c.args.frame.now c.loop-at.at c.loop-at.passed.entries c.loop-at.invariant c.loop-at-test.false;
}
