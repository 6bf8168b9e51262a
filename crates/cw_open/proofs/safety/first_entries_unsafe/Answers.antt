use Rattle.std.proofs.Common.{sym, ap, subst}
use Rattle.cw_bytes.specs.Frames.{EachFrom}
use Rattle.cw_txn.specs.Allowed.{IsAllowedBehind}
use Rattle.cw_txn.specs.Transactions.{Transactions}
use Rattle.cw_config.specs.Compaction.{configs_in}
use Rattle.cw_model.specs.StandsFor.{IsSafeEntry}
use Rattle.cw_open.specs.Judging.{StepsAll}
use Rattle.cw_open.proofs.Steps.{WalkedFrames, frames_begin, frame_more, frame_lacks, frames_end}
use Rattle.cw_open.proofs.SafeLemmas.{frame_allowed}
use Rattle.cw_open.proofs.safety.first_entries_unsafe.Goals as goal

pub loop-at-init : goal.loop-at-init
loop-at-init c =
    subst (WalkedFrames (IsSafeEntry (configs_in c.args.configs.now) c.args.batches.now) c.args.frames.now 0) (sym (ap (λ (t : Transactions). t.entries) c.new-passed.ensures))
    (frames_begin (IsSafeEntry (configs_in c.args.configs.now) c.args.batches.now) c.args.frames.now)

pub take_frame-requires : goal.take_frame-requires
take_frame-requires c =
    subst (EachFrom IsAllowedBehind c.loop-at.passed.entries) (sym c.as_slice.ensures)
    (frame_allowed c.args.frames.now c.requires c.loop-at.at c.loop-at.passed.entries c.loop-at.invariant.now c.index-frames-at.result c.loop-at-test.true c.index-frames-at.is)

pub returns-then-not-branch : goal.returns-then-not-branch
returns-then-not-branch c =
    frame_lacks (IsSafeEntry (configs_in c.args.configs.now) c.args.batches.now) c.args.frames.now c.loop-at.at c.loop-at.passed.entries c.loop-at.invariant c.index-frames-at.result c.loop-at-test.true c.index-frames-at.is
    c.take_frame.new.passed.entries c.in_ok-take_frame.field-0
    (subst (λ l. StepsAll (IsSafeEntry (configs_in c.args.configs.now) c.args.batches.now) c.loop-at.passed.entries l c.take_frame.new.passed.entries c.in_ok-take_frame.field-0) c.as_slice.ensures
    (record {
      fits = c.in_ok-take_frame.ensures.fits (configs_in c.args.configs.now) c.args.batches.now (record { fences = c.in_ok-fences.ensures; spans = c.in_ok-spans.ensures });
      taken = c.in_ok-take_frame.ensures.taken;
    }))
    c.if-not-branch.true

pub loop-at-preserved : goal.loop-at-preserved
loop-at-preserved c =
    frame_more (IsSafeEntry (configs_in c.args.configs.now) c.args.batches.now) c.args.frames.now c.loop-at.at c.loop-at.passed.entries c.loop-at.invariant c.index-frames-at.result c.loop-at-test.true c.index-frames-at.is
    c.take_frame.new.passed.entries c.in_ok-take_frame.field-0
    (subst (λ l. StepsAll (IsSafeEntry (configs_in c.args.configs.now) c.args.batches.now) c.loop-at.passed.entries l c.take_frame.new.passed.entries c.in_ok-take_frame.field-0) c.as_slice.ensures
    (record {
      fits = c.in_ok-take_frame.ensures.fits (configs_in c.args.configs.now) c.args.batches.now (record { fences = c.in_ok-fences.ensures; spans = c.in_ok-spans.ensures });
      taken = c.in_ok-take_frame.ensures.taken;
    }))
    c.if-not-branch.false

pub returns : goal.returns
returns c = frames_end (IsSafeEntry (configs_in c.args.configs.now) c.args.batches.now) c.args.frames.now c.loop-at.at c.loop-at.passed.entries c.loop-at.invariant c.loop-at-test.false
