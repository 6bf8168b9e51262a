use Rattle.std.proofs.Common.{◌-◌, ◌++◌, ℕ, List, take, length, ap, ◌∙◌, arith}
use Rattle.std.proofs.lemmas.List.{take_all}
use Rattle.cw_bytes.specs.declared.applied.Applied.{Applied}
use Rattle.cw_bytes.specs.Frames.{joined}
use Rattle.cw_compact.proofs.Joined.{taken_more, left_more}
use Rattle.cw_compact.proofs.keyed.lasts_of.Goals as goal

pub loop-frame-preserved : goal.loop-frame-preserved
loop-frame-preserved c =
    let frames : List (List Applied) = c.args.frames.now in
    let before : List Applied = joined (take c.loop-frame.frame-index frames) in
    record {
      noted = c.in_ok-left.ensures.noted
          ∙ ap (λ (l : List Applied). c.loop-frame.lasts ++ take c.loop-frame.left l) c.as_slice.ensures
          ∙ ap (λ (l : List Applied). l ++ take c.loop-frame.left c.frame-item.result) c.loop-frame.invariant.noted
          ∙ ap (λ (n : ℕ). take c.args.count before ++ take n c.frame-item.result) c.loop-frame.invariant.left
          ∙ taken_more c.args.count frames c.loop-frame.frame-index c.frame-item.result c.loop-frame-test.true c.frame-item.is;
      left = c.in_ok-left.ensures.left
          ∙ ap (λ (l : List Applied). c.loop-frame.left - length l) c.as_slice.ensures
          ∙ ap (λ (n : ℕ). n - length c.frame-item.result) c.loop-frame.invariant.left
          ∙ left_more c.args.count frames c.loop-frame.frame-index c.frame-item.result c.loop-frame-test.true c.frame-item.is;
    }

pub returns : goal.returns
returns c = c.loop-frame.invariant.noted
    ∙ ap (λ (l : List (List Applied)). take c.args.count (joined l)) (take_all c.loop-frame.frame-index c.args.frames.now (omega arith))
