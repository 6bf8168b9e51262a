use Rattle.std.proofs.Common.{◌≡◌, List, take, ap, ◌∙◌}
use Rattle.cw_bytes.specs.declared.applied.Applied.{Applied}
use Rattle.cw_bytes.specs.Frames.{joined, staying}
use Rattle.cw_keys.proofs.Choice.{if_ok}
use Rattle.cw_compact.specs.Lasts.{stays}
use Rattle.cw_compact.proofs.keyed.compact_before.Goals as goal

pub returns : goal.returns
returns c =
    if_ok c.keep.result _ (λ kept. kept.items ≡ staying (stays (take c.args.count (joined c.args.frames.items))) c.args.frames.items)
    (λ kept is. is
    ∙ ap (λ (l : List Applied). staying (stays l) c.args.frames.items) c.in_ok-lasts.ensures
    ∙ ap (λ (fs : List (List Applied)). staying (stays (take c.args.count (joined fs))) c.args.frames.items) c.as_slice.ensures.value)
    c.keep.ensures
