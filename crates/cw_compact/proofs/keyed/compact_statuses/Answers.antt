use Rattle.std.proofs.Common.{◌≡◌, ℕ, List, take, length, ap, ◌∙◌}
use Rattle.cw_bytes.specs.declared.applied.Applied.{Applied}
use Rattle.cw_bytes.specs.Frames.{joined, staying}
use Rattle.cw_status.specs.Compaction.{compact_statuses}
use Rattle.cw_keys.proofs.Choice.{if_ok}
use Rattle.cw_compact.specs.Lasts.{stays}
use Rattle.cw_compact.proofs.Whole.{all_before}
use Rattle.cw_compact.proofs.keyed.compact_statuses.Goals as goal

pub returns : goal.returns
returns c =
    let count : c.in_ok-count.count ≡ length (joined c.args.frames.items) = c.in_ok-count.ensures ∙ ap (λ (fs : List (List Applied)). length (joined fs)) c.as_slice.ensures.value in
    if_ok c.compact_before.result _ (λ kept. kept.items ≡ compact_statuses c.args.frames.items)
    (λ kept is. is ∙ ap (λ (n : ℕ). staying (stays (take n (joined c.args.frames.items))) c.args.frames.items) count ∙ all_before c.args.frames.items)
    c.compact_before.ensures
