use Rattle.std.proofs.Common.{◌≡◌, ℕ, List, length, ap, sym, subst, ◌∙◌}
use Rattle.cw_keys.proofs.Choice.{if_ok}
use Rattle.cw_bytes.specs.declared.applied.Applied.{Applied}
use Rattle.cw_bytes.specs.Frames.{joined}
use Rattle.cw_config.specs.Compaction.{compact_configs}
use Rattle.cw_compact.specs.Left.{AreLeft}
use Rattle.cw_compact.proofs.left.left_configs.Goals as goal

pub returns : goal.returns
returns c =
    let frames : List (List Applied) = c.args.frames.now in
    let count : c.in_ok-before.before ≡ length (joined frames) = c.in_ok-before.ensures ∙ ap (λ (l : List (List Applied)). length (joined l)) (c.as_slice.ensures.value ∙ c.in_ok-copies.ensures) in
    let kept : c.in_ok-kept.kept.items ≡ compact_configs frames = c.in_ok-kept.ensures ∙ ap compact_configs c.in_ok-copies.ensures in
    if_ok c.left_of.result _ (AreLeft frames (compact_configs frames))
    (λ left are. subst (λ (l : List (List Applied)). AreLeft frames l left) kept (are frames count))
    c.left_of.ensures
