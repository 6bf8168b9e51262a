use Rattle.std.proofs.Common.{◌≡◌, ℕ, List, take, ap, ◌∙◌}
use Rattle.std.specs.List.{filter_map}
use Rattle.cw_bytes.specs.declared.applied.Applied.{Applied}
use Rattle.cw_bytes.specs.Frames.{joined, staying}
use Rattle.cw_config.specs.Compaction.{compact_configs, clean_point, keyed}
use Rattle.cw_keys.proofs.Choice.{if_ok}
use Rattle.cw_compact.specs.Lasts.{stays}
use Rattle.cw_compact.proofs.keyed.compact_configs.Goals as goal

pub returns : goal.returns
returns c =
    let point : c.in_ok-clean.clean.point ≡ clean_point (filter_map keyed (joined c.args.frames.items)) =
    c.in_ok-clean.ensures.point ∙ ap (λ (fs : List (List Applied)). clean_point (filter_map keyed (joined fs))) c.as_slice.ensures.value in
    if_ok c.compact_before.result _ (λ kept. kept.items ≡ compact_configs c.args.frames.items)
    (λ kept is. is ∙ ap (λ (n : ℕ). staying (stays (take n (joined c.args.frames.items))) c.args.frames.items) point)
    c.compact_before.ensures
