use Rattle.std.proofs.Common.{is_some, ap, sym, ◌∙◌}
use Rattle.std.specs.List.{list_any}
use Rattle.std.specs.Map.{lookup}
use Rattle.std.specs.BTreeMap.{is_at}
use Rattle.cw_types.specs.Same.{same_tag, tag_order}
use Rattle.cw_open.proofs.tags.Tags.new.Goals as goal

pub invariant_of-result : goal.invariant_of-result
invariant_of-result c = λ tag. ap (λ es. is_some (lookup (is_at (tag_order tag)) es)) c.new.ensures.empty ∙ ap (list_any (same_tag tag)) (sym c.new-2.ensures)
