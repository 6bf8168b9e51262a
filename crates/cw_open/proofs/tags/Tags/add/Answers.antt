use Rattle.std.proofs.Common.{List, [], ◌∷◌, ◌++◌, ◌∙◌, ap, sym, subst}
use Rattle.cw_types.specs.declared.ids.Tag.{Tag}
use Rattle.cw_open.specs.Tables.{HasTags}
use Rattle.cw_open.proofs.TagLemmas.{tag_added}
use Rattle.cw_open.proofs.tags.Tags.add.Goals as goal

pub invariant_of-self-2 : goal.invariant_of-self-2
invariant_of-self-2 c =
    subst (HasTags c.insert.new.self) (ap (λ (t : Tag). c.self.inside.passed.items ++ t ∷ []) c.in_ok-copy.ensures ∙ sym c.and-self-inside.ensures)
    (tag_added c.self.inside.passed.items c.in_ok-copy.field-0 c.self.inside.rows c.insert.new.self c.self.invariant c.in_ok-insert.ensures.updates.0)
