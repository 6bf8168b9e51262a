use Rattle.std.proofs.Common.{◌||◌, false, Option, ap, sym, ◌∙◌}
use Rattle.std.specs.Option.{option_map_or}
use Rattle.std.specs.BTreeSet.{contains}
use Rattle.cw_types.specs.declared.ids.PartKey.{PartKey}
use Rattle.cw_types.specs.Same.{part_order, same_part}
use Rattle.cw_compact.proofs.StoredRows.{part_put}
use Rattle.cw_compact.proofs.stored.note_part.Goals as goal

pub returns-in_ok-insert-in-Some : goal.returns-in_ok-insert-in-Some
returns-in_ok-insert-in-Some c = λ q.
    part_put c.in-Some.part q c.args.parts.now c.insert.new.self (c.in_ok-insert-in-Some.ensures.updates.0 q)
    ∙ ap (λ (o : Option PartKey). contains part_order c.args.parts.now q || option_map_or (same_part q) o false) (sym c.in-Some.is ∙ c.in_ok-named.ensures)
