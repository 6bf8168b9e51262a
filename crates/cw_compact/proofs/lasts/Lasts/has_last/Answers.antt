use Rattle.std.proofs.Common.{ap, ◌∙◌}
use Rattle.cw_compact.specs.Lasts.{offset_at}
use Rattle.cw_compact.proofs.Noted.{last_found}
use Rattle.cw_compact.proofs.lasts.Lasts.has_last.Goals as goal

pub returns-in-Some : goal.returns-in-Some
returns-in-Some c =
    rw (← c.self.view_is) (last_found c.self.inside.records.items c.args.written.now c.in-Some.offset.now
    (c.in-Some.ensures.value ∙ ap (offset_at c.self.inside.offsets) c.as_slice.ensures ∙ c.self.invariant.offsets_are c.args.written.now.key))
