use Rattle.std.proofs.Common.{◌<◌, ◌≡◌, length, sym, subst, ap, ◌∙◌, get_or, set, map, if◌then◌else◌}
use Rattle.std.proofs.lemmas.List.{get_or_default}
use Rattle.cw_model.specs.declared.row.Row.{Row}
use Rattle.cw_model.specs.declared.instance.InstancePhase.TheVariants.{Ended}
use Rattle.cw_model.specs.Lookups.{is_at, no_row}
use Rattle.cw_model.specs.EventsWorkers.{killed}
use Rattle.cw_model.specs.Updates.{in_phase}
use Rattle.cw_rows.specs.Crew.{CrewState}
use Rattle.cw_rows.proofs.CrewLemmas.{numbers-within, ends-at, numbers-read, crew-kill, crew-row}
use Rattle.cw_rows.proofs.crew.Crew.kill.Goals as goal

pub end_each-requires : goal.end_each-requires
end_each-requires c =
    let read = numbers-read _ _ _ _ c.self.invariant _ c.self.view_is c.args.w c.requires c.index.result.now c.index.ensures in
    rw (c.as_slice.ensures, read) (numbers-within c.args.w c.self.inside.instances.items)

pub invariant_of-self : goal.invariant_of-self
invariant_of-self c =
    let read = numbers-read _ _ _ _ c.self.invariant _ c.self.view_is c.args.w c.requires c.index.result.now c.index.ensures in
    let here : c.args.w < length c.self.inside.rows.items = subst (λ (s : CrewState). c.args.w < length s.rows) (sym c.self.view_is) c.requires in
    rw (c.end_each.ensures, c.as_slice.ensures, read, ends-at c.args.w c.self.inside.instances.items, c.clear.ensures)
    (crew-row _ _ _ _ c.args.w _ (crew-kill _ _ _ _ c.args.w here c.self.invariant))

pub returns : goal.returns
returns c =
    let read = numbers-read _ _ _ _ c.self.invariant _ c.self.view_is c.args.w c.requires c.index.result.now c.index.ensures in
    let here : c.args.w < length c.self.inside.rows.items = subst (λ (s : CrewState). c.args.w < length s.rows) (sym c.self.view_is) c.requires in
    let found : c.index_mut.result.now ≡ get_or c.self.inside.rows.items c.args.w no_row =
    c.index_mut.ensures.value ∙ get_or_default c.self.inside.rows.items c.args.w c.index_mut.result.now no_row here in
    rw (c.end_each.ensures, c.as_slice.ensures, read, ends-at c.args.w c.self.inside.instances.items, ← c.self.view_is)
    (ap (λ (row : Row). record {
      rows = set c.self.inside.rows.items c.args.w (killed row);
      instances = map (λ i. if is_at c.args.w i then in_phase Ended i else i) c.self.inside.instances.items;
      reads = c.self.inside.reads.items;
    }) found)
