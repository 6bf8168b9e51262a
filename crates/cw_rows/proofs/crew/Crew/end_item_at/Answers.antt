use Rattle.std.proofs.Common.{◌<◌, ◌≡◌, length, sym, subst, ap, ◌∙◌, not, get_or, set, map, List, [], ℕ, refl, if◌then◌else◌}
use Rattle.std.specs.List.{filter, fold}
use Rattle.cw_model.specs.Lookups.{no_instance}
use Rattle.cw_model.specs.Phases.{is_ended}
use Rattle.cw_assign.specs.Items.{same_item}
use Rattle.cw_model.specs.declared.instance.Instance.{Instance}
use Rattle.cw_model.specs.declared.instance.InstancePhase.TheVariants.{Ended}
use Rattle.cw_model.specs.Updates.{in_phase}
use Rattle.cw_rows.specs.Crew.{CrewState, IsCrew, numbers_at, change_at}
use Rattle.cw_rows.proofs.CrewLemmas.{numbers-within, ends-of, numbers-read, crew-ends}
use Rattle.cw_rows.proofs.crew.Crew.end_item_at.Goals as goal
use Rattle.cw_model.specs.EventsReports.{is_item_at}

pub end_among-requires : goal.end_among-requires
end_among-requires c =
    let read = numbers-read _ _ _ _ c.self.invariant _ c.self.view_is c.args.w c.requires c.index.result.now c.index.ensures in
    rw (c.as_slice.ensures, read) (numbers-within c.args.w c.self.inside.instances.items)

pub invariant_of-self : goal.invariant_of-self
invariant_of-self c =
    let read = numbers-read _ _ _ _ c.self.invariant _ c.self.view_is c.args.w c.requires c.index.result.now c.index.ensures in
    let here : c.args.w < length c.self.inside.rows.items = subst (λ (s : CrewState). c.args.w < length s.rows) (sym c.self.view_is) c.requires in
    let ended = map (λ i. if is_item_at c.args.w c.args.item.now i then in_phase Ended i else i) c.self.inside.instances.items in
    let all : c.end_among.new.instances.items ≡ ended = c.end_among.ensures ∙
    ap (λ (ns : List ℕ). fold (change_at (λ i. same_item i.item c.args.item.now) (in_phase Ended) no_instance) c.self.inside.instances.items ns) (c.as_slice.ensures ∙ read) ∙
    ends-of c.args.w c.args.item.now c.self.inside.instances.items in
    let step : c.keep_running.new.runs.items ≡
    set c.self.inside.runs.items c.args.w (filter (λ n. not (is_ended (get_or ended n no_instance).phase)) (numbers_at c.args.w c.self.inside.instances.items)) =
    c.keep_running.ensures ∙
    ap (λ (xs : List Instance). set c.self.inside.runs.items c.args.w (filter (λ n. not (is_ended (get_or xs n no_instance).phase)) (get_or c.self.inside.runs.items c.args.w [])))
    (c.as_slice-2.ensures.value ∙ all) ∙
    ap (λ (ns : List ℕ). set c.self.inside.runs.items c.args.w (filter (λ n. not (is_ended (get_or ended n no_instance).phase)) ns)) (c.self.invariant.numbers c.args.w here) in
    subst (λ (xs : List Instance). IsCrew c.self.inside.rows.items xs c.self.inside.reads.items c.keep_running.new.runs.items) (sym all)
    (crew-ends _ _ _ _ c.args.w c.args.item.now here c.keep_running.new.runs.items step c.self.invariant)

pub returns : goal.returns
returns c =
    let read = numbers-read _ _ _ _ c.self.invariant _ c.self.view_is c.args.w c.requires c.index.result.now c.index.ensures in
    rw (c.end_among.ensures, c.as_slice.ensures, read, ends-of c.args.w c.args.item.now c.self.inside.instances.items, ← c.self.view_is) refl
