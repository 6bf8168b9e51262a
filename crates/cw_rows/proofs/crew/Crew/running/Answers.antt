use Rattle.std.proofs.Common.{ℕ, List, get_or, ap, ◌∙◌, map}
use Rattle.std.specs.List.{find}
use Rattle.cw_assign.specs.Items.{same_item}
use Rattle.cw_model.specs.declared.instance.Instance.{Instance}
use Rattle.cw_model.specs.Lookups.{no_instance}
use Rattle.cw_rows.specs.Crew.{CrewState}
use Rattle.cw_rows.proofs.CrewLemmas.{numbers-within, numbers-read}
use Rattle.cw_rows.proofs.RunningLemmas.{runs-first}
use Rattle.cw_rows.proofs.crew.Crew.running.Goals as goal
use Rattle.cw_model.specs.EventsReports.{is_item_at}

pub first_of-requires : goal.first_of-requires
first_of-requires c =
    let read = numbers-read _ _ _ _ c.self.invariant _ c.self.view_is c.args.w c.requires c.index.result.now c.index.ensures in
    rw (c.deref.ensures.value, c.as_slice.ensures, read) (numbers-within c.args.w c.self.inside.instances.items)

pub returns : goal.returns
returns c =
    let read = numbers-read _ _ _ _ c.self.invariant _ c.self.view_is c.args.w c.requires c.index.result.now c.index.ensures in
    c.first_of.ensures ∙
    ap (λ (xs : List Instance). find (λ i. same_item i.item c.args.item.now) (map (λ n. get_or xs n no_instance) c.as_slice.result.now)) c.deref.ensures.value ∙
    ap (λ (ns : List ℕ). find (λ i. same_item i.item c.args.item.now) (map (λ n. get_or c.self.inside.instances.items n no_instance) ns)) (c.as_slice.ensures ∙ read) ∙
    runs-first c.args.w c.args.item.now c.self.inside.instances.items ∙
    ap (λ (s : CrewState). find (is_item_at c.args.w c.args.item.now) s.instances) c.self.view_is
