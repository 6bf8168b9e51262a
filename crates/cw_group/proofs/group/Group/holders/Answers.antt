use Rattle.std.proofs.Common.{◌≡◌, List, Result, Ok, Err, IfOk, sym, ap, ◌∙◌, subst}
use Rattle.std.specs.List.{IsDistinct}
use Rattle.cw_assign.specs.declared.share.Holder.{Holder}
use Rattle.cw_assign.specs.Items.{same_item}
use Rattle.cw_assign.specs.Plan.{held_by}
use Rattle.cw_group.specs.Members.{holders_of}
use Rattle.cw_group.proofs.GroupLemmas.{held_once}
use Rattle.cw_group.proofs.group.Group.holders.Goals as goal

if_ok : {A E : Type 0} (r : Result A E) (P Q : A → Type 0) → ((x : A) → P x → Q x) → IfOk r P → IfOk r Q
if_ok (Ok x) P Q step h = step x h
if_ok (Err e) P Q step h = tt

pub returns-clause-apart : goal.returns-clause-apart
returns-clause-apart c =
    if_ok c.holders.result (λ holders. holders.items ≡ holders_of c.deref.result.now) (λ holders. IsDistinct same_item (held_by holders.items))
    (λ holders is. subst (λ (hs : List Holder). IsDistinct same_item (held_by hs)) (sym (is ∙ ap holders_of c.deref.ensures.value)) (held_once c.self.inside.members.items c.self.invariant))
    c.holders.ensures
