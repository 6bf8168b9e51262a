-- A member that departs, and a plan that is stored, once a delay that has run out has ended.
use Rattle.std.proofs.Common.{◌≡◌, ℕ, Bool, true, false, cond, List, [], ◌∷◌, ◌++◌, Ok, refl, sym, ap, ◌∙◌, append-nil}
use Rattle.std.specs.List.{flat_map}
use Rattle.std.proofs.lemmas.Grind.{flat_map-append}
use Rattle.cw_types.specs.declared.ids.Item.{Item}
use Rattle.cw_assign.specs.declared.delay.Delay.{Delay}
use Rattle.cw_assign.specs.declared.share.Plan.{Plan}
use Rattle.cw_group.specs.Group.{GroupState, expire_row, store_row}
use Rattle.cw_group.specs.Circle.{CircleState, with_group, delay_behind, Departs, is_due, freed, without_due, plan_in, StoresPlan}

pub departed : (scheduled w : ℕ) (old : CircleState) (group : GroupState) (lists more : List (List Item)) (claim given sliced : List Item) (delay : Delay)
    → expire_row w old.group ≡ Ok (claim, group) → old.lost ≡ flat_map (λ items. items) lists → more ≡ lists ++ given ∷ [] → given ≡ claim
    → delay ≡ delay_behind scheduled old.moment sliced old.delay → sliced ≡ claim
    → Departs scheduled w old (record { group = group; lost = flat_map (λ items. items) more; delay = delay; moment = old.moment })
departed scheduled w old group lists more claim given sliced delay row lost more_is given_is delay_is sliced_is =
    let lost_is : flat_map (λ items. items) more ≡ old.lost ++ claim =
    ap (λ (ls : List (List Item)). flat_map (λ items. items) ls) more_is ∙ flat_map-append (λ items. items) lists (given ∷ [])
    ∙ ap (λ (xs : List Item). flat_map (λ items. items) lists ++ xs) (append-nil given ∙ given_is) ∙ ap (λ (xs : List Item). xs ++ claim) (sym lost) in
    record {
      gone = (claim, group);
      row = row;
      after = ap (λ (xs : List Item). record { group = group; lost = xs; delay = delay; moment = old.moment }) lost_is
          ∙ ap (λ (d : Delay). record { group = group; lost = old.lost ++ claim; delay = d; moment = old.moment })
          (delay_is ∙ ap (λ (xs : List Item). delay_behind scheduled old.moment xs old.delay) sliced_is);
    }

module _ (w : ℕ) (configured : List Item) (old mid new : CircleState) (due : Bool) (plan : Plan) where
  same-group : (b : Bool) → (cond b (freed mid) mid).group ≡ mid.group
  same-group true = refl
  same-group false = refl

  freed-group : mid ≡ with_group mid.group old → (b : Bool) → cond b (freed mid) mid ≡ with_group mid.group (cond b (freed old) old)
  freed-group rest true = ap (λ (s : CircleState). freed s) rest
  freed-group rest false = rest

  pub plan-stored : due ≡ is_due old.moment old.delay → plan ≡ plan_in configured (cond due (freed old) old)
      → store_row w old.group.round plan.shares configured old.group ≡ Ok mid.group → mid ≡ with_group mid.group old → new ≡ cond due (freed mid) mid
      → StoresPlan w configured old new
  plan-stored over is row rest after =
      let same : new.group ≡ mid.group = ap (λ (s : CircleState). s.group) after ∙ same-group due in
      let ended : cond due (freed old) old ≡ without_due old = ap (λ (b : Bool). cond b (freed old) old) over in
      record {
        row = ap (λ (s : CircleState). store_row w old.group.round (plan_in configured s).shares configured old.group) (sym ended)
            ∙ ap (λ (p : Plan). store_row w old.group.round p.shares configured old.group) (sym is) ∙ row ∙ ap (λ (g : GroupState). Ok g) (sym same);
        rest = after ∙ freed-group rest due ∙ ap (λ (g : GroupState). with_group g (cond due (freed old) old)) (sym same)
            ∙ ap (λ (s : CircleState). with_group new.group s) ended;
      }
