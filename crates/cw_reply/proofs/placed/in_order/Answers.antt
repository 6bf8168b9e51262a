use Rattle.std.proofs.Common.{◌≡◌, ◌<◌, [], List, length, get_or, fold, take, ap, sym, subst, ◌∙◌, rules}
use Rattle.std.proofs.lemmas.List.Elements.{All-more}
use Rattle.std.proofs.lemmas.List.Sums.{fold_more}
use Rattle.cw_keys.specs.Parts.{IsPart}
use Rattle.cw_reply.specs.declared.placed.Placed.{Placed}
use Rattle.cw_reply.specs.Placed.{with_part}
use Rattle.cw_reply.proofs.placed.in_order.Goals as goal

pub loop-part-preserved : goal.loop-part-preserved
loop-part-preserved c =
    let step = with_part c.args.is_source in
    let parts = c.args.parts.now in
    let place = c.loop-part.part-index in
    let part = c.part-item.result in
    let within : place < length parts = search rules in
    let is : get_or parts place part ≡ part = search rules in (
      c.in_ok-put.ensures ∙ ap (λ (placed : List Placed). step placed part) c.loop-part.invariant.0
          ∙ sym (fold_more step [] parts place part within ∙ ap (step (fold step [] (take place parts))) is),
      All-more IsPart parts place part within c.loop-part.invariant.1 (subst IsPart (sym is) c.is_part.ensures),
    )
