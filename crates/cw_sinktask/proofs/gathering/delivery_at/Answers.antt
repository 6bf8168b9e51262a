use Rattle.std.proofs.Common.{◌≡◌, List, get_or, subst, ap, ◌∙◌, rules}
use Rattle.std.proofs.lemmas.List.{get_or_default}
use Rattle.cw_types.specs.declared.ids.PartKey.{PartKey}
use Rattle.cw_types.specs.declared.ids.PartKey.TheVariants.{Raw}
use Rattle.cw_model.specs.EventsSinks.{topic_in}
use Rattle.cw_model.specs.Tasks.{parts_of}
use Rattle.cw_sinktask.proofs.Gathered.{same-delivery}
use Rattle.cw_sinktask.proofs.gathering.delivery_at.Goals as goal

pub returns : goal.returns
returns c =
    let own = c.args.own.now in
    let part : PartKey = c.index-parts_of-turn.result in
    let its_part = subst (λ (l : List PartKey). part ≡ get_or l c.args.turn part) c.parts_of.ensures c.index-parts_of-turn.is ∙ get_or_default (parts_of own) c.args.turn part (Raw 0) c.requires.within in
    let place : c.in-Ok.place ≡ c.args.turn = search rules in
    same-delivery own c.args.log.now.entries c.args.turn c.in-Ok.place c.in_ok-topic.topic c.in_ok-file.file c.position_at-from.result c.in_ok-taken.taken.to c.new.result
    place (c.in_ok-topic.ensures ∙ ap topic_in its_part) c.in_ok-file.ensures c.position_at-from.ensures c.in_ok-taken.ensures.to (c.new.ensures ∙ c.in_ok-taken.ensures.lines)
