use Rattle.std.proofs.Common.{◌≡◌, ◌∙◌, ◌++◌, ◌∷◌, [], Some, None, ℕ, Bool, List, Option, Bor, sym, ap, map}
use Rattle.std.specs.Option.{option_or, option_copied}
use Rattle.std.specs.Map.Iter.{deref_pair}
use Rattle.std.proofs.lemmas.List.{map-append}
use Rattle.std.proofs.lemmas.Map.Iter.{rest_so_far, rest_more}
use Rattle.cw_types.specs.declared.ids.Tag.{Tag}
use Rattle.cw_data.specs.Unmarked.{ended_in, first_ended}
use Rattle.cw_data.proofs.Firsts.{so_far}
use Rattle.cw_data.proofs.unmarked.first_ended.Goals as goal

pub returns-in-Some-ended_in-clause-first : goal.returns-in-Some-ended_in-clause-first
returns-in-Some-ended_in-clause-first g c =
    let verdict = g.T.Decided.verdict_of c.args.txn.now in
    let item : Bor ℕ × Bor Bool = (c.in-Some.place, c.in-Some.begins) in
    let all : c.args.order.now.entries ≡ map deref_pair c.loop-place.yielded ++ ((c.in-Some.place.now, c.in-Some.begins.now) ∷ c.next.new.self) =
    sym (c.into_iter-place-iterator.ensures.into_iter_gives ∙ c.iter-place-items.ensures.rest)
    ∙ rest_so_far deref_pair c.loop-place.yielded c.into_iter-place-iterator.result c.loop-place.place-iterator c.loop-place.yielded_by
    ∙ ap (λ (l : List (ℕ × Bool)). map deref_pair c.loop-place.yielded ++ l) (rest_more deref_pair c.loop-place.place-iterator c.next.new.self c.next.result item c.in-Some.is c.next.ensures.steps) in
    let here : ended_in verdict c.args.entries.now (c.in-Some.place.now, c.in-Some.begins.now) ≡ Some c.in-Some-ended_in.tag.now = sym c.ended_in.ensures ∙ ap option_copied c.in-Some-ended_in.is in
    sym (ap (first_ended verdict c.args.entries.now) all
    ∙ so_far verdict c.args.entries.now (map deref_pair c.loop-place.yielded) ((c.in-Some.place.now, c.in-Some.begins.now) ∷ c.next.new.self) c.loop-place.invariant
    ∙ ap (λ (o : Option Tag). option_or o (first_ended verdict c.args.entries.now c.next.new.self)) here)

pub loop-place-preserved : goal.loop-place-preserved
loop-place-preserved g c =
    let verdict = g.T.Decided.verdict_of c.args.txn.now in
    let here : ended_in verdict c.args.entries.now (c.in-Some.place.now, c.in-Some.begins.now) ≡ None = sym c.ended_in.ensures ∙ ap option_copied c.in_default.is in
    ap (first_ended verdict c.args.entries.now) (map-append deref_pair c.loop-place.yielded ((c.in-Some.place, c.in-Some.begins) ∷ []))
    ∙ so_far verdict c.args.entries.now (map deref_pair c.loop-place.yielded) ((c.in-Some.place.now, c.in-Some.begins.now) ∷ []) c.loop-place.invariant
    ∙ ap (λ (o : Option Tag). option_or o None) here
