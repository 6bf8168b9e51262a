use Rattle.std.proofs.Common.{rules, ◌≡◌, ◌∙◌, ◌++◌, ◌∷◌, [], Some, None, List, Option, sym, ap, map}
use Rattle.std.specs.Option.{option_or, option_copied}
use Rattle.std.specs.BTreeMap.{values}
use Rattle.std.specs.Map.Iter.{deref}
use Rattle.std.proofs.lemmas.List.{map-append}
use Rattle.std.proofs.lemmas.Map.Iter.{rest_so_far, rest_more}
use Rattle.cw_types.specs.declared.ids.Tag.{Tag}
use Rattle.cw_offset.specs.Tables.{first_ended, if_ended}
use Rattle.cw_offset.proofs.Firsts.{so_far, first_here}
use Rattle.cw_offset.proofs.tables.first_ended.Goals as goal

pub returns-in-Some-if_ended-clause-first : goal.returns-in-Some-if_ended-clause-first
returns-in-Some-if_ended-clause-first g c =
    let verdict = g.T.Decided.verdict_of c.args.txn.now in
    let row : option_copied c.as_ref.result ≡ c.in-Some.row.now = search rules in
    let all : values c.args.order.now ≡ map deref c.loop-row.yielded ++ (c.in-Some.row.now ∷ c.next.new.self) =
    sym (c.into_iter-row-iterator.ensures.into_iter_gives ∙ c.values-row-items.ensures.rest)
    ∙ rest_so_far deref c.loop-row.yielded c.into_iter-row-iterator.result c.loop-row.row-iterator c.loop-row.yielded_by
    ∙ ap (λ (l : List (Option Tag)). map deref c.loop-row.yielded ++ l) (rest_more deref c.loop-row.row-iterator c.next.new.self c.next.result c.in-Some.row c.in-Some.is c.next.ensures.steps) in
    let here : if_ended verdict c.in-Some.row.now ≡ Some c.in-Some-if_ended.tag.now = ap (if_ended verdict) (sym row) ∙ sym c.if_ended.ensures ∙ ap option_copied c.in-Some-if_ended.is in
    sym (ap (first_ended verdict) all
    ∙ so_far verdict (map deref c.loop-row.yielded) (c.in-Some.row.now ∷ c.next.new.self) c.loop-row.invariant
    ∙ first_here verdict c.in-Some.row.now c.next.new.self
    ∙ ap (λ o. option_or o (first_ended verdict c.next.new.self)) here)

pub loop-row-preserved : goal.loop-row-preserved
loop-row-preserved g c =
    let verdict = g.T.Decided.verdict_of c.args.txn.now in
    let row : option_copied c.as_ref.result ≡ c.in-Some.row.now = search rules in
    let here : if_ended verdict c.in-Some.row.now ≡ None = ap (if_ended verdict) (sym row) ∙ sym c.if_ended.ensures ∙ ap option_copied c.in_default.is in
    ap (first_ended verdict) (map-append deref c.loop-row.yielded (c.in-Some.row ∷ []))
    ∙ so_far verdict (map deref c.loop-row.yielded) (c.in-Some.row.now ∷ []) c.loop-row.invariant
    ∙ first_here verdict c.in-Some.row.now []
    ∙ ap (λ o. option_or o None) here
