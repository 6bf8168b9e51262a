use Rattle.std.proofs.Common.{◌≡◌, ◌<◌, ◌∙◌, List, ℕ, All, length, get_or, take, sym, ap, subst, rules, arith}
use Rattle.std.proofs.Math.Seq.{take-length}
use Rattle.std.proofs.lemmas.List.Elements.{All-more, recursion_from_All}
use Rattle.cw_types.specs.Name.{IsName}
use Rattle.cw_ops.proofs.laws.feeds_are_named.Goals as goal

pub loop-name-preserved : goal.loop-name-preserved
loop-name-preserved c =
    let feeds = c.args.feeds.now in
    let place = c.loop-name.name-index in
    let name = c.name-item.result in
    let within : place < length feeds = search rules in
    let is : get_or feeds place name ≡ name = search rules in
    All-more IsName feeds place name within c.loop-name.invariant (subst IsName (sym is) c.is_name.ensures)

pub returns : goal.returns
returns c =
    let feeds = c.args.feeds.now in
    let whole : c.loop-name.name-index ≡ length feeds = omega arith in
    recursion_from_All IsName feeds (subst (λ (those : List (List ℕ)). All IsName those)
    (ap (λ (n : ℕ). take n feeds) whole ∙ take-length feeds) c.loop-name.invariant)
