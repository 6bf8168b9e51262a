use Rattle.std.proofs.Common.{ℕ, ◌<◌, ◌^◌, ◌≤◌, ◌≡◌, List, [], ◌∷◌, All, length, take, subst, sym, ◌∙◌}
use Rattle.std.specs.List.{zip, AllByRecursion}
use Rattle.std.proofs.lemmas.List.{take_all}
use Rattle.std.proofs.lemmas.List.Elements.{All-nil, All-more, All-head, All-tail}
use Rattle.cw_feed.proofs.feeds.Feeds.are_short.Goals as goal

-- a content that fits into 64 bits
abbrev IsShort : List ℕ → Type 0
IsShort content = length content < 2 ^ 64

-- beside their names
short_beside : (names contents : List (List ℕ)) → All IsShort contents → AllByRecursion (λ (feed : List ℕ × List ℕ). length feed.1 < 2 ^ 64) (zip names contents)
short_beside [] contents short = tt
short_beside (name ∷ names) [] short = tt
short_beside (name ∷ names) (content ∷ contents) short =
    (All-head IsShort content contents short, short_beside names contents (All-tail IsShort content contents short))

pub loop-content-init : goal.loop-content-init
loop-content-init c = All-nil IsShort

pub loop-content-preserved : goal.loop-content-preserved
loop-content-preserved c = All-more IsShort c.deref-content-items.result.now c.loop-content.content-index c.content-item.result c.loop-content-test.true c.loop-content.invariant
    (subst IsShort (c.as_slice.ensures ∙ c.content-item.is) c.as_slice.type_inv.0)

pub returns : goal.returns
returns c = subst (λ feeds. AllByRecursion (λ (feed : List ℕ × List ℕ). length feed.1 < 2 ^ 64) feeds) c.self.view_is
    (short_beside c.self.inside.names.items c.self.inside.contents.items
    (subst (λ (contents : List (List ℕ)). All IsShort contents)
    (take_all c.loop-content.content-index c.deref-content-items.result.now c.loop-content-test.false ∙ c.deref-content-items.ensures.value) c.loop-content.invariant))
