use Rattle.std.proofs.Common.{◌≡◌, ℕ, ◌<◌, List, [], length, get_or, sym, ◌∙◌, ap, subst, arith, unwrap_or, Option}
use Rattle.std.specs.declared.cmp.Ordering.TheVariants.{Equal}
use Rattle.std.proofs.lemmas.List.{get_or_default}
use Rattle.cw_types.specs.Order.{name_cmp}
use Rattle.cw_feed.proofs.Lookups.{bytes_of-found, bytes_of-missing, none_equal}
use Rattle.cw_feed.proofs.feeds.Feeds.bytes_of.Goals as goal

pub returns-in-Ok : goal.returns-in-Ok
returns-in-Ok c =
    let within : c.in-Ok.at < length c.self.inside.names.items = omega (arith, c.in-Ok.ensures.bound, ap length c.deref.ensures.value) in
    let same : name_cmp (get_or c.self.inside.names.items c.in-Ok.at []) c.args.feed.now ≡ Equal =
    subst (λ (names : List (List ℕ)). name_cmp (get_or names c.in-Ok.at []) c.args.feed.now ≡ Equal) c.deref.ensures.value (c.in-Ok.ensures.ok []) in
    rw (← c.self.view_is)
    (c.as_slice.ensures ∙ c.index.ensures
    ∙ get_or_default c.self.inside.contents.items c.in-Ok.at c.index.result.now [] (omega (arith, within, c.self.invariant.0))
    ∙ sym (ap (λ (o : Option (List ℕ)). unwrap_or o [])
    (bytes_of-found c.self.inside.names.items c.self.inside.contents.items c.args.feed.now c.in-Ok.at c.self.invariant.1 c.self.invariant.0 within same)))

pub returns-in-Err : goal.returns-in-Err
returns-in-Err c =
    rw (← c.self.view_is)
    (sym (ap (λ (o : Option (List ℕ)). unwrap_or o [])
    (bytes_of-missing c.self.inside.names.items c.self.inside.contents.items c.args.feed.now
    (none_equal c.self.inside.names.items c.args.feed.now c.in-Err.field-0 c.self.invariant.1 (rw c.deref.ensures.value at c.in-Err.ensures.position)))))
