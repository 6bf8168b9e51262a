use Rattle.std.proofs.Common.{List, ℕ, [], subst, sym}
use Rattle.std.specs.List.Sorted.{IsStrictlySortedBy}
use Rattle.cw_types.specs.Order.{name_cmp}
use Rattle.cw_gen.proofs.nowhere.BareShelfShelf.names.Goals as goal

none-rise : IsStrictlySortedBy name_cmp []
unfolding IsStrictlySortedBy
none-rise = tt

pub returns-clause-rising : goal.returns-clause-rising
returns-clause-rising c = subst (λ (names : List (List ℕ)). IsStrictlySortedBy name_cmp names) (sym c.new.ensures.items) none-rise
