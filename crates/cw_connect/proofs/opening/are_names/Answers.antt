use Rattle.std.proofs.Common.{ℕ, List, [], ◌∷◌, All, subst}
use Rattle.std.specs.List.{AllByRecursion}
use Rattle.std.proofs.lemmas.List.{take_all}
use Rattle.std.proofs.lemmas.List.Elements.{All-nil, All-more, All-head, All-tail}
use Rattle.cw_types.specs.Name.{IsName}
use Rattle.cw_connect.proofs.opening.are_names.Goals as goal

each : (names : List (List ℕ)) → All IsName names → AllByRecursion IsName names
each [] all = tt
each (name ∷ names) all = (All-head IsName name names all, each names (All-tail IsName name names all))

pub loop-name-init : goal.loop-name-init
loop-name-init c = All-nil IsName

pub loop-name-preserved : goal.loop-name-preserved
loop-name-preserved c = All-more IsName c.args.names.now c.loop-name.name-index c.name-item.result c.loop-name-test.true c.loop-name.invariant
    (subst IsName c.name-item.is c.as_bytes.ensures.name)

pub returns : goal.returns
returns c = each c.args.names.now
    (subst (λ (names : List (List ℕ)). All IsName names) (take_all c.loop-name.name-index c.args.names.now c.loop-name-test.false) c.loop-name.invariant)
