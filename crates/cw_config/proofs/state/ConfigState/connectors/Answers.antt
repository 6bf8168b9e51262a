use Rattle.std.proofs.Common.{◌≡◌, Bool, false, List, ℕ, map, rules, Bor, ap, sym, subst, ◌∙◌}
use Rattle.std.specs.Option.{is_some}
use Rattle.std.specs.List.{filter}
use Rattle.std.specs.BTreeMap.{keys}
use Rattle.std.specs.Map.Iter.{deref}
use Rattle.std.proofs.lemmas.Map.Iter.{iter_end}
use Rattle.cw_json.specs.declared.props.Props.{Props}
use Rattle.cw_config.specs.declared.records.ConfigRecord.{ConfigRecord}
use Rattle.cw_config.specs.Connectors.{AreConnectors}
use Rattle.cw_config.proofs.Names.{configured, are_connectors, none_more, some_mapped}
use Rattle.cw_config.proofs.state.ConfigState.connectors.Goals as goal

pub loop-name-preserved : goal.loop-name-preserved
loop-name-preserved c =
    let nothing : is_some c.config.result ≡ false = (cc) in
    let fails : configured c.args.self.now c.in-Some.name.now ≡ false = ap is_some (sym c.config.ensures) ∙ some_mapped (λ (props : Bor Props). props.now) c.config.result ∙ nothing in
    c.loop-name.invariant ∙ none_more c.args.self.now c.loop-name.yielded c.in-Some.name fails

pub returns : goal.returns
returns c =
    let tables = c.self.inside.tables in
    let records = c.self.inside.records.items in
    let all : map deref c.loop-name.yielded ≡ keys tables.connectors = search (rules, iter_end) in
    let listed : c.loop-name.names.items ≡ filter (configured records) (keys tables.connectors) =
    c.loop-name.invariant ∙ ap (λ (l : List ConfigRecord). filter (configured l) (map deref c.loop-name.yielded)) (sym c.self.view_is) ∙ ap (filter (configured records)) all in
    subst (λ (l : List ConfigRecord). AreConnectors l c.loop-name.names.items) c.self.view_is
    (are_connectors tables records c.self.invariant c.loop-name.names.items c.keys-name-items.ensures.ordered listed)
