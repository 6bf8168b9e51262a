use Rattle.std.proofs.Common.{◌≡◌, ◌&&◌, ℕ, ◌<◌, List, [], length, map, Option, Some, None, unwrap_or, slice_get, sym, ap, subst, ◌∙◌, arith}
use Rattle.std.specs.List.{filter, find, AllByRecursion}
use Rattle.std.specs.Option.{option_map}
use Rattle.std.proofs.lemmas.List.{nil_from_length}
use Rattle.std.proofs.lemmas.Bool.Decides.{nat_tests}
use Rattle.cw_assign.specs.Items.{in_order, same_item}
use Rattle.cw_model.specs.Lookups.{is_at, instance_of, no_instance}
use Rattle.cw_model.specs.TickRules.{number_at, first_running}
use Rattle.cw_rows.proofs.CrewLemmas.{numbers-within}
use Rattle.cw_types.specs.declared.ids.Item.{Item}
use Rattle.cw_ticks.specs.Running.{to_stop}
use Rattle.cw_ticks.proofs.Lists.{reads-second, position-second}
use Rattle.cw_ticks.proofs.stopping.first_to_stop.Goals as goal

abbrev pair : Item → ℕ → Item × ℕ
pair item number = (item, number)

pub returns-then-is_empty : goal.returns-then-is_empty
returns-then-is_empty c =
    let s = c.args.cluster.now.state in
    let w = c.args.w in
    let zero : length c.args.running.now ≡ 0 = grind (arith, nat_tests, c.is_empty.ensures, c.if-is_empty.true) in
    let nil : c.args.running.now ≡ [] = nil_from_length c.args.running.now zero in
    let none : map (λ i. i.item) (filter (λ i. is_at w i && to_stop c.args.all w s i) s.instances) ≡ [] =
    sym (reads-second (is_at w) (to_stop c.args.all w s) no_instance s.instances (λ i. i.item)) ∙
    ap (λ (ns : List ℕ). map (λ n. (instance_of n s).item) (filter (λ n. to_stop c.args.all w s (instance_of n s)) ns)) (sym c.requires.running ∙ nil) in
    ap (λ (l : List Item). option_map (λ x. pair x (number_at w x s)) (slice_get (in_order l) 0)) (sym none)

pub number_among-number-requires : goal.number_among-number-requires
number_among-number-requires c =
    let s = c.args.cluster.now.state in
    subst (λ (ns : List ℕ). AllByRecursion (λ n. n < length s.instances) ns) (sym c.requires.running) (numbers-within c.args.w s.instances)

pub returns-in-Some : goal.returns-in-Some
returns-in-Some c =
    let s = c.args.cluster.now.state in
    let w = c.args.w in
    let item = c.in-Some.item in
    let number : c.number_among-number.result ≡ number_at w item s =
    c.number_among-number.ensures ∙
    ap (λ (ns : List ℕ). unwrap_or (find (λ n. same_item (instance_of n s).item item) ns) 0) c.requires.running ∙
    ap (λ (o : Option ℕ). unwrap_or o 0) (position-second (is_at w) (λ i. same_item i.item item) no_instance s.instances) in
    let found : Some item ≡ first_running (to_stop c.args.all w s) w s = sym c.in-Some.is ∙ c.in_ok-item.ensures in
    ap (λ (n : ℕ). Some (pair item n)) number ∙ ap (λ (o : Option Item). option_map (λ x. pair x (number_at w x s)) o) found
