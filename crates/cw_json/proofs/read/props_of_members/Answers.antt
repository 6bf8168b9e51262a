use Rattle.std.proofs.Common.{◌≡◌, ℕ, List, [], ◌∷◌, ◌++◌, Option, Some, Result, Ok, Err, refl, sym, ap, ◌∙◌, append_assoc, append-nil, rules, String, Global}
use Rattle.serde_json.specs.View.{members_view}
use Rattle.serde_json.specs.declared.value.Value.{Value}
use Rattle.cw_json.specs.declared.fault.JsonFault.{JsonFault}
use Rattle.cw_json.specs.Props.{member_props, with_front, add_property}
use Rattle.cw_json.proofs.Pairs.{Pairs, rising}
use Rattle.cw_json.proofs.read.props_of_members.Goals as goal

with_front-more : (pairs : Pairs) (p : List ℕ × List ℕ) (rest : Result Pairs JsonFault) → with_front (pairs ++ p ∷ []) rest ≡ with_front pairs (with_front (p ∷ []) rest)
with_front-more pairs p (Ok more) = ap Ok (append_assoc pairs (p ∷ []) more)
with_front-more pairs p (Err fault) = refl

added : (pairs after : Pairs) (key text : List ℕ) (d : Option (List ℕ)) (rest : Result Pairs JsonFault) → after ≡ pairs ++ (key, text) ∷ [] → d ≡ Some text → with_front after rest ≡ with_front pairs (add_property key d rest)
added pairs after key text d rest is found = rw (is, found) (with_front-more pairs (key, text) rest)

abbrev Entries : Type 0
Entries = List (String Global × Value)

pub loop-key-preserved : goal.loop-key-preserved
loop-key-preserved c =
    let front : c.loop-key.key-iterator ≡ (c.in-Some.key.now, c.in-Some.value.now) ∷ c.next.new.self = search rules in
    added c.loop-key.pairs.items c.push.new.self.items _ c.in-Some-2.text _ (member_props (members_view c.next.new.self)) (search rules) (search rules)
    ∙ ap (λ (it : Entries). with_front c.loop-key.pairs.items (member_props (members_view it))) (sym front) ∙ c.loop-key.invariant

pub new-requires : goal.new-requires
new-requires c =
    let all : Ok c.loop-key.pairs.items ≡ member_props (members_view c.args.members.now.entries) =
    ap Ok (sym (append-nil c.loop-key.pairs.items))
    ∙ ap (λ (it : Entries). with_front c.loop-key.pairs.items (member_props (members_view it))) (sym c.in-None.ensures.steps.0)
    ∙ c.loop-key.invariant in
    rising c.args.members.now.entries c.loop-key.pairs.items c.iter-key-items.ensures.ordered (sym all)
