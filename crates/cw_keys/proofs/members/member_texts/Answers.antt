use Rattle.std.proofs.Common.{◌≡◌, List, ◌∷◌, Some, sym, ap, ◌∙◌, rules, String, Global}
use Rattle.serde_json.specs.View.{members_view}
use Rattle.serde_json.specs.declared.value.Value.{Value}
use Rattle.cw_json.proofs.Pairs.{rising}
use Rattle.cw_keys.specs.Properties.{member_texts}
use Rattle.cw_keys.proofs.Texts.{texts_before, added, refused, all_texts, as_props}
use Rattle.cw_keys.proofs.members.member_texts.Goals as goal

abbrev Entries : Type 0
Entries = List (String Global × Value)

pub loop-key-preserved : goal.loop-key-preserved
loop-key-preserved c =
    let front : c.loop-key.key-iterator ≡ (c.in-Some.key.now, c.in-Some.value.now) ∷ c.next.new.self = search rules in
    added c.loop-key.pairs.items c.push.new.self.items _ c.in-Some-2.text _ (member_texts (members_view c.next.new.self)) (search rules) (search rules)
    ∙ ap (λ (it : Entries). texts_before c.loop-key.pairs.items (member_texts (members_view it))) (sym front) ∙ c.loop-key.invariant

pub returns-in_default : goal.returns-in_default
returns-in_default c =
    let front : c.loop-key.key-iterator ≡ (c.in-Some.key.now, c.in-Some.value.now) ∷ c.next.new.self = search rules in
    refused c.loop-key.pairs.items _ _ (member_texts (members_view c.next.new.self)) (search rules)
    ∙ ap (λ (it : Entries). texts_before c.loop-key.pairs.items (member_texts (members_view it))) (sym front) ∙ c.loop-key.invariant

pub new-requires : goal.new-requires
new-requires c =
    let all : Some c.loop-key.pairs.items ≡ member_texts (members_view c.args.members.now.entries) =
    all_texts c.loop-key.pairs.items
    ∙ ap (λ (it : Entries). texts_before c.loop-key.pairs.items (member_texts (members_view it))) (sym c.in-None.ensures.steps.0)
    ∙ c.loop-key.invariant in
    rising c.args.members.now.entries c.loop-key.pairs.items c.iter-key-items.ensures.ordered (as_props (members_view c.args.members.now.entries) c.loop-key.pairs.items (sym all))
