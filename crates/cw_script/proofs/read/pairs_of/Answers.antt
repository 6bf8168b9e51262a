use Rattle.std.proofs.Common.{◌≡◌, ℕ, ◌+◌, ◌-◌, ◌^◌, ◌≤◌, List, ◌∷◌, None, Some, Bor, map, take, drop, length, length-drop, sym, ap, ◌∙◌, rules, arith}
use Rattle.std.proofs.lemmas.List.{take_all, drop-drop}
use Rattle.cw_types.specs.Decimal.{number_of}
use Rattle.cw_script.specs.Pairs.{pairs_onto, add_pair}
use Rattle.cw_script.proofs.PairLemmas.{onto_none, onto_next}
use Rattle.cw_script.proofs.read.pairs_of.Goals as goal

abbrev nows : List (Bor (List ℕ)) → List (List ℕ)
nows ws = map (λ word. word.now) ws

whole : (ws : List (Bor (List ℕ))) (i : ℕ) → take (length ws - i) (drop i ws) ≡ drop i ws
whole ws i = take_all _ _ (omega (arith, length-drop i ws))

room_for : (ws : List (Bor (List ℕ))) (i : ℕ) → 2 ≤ length (take (length ws - i) (drop i ws)) → i + 2 ≤ length ws
room_for ws i h = omega (arith, ap length (whole ws i), length-drop i ws, h)

pub returns-in_default-next_pair : goal.returns-in_default-next_pair
returns-in_default-next_pair c =
    let cells : nows (drop c.loop-at.at c.args.words.now) ≡ c.in-Some.part.now ∷ c.in-Some.to.now ∷ nows c.in-Some.field-0-2.now =
    sym (ap nows (whole c.args.words.now c.loop-at.at)) ∙ (search rules) in
    let none : None ≡ add_pair c.loop-at.found.items (number_of (2 ^ 32 - 1) c.in-Some.part.now) (number_of (2 ^ 64 - 1) c.in-Some.to.now) = search rules in
    onto_none c.loop-at.found.items c.in-Some.part.now c.in-Some.to.now _ _ _ cells none c.loop-at.invariant.1

pub loop-at-preserved : goal.loop-at-preserved
loop-at-preserved c =
    let cells : nows (drop c.loop-at.at c.args.words.now) ≡ c.in-Some.part.now ∷ c.in-Some.to.now ∷ nows c.in-Some.field-0-2.now =
    sym (ap nows (whole c.args.words.now c.loop-at.at)) ∙ (search rules) in
    let added : Some c.push.new.self.items ≡ add_pair c.loop-at.found.items (number_of (2 ^ 32 - 1) c.in-Some.part.now) (number_of (2 ^ 64 - 1) c.in-Some.to.now) = search rules in
    let back : c.in-Some.field-0-2.now ≡ drop 2 (take (length c.args.words.now - c.loop-at.at) (drop c.loop-at.at c.args.words.now)) = search rules in
    let behind : c.in-Some.field-0-2.now ≡ drop (c.loop-at.at + 2) c.args.words.now =
    back ∙ ap (drop 2) (whole c.args.words.now c.loop-at.at) ∙ drop-drop 2 c.loop-at.at c.args.words.now in
    let two : 2 ≤ length (take (length c.args.words.now - c.loop-at.at) (drop c.loop-at.at c.args.words.now)) = search rules in
    let more : nows c.in-Some.field-0-2.now ≡ nows (drop (c.loop-at.at + 2) c.args.words.now) = ap nows behind in (
      room_for c.args.words.now c.loop-at.at two,
      sym (ap (λ m. pairs_onto (Some c.push.new.self.items) m) more) ∙ onto_next c.loop-at.found.items _ c.in-Some.part.now c.in-Some.to.now _ _ _ cells added c.loop-at.invariant.1,
    )
