use Rattle.std.proofs.Common.{◌≡◌, ◌+◌, ◌<◌, ◌≤◌, ◌++◌, ◌∷◌, [], ℕ, List, sym, subst, ap, ◌∙◌, arith}
use Rattle.cw_sinktask.specs.Gathered.{values_of, place_behind}
use Rattle.cw_sinktask.proofs.Taken.{left, next-taken, next-value, next-place, no-value, no-place, last-value}
use Rattle.cw_sinktask.proofs.taking.take_from.Goals as goal

pub returns-in_default-clause-lines : goal.returns-in_default-clause-lines
returns-in_default-clause-lines c =
    let none = sym c.in_default.ensures in
    sym (no-value c.args.topic.now c.args.log.now.entries c.loop-count.lines.items c.loop-count.count c.loop-count.to none) ∙ c.loop-count.invariant.lines

pub returns-in_default-clause-to : goal.returns-in_default-clause-to
returns-in_default-clause-to c =
    let none = sym c.in_default.ensures in
    sym (no-place c.args.topic.now c.args.log.now.entries c.loop-count.count c.loop-count.to none) ∙ c.loop-count.invariant.to

pub behind-to-requires : goal.behind-to-requires
behind-to-requires c =
    let next = next-taken c.args.topic.now c.args.log.now.entries c.loop-count.to c.in-Some.offset c.in-Some.value.now (sym c.in-Some.ensures) in
    subst (λ (n : ℕ). c.in-Some.offset < n) (sym c.end-end.ensures) next.within

pub loop-count-preserved : goal.loop-count-preserved
loop-count-preserved c =
    let topic = c.args.topic.now in
    let log = c.args.log.now.entries in
    let value = c.in_ok-to_vec.ensures.items_if_clones_equal (λ x y e. e) in
    let is = sym c.in-Some.ensures in
    record {
      lines = ap (λ (l : List (List ℕ)). l ++ values_of (left topic log (c.loop-count.count + 1) c.behind-to.result)) (c.in_ok-push.ensures.items ∙ ap (λ (v : List ℕ). c.loop-count.lines.items ++ v ∷ []) (c.new.ensures ∙ value)) ∙
          ap (λ (n : ℕ). (c.loop-count.lines.items ++ c.in-Some.value.now ∷ []) ++ values_of (left topic log (c.loop-count.count + 1) n)) c.behind-to.ensures ∙
          next-value topic log c.loop-count.lines.items c.loop-count.count c.loop-count.to c.in-Some.offset c.in-Some.value.now c.loop-count-test.true is ∙ c.loop-count.invariant.lines;
      to = ap (λ (n : ℕ). place_behind n (left topic log (c.loop-count.count + 1) n)) c.behind-to.ensures ∙
          next-place topic log c.loop-count.count c.loop-count.to c.in-Some.offset c.in-Some.value.now c.loop-count-test.true is ∙ c.loop-count.invariant.to;
    }

all : (n : ℕ) → n ≤ 500 → 500 ≤ n → n ≡ 500
all n most least = omega (arith, most, least)

pub returns-clause-lines : goal.returns-clause-lines
returns-clause-lines c =
    let topic = c.args.topic.now in
    let log = c.args.log.now.entries in
    let end = all c.loop-count.count c.loop-count.auto.count-end c.loop-count-test.false in
    sym (last-value topic log c.loop-count.lines.items c.loop-count.to) ∙
    sym (ap (λ (n : ℕ). c.loop-count.lines.items ++ values_of (left topic log n c.loop-count.to)) end) ∙ c.loop-count.invariant.lines

pub returns-clause-to : goal.returns-clause-to
returns-clause-to c =
    let topic = c.args.topic.now in
    let log = c.args.log.now.entries in
    let end = all c.loop-count.count c.loop-count.auto.count-end c.loop-count-test.false in
    sym (ap (λ (n : ℕ). place_behind c.loop-count.to (left topic log n c.loop-count.to)) end) ∙ c.loop-count.invariant.to
