use Rattle.std.proofs.Common.{◌≡◌, ◌-◌, ℕ, Bool, List, length, Option, Some, None, min, sym, ap, ◌∙◌}
use Rattle.std.specs.List.{find, range_with_len}
use Rattle.cw_types.specs.declared.ids.PartKey.{PartKey}
use Rattle.cw_model.specs.declared.instance.Instance.{Instance}
use Rattle.cw_model.specs.Polls.{turn_behind}
use Rattle.cw_ticks.specs.Polled.{has_records}
use Rattle.cw_model.specs.Tasks.{parts_of}
use Rattle.cw_ticks.proofs.Lists.{around-first, around-second}
use Rattle.cw_ticks.proofs.sink_polls.sink_turn.Goals as goal

pub returns-in-Some : goal.returns-in-Some
returns-in-Some c =
    let i : Instance = c.args.instance.now in
    let p : ℕ → Bool = has_records i c.args.log.now.entries in
    let own : List PartKey = c.parts_of-count.result.now in
    let first : c.min-first.result ≡ min (turn_behind i.last) (length (parts_of i)) =
    c.min-first.ensures ∙ ap (λ (k : ℕ). min k (length own)) c.turn_behind.ensures ∙
    ap (λ (ps : List PartKey). min (turn_behind i.last) (length ps)) c.parts_of-count.ensures in
    let found : find p (range_with_len (min (turn_behind i.last) (length (parts_of i))) (length (parts_of i) - min (turn_behind i.last) (length (parts_of i)))) ≡ Some c.in-Some.turn =
    sym (ap (λ (m : ℕ). find p (range_with_len m (length own - m))) first ∙
    ap (λ (ps : List PartKey). find p (range_with_len (min (turn_behind i.last) (length (parts_of i))) (length ps - min (turn_behind i.last) (length (parts_of i))))) c.parts_of-count.ensures) ∙
    sym c.sink_turn_between.ensures ∙ c.in-Some.is in
    sym (around-first p (turn_behind i.last) (length (parts_of i)) c.in-Some.turn found)

pub returns-in-None : goal.returns-in-None
returns-in-None c =
    let i : Instance = c.args.instance.now in
    let p : ℕ → Bool = has_records i c.args.log.now.entries in
    let own : List PartKey = c.parts_of-count.result.now in
    let first : c.min-first.result ≡ min (turn_behind i.last) (length (parts_of i)) =
    c.min-first.ensures ∙ ap (λ (k : ℕ). min k (length own)) c.turn_behind.ensures ∙
    ap (λ (ps : List PartKey). min (turn_behind i.last) (length ps)) c.parts_of-count.ensures in
    let none : find p (range_with_len (min (turn_behind i.last) (length (parts_of i))) (length (parts_of i) - min (turn_behind i.last) (length (parts_of i)))) ≡ None =
    sym (ap (λ (m : ℕ). find p (range_with_len m (length own - m))) first ∙
    ap (λ (ps : List PartKey). find p (range_with_len (min (turn_behind i.last) (length (parts_of i))) (length ps - min (turn_behind i.last) (length (parts_of i))))) c.parts_of-count.ensures) ∙
    sym c.sink_turn_between.ensures ∙ c.in-None.is in
    c.sink_turn_between-in-None.ensures ∙ ap (λ (m : ℕ). find p (range_with_len 0 (m - 0))) first ∙
    sym (around-second p (turn_behind i.last) (length (parts_of i)) none)
