use Rattle.std.proofs.Common.{◌≡◌, ℕ, ◌+◌, ◌-◌, [], ◌∷◌, ◌++◌, map, sym, ap, ◌∙◌, arith}
use Rattle.std.specs.List.{range_with_len}
use Rattle.std.proofs.lemmas.List.{map_push}
use Rattle.std.proofs.lemmas.List.FromFn.{map-range_with_len_more}
use Rattle.cw_feed.specs.Yield.{record_text}
use Rattle.cw_feed.proofs.yields.records_between.Goals as goal

pub loop-k-preserved : goal.loop-k-preserved
loop-k-preserved c =
    let length' : ℕ = c.loop-k.k - c.args.from in
    let longer : length' + 1 ≡ c.loop-k.k + 1 - c.args.from = omega (arith, c.loop-k.auto.k) in
    let place : c.args.from + length' ≡ c.loop-k.k = omega (arith, c.loop-k.auto.k) in
    ap (map (λ text. text.items)) c.in_ok-push.ensures.items
    ∙ map_push (λ text. text.items) c.loop-k.records.items c.in_ok-record_text.field-0
    ∙ ap (λ xs. xs ++ c.in_ok-record_text.field-0.items ∷ []) c.loop-k.invariant
    ∙ ap (λ text. map (record_text c.args.index) (range_with_len c.args.from length') ++ text ∷ []) c.in_ok-record_text.ensures
    ∙ sym (map-range_with_len_more (record_text c.args.index) c.args.from length' c.loop-k.k place)
    ∙ ap (λ n. map (record_text c.args.index) (range_with_len c.args.from n)) longer
