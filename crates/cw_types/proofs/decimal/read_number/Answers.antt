use Rattle.std.proofs.Common.{◌≡◌, ℕ, ◌+◌, ◌^◌, ◌<◌, List, ◌∷◌, drop, length, slice_index_or, add-one, drop-cons, refl, sym, ap, ◌∙◌, arith}
use Rattle.cw_types.specs.Decimal.{read_on}
use Rattle.cw_types.proofs.Decimals.{number_past}
use Rattle.cw_types.proofs.decimal.read_number.Goals as goal

split : (text : List ℕ) (i : ℕ) → i < length text → drop i text ≡ slice_index_or text i 0 ∷ drop (i + 1) text
split text i within = rw (add-one, drop-cons text i 0) refl

pub returns-in_err-value : goal.returns-in_err-value
returns-in_err-value c =
    let within : c.loop-byte.byte-index < length c.args.text.now = c.loop-byte-test.true in
    let most_fits : c.args.most < 2 ^ 64 = omega (arith, c.ranges.most.fits) in
    c.from_residual.ensures
    ∙ number_past c.args.most c.loop-byte.value (slice_index_or c.args.text.now c.loop-byte.byte-index 0) 0 c.args.text.now (drop (c.loop-byte.byte-index + 1) c.args.text.now)
    most_fits c.in_err-value.ensures
    (ap (read_on c.loop-byte.value) (sym (split c.args.text.now c.loop-byte.byte-index within)) ∙ c.loop-byte.invariant)
