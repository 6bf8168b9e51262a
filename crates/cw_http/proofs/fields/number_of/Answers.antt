use Rattle.std.proofs.Common.{◌≡◌, ◌+◌, ◌-◌, ◌*◌, min, suc, ◌∷◌, drop, get_or, sym, ap, ◌∙◌, arith}
use Rattle.std.proofs.Math.Seq.{drop-cons}
use Rattle.cw_types.specs.Decimal.{read_on}
use Rattle.cw_http.proofs.Numbers.{capped}
use Rattle.cw_http.proofs.fields.number_of.Goals as goal

pub loop-digit-preserved : goal.loop-digit-preserved
loop-digit-preserved c =
    let digit = get_or c.args.digits.now c.loop-digit.digit-index 0 in
    let rest = drop (c.loop-digit.digit-index + 1) c.args.digits.now in
    let next : suc c.loop-digit.digit-index ≡ c.loop-digit.digit-index + 1 = omega arith in
    let cut = drop-cons c.args.digits.now c.loop-digit.digit-index 0 c.loop-digit-test.true ∙ ap (λ n. digit ∷ drop n c.args.digits.now) next in
    record {
      within = omega arith;
      number = capped rest 1048577 c.min-number.result (10 * c.loop-digit.number + (digit - 48)) (omega arith)
          ∙ ap (λ xs. min (read_on c.loop-digit.number xs) 1048577) (sym cut)
          ∙ c.loop-digit.invariant.number;
    }
