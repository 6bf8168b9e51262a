use Rattle.std.proofs.Common.{◌≡◌, Some, [], ◌∷◌, ap, arith}
use Rattle.cw_data.specs.declared.entry.Batch.{Batch}
use Rattle.cw_model.specs.declared.instance.Cut.{Cut}
use Rattle.cw_model.specs.WorkedCases.{batch}
use Rattle.cw_model.proofs.judged.shifted_cut_has_no_batch.Goals as goal

-- the only batch is this one
one_batch : (b c : Batch) → b ∷ [] ≡ c ∷ [] → b ≡ c
one_batch b c same = cc

-- the only cut is this one
one_cut : (b c : Cut) → Some b ≡ Some c → b ≡ c
one_cut b c same = cc

pub returns : goal.returns
returns c = λ has.
    let from : 0 ≡ has.batch.from = ap (λ b. b.from) (one_batch batch has.batch has.only) in
    let at : 8 ≡ has.cut.from = ap (λ c. c.from) (one_cut (record { turn = 0; from = 8; to = 96 }) has.cut has.is_cut) in
    let begins : has.cut.from ≡ has.batch.from = has.cut_begins in
    omega arith
