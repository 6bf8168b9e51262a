use Rattle.std.proofs.Common.{◌≡◌, ◌∷◌, []}
use Rattle.cw_rows.proofs.sources.span_in.Goals as goal

pub returns-in-Some : goal.returns-in-Some
returns-in-Some c tag generation span one =
    let given = c.in-Some.ensures tag generation (span ∷ []) one in
    let spans : c.in-Some.spans ≡ span ∷ [] = cc in
    c.last_of.ensures span spans

pub returns-in-None : goal.returns-in-None
returns-in-None c tag generation span one = let given = c.in-None.ensures tag generation (span ∷ []) one in absurd (cc)
