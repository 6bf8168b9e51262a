use Rattle.cw_rows.proofs.raw.spans_in.Goals as goal

pub returns-in-Some : goal.returns-in-Some
returns-in-Some c tag generation spans one = let given = c.in-Some.ensures tag generation spans one in cc

pub returns-in-None : goal.returns-in-None
returns-in-None c tag generation spans one = let given = c.in-None.ensures tag generation spans one in absurd (cc)
