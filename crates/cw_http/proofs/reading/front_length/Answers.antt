use Rattle.std.proofs.Common.{◌∙◌, ap}
use Rattle.cw_http.specs.HeadEnd.{head_length}
use Rattle.cw_http.proofs.HeadEnds.{take-min}
use Rattle.cw_http.proofs.reading.front_length.Goals as goal

pub returns-clause-length : goal.returns-clause-length
returns-clause-length c = c.head_length.ensures.length ∙ ap head_length (take-min c.args.kept.now c.min.result 8192 c.min.ensures)
