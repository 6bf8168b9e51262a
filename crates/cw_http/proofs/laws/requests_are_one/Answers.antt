use Rattle.cw_http.proofs.Ones.{reads_one, taken_one, refused_one, taken_or_refused, taken_or_unfinished, refused_or_unfinished}
use Rattle.cw_http.proofs.laws.requests_are_one.Goals as goal

pub returns-clause-one : goal.returns-clause-one
returns-clause-one c = reads_one

pub returns-clause-taken : goal.returns-clause-taken
returns-clause-taken c = taken_one

pub returns-clause-refusal : goal.returns-clause-refusal
returns-clause-refusal c = refused_one

pub returns-clause-apart : goal.returns-clause-apart
returns-clause-apart c = taken_or_refused

pub returns-clause-whole : goal.returns-clause-whole
returns-clause-whole c = taken_or_unfinished

pub returns-clause-ended : goal.returns-clause-ended
returns-clause-ended c = refused_or_unfinished
