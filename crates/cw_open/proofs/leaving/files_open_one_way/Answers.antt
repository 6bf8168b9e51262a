use Rattle.cw_open.proofs.LeavingLemmas.{no-first-harm, same-of-lists}
use Rattle.cw_open.proofs.leaving.files_open_one_way.Goals as goal

pub returns-clause-state : goal.returns-clause-state
returns-clause-state c = λ files stored other s t lists stand also stands. same-of-lists files stored s lists stand other t also stands

pub returns-clause-harm : goal.returns-clause-harm
returns-clause-harm c = λ files stored s at place harm lists stand. no-first-harm files stored s lists stand at place harm
