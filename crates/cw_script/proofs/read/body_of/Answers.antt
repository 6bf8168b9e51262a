use Rattle.cw_script.proofs.WordLemmas.{joined-words}
use Rattle.cw_script.proofs.read.body_of.Goals as goal

pub returns-in-Some : goal.returns-in-Some
returns-in-Some c = rw (c.in-Some.is, joined-words c.in-Some.text.now) c.copy_of.ensures
