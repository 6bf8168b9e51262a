use Rattle.cw_log.proofs.OneReading.{stands_for_one, sound, one_harm}
use Rattle.cw_log.proofs.law.files_read_one_way.Goals as goal

pub returns-clause-list : goal.returns-clause-list
returns-clause-list c = stands_for_one

pub returns-clause-none : goal.returns-clause-none
returns-clause-none c = sound

pub returns-clause-harm : goal.returns-clause-harm
returns-clause-harm c = one_harm
