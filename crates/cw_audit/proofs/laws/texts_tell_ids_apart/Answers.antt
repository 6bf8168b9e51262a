use Rattle.cw_audit.proofs.IdTexts.{ids-apart}
use Rattle.cw_audit.proofs.laws.texts_tell_ids_apart.Goals as goal

pub returns : goal.returns
returns c = ids-apart
