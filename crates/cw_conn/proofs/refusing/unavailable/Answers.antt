use Rattle.cw_conn.proofs.Texts.{memory_text_is}
use Rattle.cw_conn.proofs.refusing.unavailable.Goals as goal

pub returns : goal.returns
returns c = memory_text_is
