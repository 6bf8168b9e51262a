use Rattle.cw_words.proofs.Readings.{numbered}
use Rattle.cw_words.proofs.reading.command_in.Goals as goal

pub returns : goal.returns
returns c = numbered _ _ _ c.numbered_command_in.result c.in-Some.ensures.name c.in-Some.ensures.rows c.if-eq.ensures
    c.if-eq-2.ensures c.numbered_command_in.ensures
