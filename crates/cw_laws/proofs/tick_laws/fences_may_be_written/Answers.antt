use Rattle.cw_laws.proofs.Ticks.{may-fence, may-append_fence}
use Rattle.cw_laws.proofs.Workers.{sound_at}
use Rattle.cw_laws.proofs.tick_laws.fences_may_be_written.Goals as goal

pub returns-clause-one : goal.returns-clause-one
returns-clause-one c = λ s w name. may-fence w name s

pub returns-clause-record_of_all : goal.returns-clause-record_of_all
returns-clause-record_of_all c = λ setting s w name f. may-append_fence w name s (sound_at s f.rows w)
