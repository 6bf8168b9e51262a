use Rattle.cw_script.proofs.Sayable.{line_sayable}
use Rattle.cw_run.proofs.FlightRuns.{before-runs, behind-runs}
use Rattle.cw_run.proofs.flight_laws.what_is_in_flight_is_reached.Goals as goal

pub returns-clause-before : goal.returns-clause-before
returns-clause-before c = λ setting line d ran at next named facts says flight. before-runs setting named ran at next facts d flight

pub returns-clause-behind : goal.returns-clause-behind
returns-clause-behind c = λ setting line d ran at next named facts says flight. behind-runs setting named ran at next facts d (line_sayable line d says) flight
