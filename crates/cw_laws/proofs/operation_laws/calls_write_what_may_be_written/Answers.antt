use Rattle.cw_laws.proofs.CallValues.{values-may, offsets-may}
use Rattle.cw_laws.proofs.Proposed.{ready-leads}
use Rattle.cw_laws.proofs.operation_laws.calls_write_what_may_be_written.Goals as goal

pub returns-clause-configs : goal.returns-clause-configs
returns-clause-configs c = λ setting s w leader is_ready seen call f leader_is named feeds same deed ok.
    values-may setting s leader seen is_ready f (ready-leads w leader s leader_is) feeds same call named deed ok

pub returns-clause-offsets : goal.returns-clause-offsets
returns-clause-offsets c = λ setting s w leader is_ready seen call f leader_is same entries deed ok.
    offsets-may setting s leader seen is_ready f (ready-leads w leader s leader_is) same entries call deed ok
