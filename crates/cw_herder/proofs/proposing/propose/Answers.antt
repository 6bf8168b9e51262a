use Rattle.std.proofs.Common.{◌∙◌, length, sym, ap, subst}
use Rattle.std.proofs.Math.Seq.{take-length}
use Rattle.cw_model.specs.State.{Cluster}
use Rattle.cw_ticks.specs.Proposed.{AreFaultless}
use Rattle.cw_ticks.proofs.Faultless.{read-faultless}
use Rattle.cw_herder.specs.Operations.{proposes}
use Rattle.cw_herder.proofs.Replied.{wanting}
use Rattle.cw_herder.proofs.proposing.propose.Goals as goal

pub proposal_for-requires : goal.proposal_for-requires
proposal_for-requires g c =
    let s = c.args.world.now.state in
    subst AreFaultless (take-length s.configs ∙ sym (c.config_state.ensures ∙ ap (λ (t : Cluster). t.configs) c.cluster.ensures.state))
    (read-faultless (length s.configs) s.configs c.is_safe.ensures.facts.logs.configs.allowed)

pub returns-in-Err : goal.returns-in-Err
returns-in-Err g c = wanting g.D.Disk (proposes c.args.w c.args.connector.now) c.args.world.now
