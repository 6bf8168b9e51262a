use Rattle.std.proofs.Common.{◌≡◌, ◌∙◌, ℕ, Bool, if◌then◌else◌, refl, Ok, sym, ap, subst}
use Rattle.cw_types.specs.declared.logs.LogName.TheVariants.{Config}
use Rattle.cw_rest.specs.Seen.{KeyedValues}
use Rattle.cw_laws.proofs.Proposed.{may-append}
use Rattle.cw_model.specs.EventsLeading.{append_config, MayAppendConfig}
use Rattle.cw_model.specs.Proposals.{are_deferred}
use Rattle.cw_world.specs.World.{Writes, Acts}
use Rattle.cw_herder.specs.declared.op.OpDone.{OpDone}
use Rattle.cw_herder.specs.declared.op.OpDone.TheVariants as done
use Rattle.cw_herder.specs.Operations.{proposal_records, told_proposal, proposes}
use Rattle.cw_herder.proofs.Done.{done-op, failed-op}
use Rattle.cw_herder.proofs.proposing.write_proposal.Goals as goal

pub append_config-requires-clause-may : goal.append_config-requires-clause-may
append_config-requires-clause-may g c =
    let s = c.args.world.now.state in
    subst (λ (v : KeyedValues). MayAppendConfig c.args.w v s) (sym (c.as_slice.ensures.value ∙ c.requires.records))
    (may-append c.args.w c.args.connector.now s c.requires.may.leads c.is_name.ensures c.is_safe.ensures.facts.logs.configs.allowed c.requires.may.needs)

pub returns-in-Ok : goal.returns-in-Ok
returns-in-Ok g c =
    let old = c.args.world.now in
    let new = c.append_config.new.self in
    let configs = old.state.configs in
    let name = c.args.connector.now in
    let writes : Writes g.D.Disk Config (append_config c.args.w (proposal_records configs name)) old new c.append_config.result =
    subst (λ (v : KeyedValues). Writes g.D.Disk Config (append_config c.args.w v) old new c.append_config.result)
    (c.as_slice.ensures.value ∙ c.requires.records) c.append_config.ensures in
    let told : c.told.result ≡ told_proposal configs name c.in-Ok.offset =
    c.told.ensures ∙ ap (λ (b : Bool). if b then done.Committed c.in-Ok.offset else done.Proposed c.args.proposal.count) c.requires.commits ∙
    ap (λ (n : ℕ). if are_deferred configs name then done.Committed c.in-Ok.offset else done.Proposed n) c.requires.count in
    subst (λ (d : OpDone). Acts g.D.Disk (proposes c.args.w name) old new (Ok d)) (sym told)
    (done-op g.D.Disk (append_config c.args.w (proposal_records configs name)) (told_proposal configs name) (proposes c.args.w name) old new
    c.append_config.result refl Config writes c.in-Ok.offset c.in-Ok.is)

pub returns : goal.returns
returns g c =
    let old = c.args.world.now in
    let new = c.append_config.new.self in
    let configs = old.state.configs in
    let name = c.args.connector.now in
    let writes : Writes g.D.Disk Config (append_config c.args.w (proposal_records configs name)) old new c.append_config.result =
    subst (λ (v : KeyedValues). Writes g.D.Disk Config (append_config c.args.w v) old new c.append_config.result)
    (c.as_slice.ensures.value ∙ c.requires.records) c.append_config.ensures in
    failed-op g.D.Disk (append_config c.args.w (proposal_records configs name)) (told_proposal configs name) (proposes c.args.w name) old new
    c.append_config.result refl Config writes c.in-Err.fault c.in-Err.is
