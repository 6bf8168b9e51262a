use Rattle.std.proofs.Common.{sym, ap, ◌∙◌, ◌<◌, ◌^◌, length, subst}
use Rattle.cw_keys.specs.declared.state.State.{State}
use Rattle.cw_model.specs.State.{StampedStatus}
use Rattle.cw_rows.specs.Kept.{Kept}
use Rattle.cw_topics.specs.Statuses.{next_in}
use Rattle.cw_rows.specs.Statuses.{with_reports}
use Rattle.cw_rows.proofs.StatusLemmas.{status-puts, state-reported}
use Rattle.cw_rows.proofs.Few.{few}
use Rattle.cw_bytes.specs.Spelling.{records_bytes}
use Rattle.cw_rows.proofs.cluster.Cluster.put_put_status.Goals as goal

pub put_status-requires-clause-ready : goal.put_status-requires-clause-ready
put_status-requires-clause-ready c = ap (λ (k : Kept). k.ready_statuses) c.self.view_is ∙ c.requires.ready

pub put_status-requires-clause-next : goal.put_status-requires-clause-next
put_status-requires-clause-next c =
    ap (λ (r : StampedStatus). r.status.offset) c.requires.frame ∙ ap (λ (k : Kept). next_in k.state.statuses) (sym c.self.view_is)

pub returns : goal.returns
returns c =
    let inside = c.self.inside in
    status-puts c.args.w c.args.item.now c.args.self.now _ c.args.frame c.requires.passed c.requires.frame c.requires.offset c.requires.room
    (state-reported inside.topics c.put_status.new.self inside.crew c.report.new.self inside.circle inside.journal.items inside.closed c.args.frame c.args.w c.args.item.now
    c.args.frame.status.value.state c.args.self.now.state (ap (λ (k : Kept). k.state) c.self.view_is) c.put_status.ensures
    (c.report.ensures ∙ ap (λ (state : State). with_reports c.args.w c.args.item.now state inside.crew) c.state-state.ensures))
    (ap (λ (k : Kept). k.setting) c.self.view_is)

pub put_status-requires-clause-few : goal.put_status-requires-clause-few
put_status-requires-clause-few c = subst (λ (k : Kept). length k.state.status.frames < 2 ^ 62) (sym c.self.view_is) (few records_bytes c.args.self.now.state.status.frames _ c.requires.room)
