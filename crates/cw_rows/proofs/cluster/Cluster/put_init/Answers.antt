use Rattle.std.proofs.Common.{◌∙◌, ap, false, subst, sym, ◌≡◌, ◌<◌, ◌^◌, length}
use Rattle.cw_types.specs.declared.ids.Tid.{Tid}
use Rattle.cw_model.specs.EventsSources.{with_epoch}
use Rattle.cw_model.specs.Lookups.{instance_of}
use Rattle.cw_model.specs.Phases.{is_ended}
use Rattle.cw_model.specs.Updates.{with_entries, next_epoch, changes_instance, tid_of}
use Rattle.cw_rows.specs.Kept.{Kept}
use Rattle.cw_rows.proofs.Due.{instance-runs}
use Rattle.cw_rows.proofs.Halves.{init-puts}
use Rattle.cw_rows.proofs.Few.{few}
use Rattle.cw_txn.specs.Body.{entries_bytes}
use Rattle.cw_rows.proofs.cluster.Cluster.put_init.Goals as goal

pub put_bump-epoch-requires-clause-bump : goal.put_bump-epoch-requires-clause-bump
put_bump-epoch-requires-clause-bump c = (tid_of (instance_of c.args.i c.args.self.now.state).item, c.requires.frame)

pub init-requires-clause-runs : goal.init-requires-clause-runs
init-requires-clause-runs c = subst (λ (k : Kept). is_ended (instance_of c.args.i k.state).phase ≡ false) (sym c.self.view_is)
    (instance-runs c.args.i c.args.self.now.state c.requires.passed)

pub returns : goal.returns
returns c =
    let tid : Tid = tid_of (instance_of c.args.i c.args.self.now.state).item in
    rw (c.init.ensures, c.put_bump-epoch.ensures.put) (init-puts c.args.i c.args.self.now _ (ap (λ (k : Kept). k.setting) c.self.view_is) c.args.frame c.put_bump-epoch.result
    c.requires.passed c.requires.frame (c.put_bump-epoch.ensures.epoch tid c.requires.frame ∙ ap (λ (k : Kept). next_epoch tid k.state) c.self.view_is)
    c.requires.room (ap (λ (k : Kept). changes_instance c.args.i (with_epoch c.put_bump-epoch.result) (with_entries c.args.frame k.state)) c.self.view_is))

pub put_bump-epoch-requires-clause-few : goal.put_bump-epoch-requires-clause-few
put_bump-epoch-requires-clause-few c = subst (λ (k : Kept). length k.state.txn < 2 ^ 62) (sym c.self.view_is) (few entries_bytes c.args.self.now.state.txn _ c.requires.room)
