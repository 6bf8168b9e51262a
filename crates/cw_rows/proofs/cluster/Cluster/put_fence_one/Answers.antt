use Rattle.std.proofs.Common.{◌∙◌, ap, ◌<◌, ◌^◌, length, subst, sym}
use Rattle.cw_types.specs.declared.ids.Epoch.{Epoch}
use Rattle.cw_types.specs.declared.ids.Tid.{Tid}
use Rattle.cw_model.specs.declared.row.Fencing.{Fencing}
use Rattle.cw_model.specs.EventsLeading.{fencing_of, fenced_tid, fencing_on}
use Rattle.cw_model.specs.Updates.{with_entries, next_epoch, changes_row}
use Rattle.cw_rows.specs.Kept.{Kept}
use Rattle.cw_rows.proofs.Halves.{fence_one-puts}
use Rattle.cw_rows.proofs.Few.{few}
use Rattle.cw_txn.specs.Body.{entries_bytes}
use Rattle.cw_rows.proofs.cluster.Cluster.put_fence_one.Goals as goal

pub put_bump-epoch-requires-clause-bump : goal.put_bump-epoch-requires-clause-bump
put_bump-epoch-requires-clause-bump c = (fenced_tid (fencing_of c.args.w c.args.name.now c.args.self.now.state), c.requires.frame)

pub returns : goal.returns
returns c =
    let fencing : Fencing = fencing_of c.args.w c.args.name.now c.args.self.now.state in
    let tid : Tid = fenced_tid fencing in
    let epoch = c.put_bump-epoch.ensures.epoch tid c.requires.frame ∙ ap (λ (k : Kept). next_epoch tid k.state) c.self.view_is in
    rw (c.set_fencing.ensures, c.one_more.ensures, c.put_bump-epoch.ensures.put) (fence_one-puts c.args.w c.args.name.now c.args.self.now _
    (ap (λ (k : Kept). k.setting) c.self.view_is) c.args.frame.frame (c.args.frame.fencing.next, c.put_bump-epoch.result) c.requires.passed c.requires.frame
    (ap (λ (f : Fencing). (f.next, c.put_bump-epoch.result)) c.requires.fencing ∙ ap (λ (e : Epoch). (fencing.next, e)) epoch) c.requires.room
    (ap (λ (k : Kept). changes_row c.args.w (fencing_on c.args.frame.fencing) (with_entries c.args.frame.frame k.state)) c.self.view_is ∙
    ap (λ (f : Fencing). changes_row c.args.w (fencing_on f) (with_entries c.args.frame.frame c.args.self.now.state)) c.requires.fencing))

pub put_bump-epoch-requires-clause-few : goal.put_bump-epoch-requires-clause-few
put_bump-epoch-requires-clause-few c = subst (λ (k : Kept). length k.state.txn < 2 ^ 62) (sym c.self.view_is) (few entries_bytes c.args.self.now.state.txn _ c.requires.room)
