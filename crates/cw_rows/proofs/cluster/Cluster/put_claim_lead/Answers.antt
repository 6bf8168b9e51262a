use Rattle.std.proofs.Common.{◌∙◌, ap, ◌<◌, ◌^◌, length, subst, sym}
use Rattle.cw_types.specs.declared.ids.Tid.TheVariants.{Lead}
use Rattle.cw_model.specs.EventsLeading.{leading}
use Rattle.cw_model.specs.Updates.{with_entries, next_epoch, changes_row}
use Rattle.cw_rows.specs.Kept.{Kept}
use Rattle.cw_rows.proofs.Halves.{claim_lead-puts}
use Rattle.cw_rows.proofs.Few.{few}
use Rattle.cw_txn.specs.Body.{entries_bytes}
use Rattle.cw_rows.proofs.cluster.Cluster.put_claim_lead.Goals as goal

pub put_bump-epoch-requires-clause-bump : goal.put_bump-epoch-requires-clause-bump
put_bump-epoch-requires-clause-bump c = (Lead, c.requires.frame)

pub returns : goal.returns
returns c = rw (c.lead.ensures, c.put_bump-epoch.ensures.put) (claim_lead-puts c.args.w c.args.self.now _ (ap (λ (k : Kept). k.setting) c.self.view_is) c.args.frame c.put_bump-epoch.result
    c.requires.passed c.requires.frame (c.put_bump-epoch.ensures.epoch Lead c.requires.frame ∙ ap (λ (k : Kept). next_epoch Lead k.state) c.self.view_is)
    c.requires.room (ap (λ (k : Kept). changes_row c.args.w (leading c.put_bump-epoch.result) (with_entries c.args.frame k.state)) c.self.view_is))

pub put_bump-epoch-requires-clause-few : goal.put_bump-epoch-requires-clause-few
put_bump-epoch-requires-clause-few c = subst (λ (k : Kept). length k.state.txn < 2 ^ 62) (sym c.self.view_is) (few entries_bytes c.args.self.now.state.txn _ c.requires.room)
