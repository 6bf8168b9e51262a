use Rattle.std.proofs.Common.{◌∙◌, ap, ◌<◌, ◌^◌, length, subst, sym}
use Rattle.cw_types.specs.declared.ids.Tid.TheVariants.{Raw}
use Rattle.cw_model.specs.Updates.{with_entries, next_epoch}
use Rattle.cw_rows.specs.Kept.{Kept}
use Rattle.cw_rows.proofs.Halves.{raw_init-puts}
use Rattle.cw_rows.proofs.Few.{few}
use Rattle.cw_txn.specs.Body.{entries_bytes}
use Rattle.cw_rows.proofs.cluster.Cluster.put_raw_init.Goals as goal

pub put_bump-requires-clause-bump : goal.put_bump-requires-clause-bump
put_bump-requires-clause-bump c = (Raw c.args.n, c.requires.frame)

pub returns : goal.returns
returns c = rw (c.put_bump.ensures.put) (raw_init-puts c.args.n c.args.self.now _ (ap (λ (k : Kept). k.setting) c.self.view_is) c.args.frame c.put_bump.result
    c.requires.passed c.requires.frame (c.put_bump.ensures.epoch (Raw c.args.n) c.requires.frame ∙ ap (λ (k : Kept). next_epoch (Raw c.args.n) k.state) c.self.view_is)
    c.requires.room (ap (λ (k : Kept). with_entries c.args.frame k.state) c.self.view_is))

pub put_bump-requires-clause-few : goal.put_bump-requires-clause-few
put_bump-requires-clause-few c = subst (λ (k : Kept). length k.state.txn < 2 ^ 62) (sym c.self.view_is) (few entries_bytes c.args.self.now.state.txn _ c.requires.room)
