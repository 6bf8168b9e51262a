use Rattle.std.proofs.Common.{[], sym, ap, subst, ◌<◌, ◌^◌, length}
use Rattle.cw_txn.specs.Allowed.{IsAllowedBehind}
use Rattle.cw_txn.specs.Legal.{EachFrom, ChainsBehind}
use Rattle.cw_model.specs.Updates.{with_entries}
use Rattle.cw_rows.specs.Kept.{Kept}
use Rattle.cw_rows.proofs.Halves.{set_offsets-puts}
use Rattle.cw_topics.proofs.Putting.{each-behind}
use Rattle.cw_rows.proofs.Few.{few}
use Rattle.cw_txn.specs.Body.{entries_bytes}
use Rattle.cw_rows.proofs.cluster.Cluster.put_set_offsets.Goals as goal

pub put_entries-requires-clause-allowed : goal.put_entries-requires-clause-allowed
put_entries-requires-clause-allowed c = subst (λ (k : Kept). EachFrom IsAllowedBehind k.state.entries c.args.frame) (sym c.self.view_is)
    (each-behind IsAllowedBehind [] c.args.self.now.state.entries c.args.frame c.requires.allowed)

pub put_entries-requires-clause-chains : goal.put_entries-requires-clause-chains
put_entries-requires-clause-chains c part = subst (λ (k : Kept). EachFrom (ChainsBehind part) k.state.entries c.args.frame) (sym c.self.view_is)
    (each-behind (ChainsBehind part) [] c.args.self.now.state.entries c.args.frame (c.requires.chains part))

pub returns : goal.returns
returns c = rw (c.put_entries.ensures.put) (set_offsets-puts c.args.w c.args.name.now c.args.list.now c.args.self.now _ (ap (λ (k : Kept). k.setting) c.self.view_is)
    c.args.frame c.requires.passed c.requires.frame c.requires.room (ap (λ (k : Kept). with_entries c.args.frame k.state) c.self.view_is))

pub put_entries-requires-clause-few : goal.put_entries-requires-clause-few
put_entries-requires-clause-few c = subst (λ (k : Kept). length k.state.txn < 2 ^ 62) (sym c.self.view_is) (few entries_bytes c.args.self.now.state.txn _ c.requires.room)
