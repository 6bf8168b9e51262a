use Rattle.std.proofs.Common.{◌≡◌, false, [], sym, ap, subst, ◌<◌, ◌^◌, length}
use Rattle.cw_txn.specs.Allowed.{IsAllowedBehind}
use Rattle.cw_txn.specs.Legal.{EachFrom, ChainsBehind}
use Rattle.cw_model.specs.Lookups.{instance_of}
use Rattle.cw_model.specs.Phases.{is_ended}
use Rattle.cw_model.specs.declared.instance.InstancePhase.TheVariants.{Polling}
use Rattle.cw_model.specs.Tasks.{polling_from}
use Rattle.cw_model.specs.Updates.{with_entries, changes_instance}
use Rattle.cw_rows.specs.Kept.{Kept}
use Rattle.cw_rows.proofs.Due.{producer-runs}
use Rattle.cw_rows.proofs.Halves.{put_sink-puts}
use Rattle.cw_topics.proofs.Putting.{each-behind}
use Rattle.cw_rows.proofs.Few.{few}
use Rattle.cw_txn.specs.Body.{entries_bytes}
use Rattle.cw_rows.proofs.cluster.Cluster.put_put_sink.Goals as goal

pub put_entries-requires-clause-allowed : goal.put_entries-requires-clause-allowed
put_entries-requires-clause-allowed c = subst (λ (k : Kept). EachFrom IsAllowedBehind k.state.entries c.args.frame) (sym c.self.view_is)
    (each-behind IsAllowedBehind [] c.args.self.now.state.entries c.args.frame c.requires.allowed)

pub put_entries-requires-clause-chains : goal.put_entries-requires-clause-chains
put_entries-requires-clause-chains c part = subst (λ (k : Kept). EachFrom (ChainsBehind part) k.state.entries c.args.frame) (sym c.self.view_is)
    (each-behind (ChainsBehind part) [] c.args.self.now.state.entries c.args.frame (c.requires.chains part))

pub poll_on-requires-clause-runs : goal.poll_on-requires-clause-runs
poll_on-requires-clause-runs c = subst (λ (k : Kept). is_ended (instance_of c.args.i k.state).phase ≡ false) (sym c.self.view_is)
    (producer-runs c.args.i c.args.self.now.state c.requires.passed)

pub returns : goal.returns
returns c =
    rw (c.poll_on.ensures, c.put_entries.ensures.put) (put_sink-puts c.args.i c.args.to c.args.self.now _ (ap (λ (k : Kept). k.setting) c.self.view_is) c.args.frame
    c.requires.passed c.requires.frame c.requires.room
    (ap (λ (k : Kept). changes_instance c.args.i (polling_from Polling c.args.to) (with_entries c.args.frame k.state)) c.self.view_is))

pub put_entries-requires-clause-few : goal.put_entries-requires-clause-few
put_entries-requires-clause-few c = subst (λ (k : Kept). length k.state.txn < 2 ^ 62) (sym c.self.view_is) (few entries_bytes c.args.self.now.state.txn _ c.requires.room)
