use Rattle.std.proofs.Common.{◌≡◌, false, [], sym, ap, subst, ◌<◌, ◌^◌, length, ◌∙◌}
use Rattle.cw_txn.specs.Allowed.{IsAllowedBehind}
use Rattle.cw_txn.specs.Legal.{EachFrom, ChainsBehind}
use Rattle.cw_model.specs.declared.instance.Instance.{Instance}
use Rattle.cw_model.specs.Lookups.{instance_of}
use Rattle.cw_model.specs.Phases.{is_ended}
use Rattle.cw_model.specs.EventsSources.{committed_to}
use Rattle.cw_model.specs.Tasks.{tag_of, cut_of, span_of}
use Rattle.cw_model.specs.Updates.{with_entries, changes_instance}
use Rattle.cw_rows.specs.Kept.{Kept}
use Rattle.cw_rows.proofs.Due.{producer-runs}
use Rattle.cw_rows.proofs.Halves.{commit-puts}
use Rattle.cw_topics.proofs.Putting.{each-behind}
use Rattle.cw_rows.proofs.Few.{few}
use Rattle.cw_txn.specs.Body.{entries_bytes}
use Rattle.cw_rows.proofs.cluster.Cluster.put_commit.Goals as goal

pub put_entries-entries-requires-clause-allowed : goal.put_entries-entries-requires-clause-allowed
put_entries-entries-requires-clause-allowed c = subst (λ (k : Kept). EachFrom IsAllowedBehind k.state.entries c.args.frame) (sym c.self.view_is)
    (each-behind IsAllowedBehind [] c.args.self.now.state.entries c.args.frame c.requires.allowed)

pub put_entries-entries-requires-clause-chains : goal.put_entries-entries-requires-clause-chains
put_entries-entries-requires-clause-chains c part = subst (λ (k : Kept). EachFrom (ChainsBehind part) k.state.entries c.args.frame) (sym c.self.view_is)
    (each-behind (ChainsBehind part) [] c.args.self.now.state.entries c.args.frame (c.requires.chains part))

pub commit-requires-clause-runs : goal.commit-requires-clause-runs
commit-requires-clause-runs c = subst (λ (k : Kept). is_ended (instance_of c.args.i k.state).phase ≡ false) (sym c.self.view_is)
    (producer-runs c.args.i c.args.self.now.state c.requires.passed)

pub returns : goal.returns
returns c =
    let own : Instance = instance_of c.args.i c.args.self.now.state in
    rw (c.commit.ensures, c.put_entries-entries.ensures.put) (commit-puts c.args.i c.args.self.now _ (ap (λ (k : Kept). k.setting) c.self.view_is) c.args.frame c.span_in.result
    c.requires.passed c.requires.frame
    (c.span_in.ensures (tag_of own) own.generation (span_of own) (c.put_entries-entries.ensures.entries ∙ c.requires.frame)) c.requires.room
    (ap (λ (k : Kept). changes_instance c.args.i (λ (x : Instance). committed_to (cut_of x).to x) (with_entries c.args.frame k.state)) c.self.view_is))

pub put_entries-entries-requires-clause-few : goal.put_entries-entries-requires-clause-few
put_entries-entries-requires-clause-few c = subst (λ (k : Kept). length k.state.txn < 2 ^ 62) (sym c.self.view_is) (few entries_bytes c.args.self.now.state.txn _ c.requires.room)
