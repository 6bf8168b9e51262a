use Rattle.std.proofs.Common.{◌<◌, ◌^◌, List, [], map, ap, sym, subst, ◌∙◌, lit<}
use Rattle.cw_bytes.specs.Frames.{EachFrom, joined}
use Rattle.cw_bytes.specs.declared.applied.Applied.{Applied}
use Rattle.cw_config.specs.Compaction.{configs_in}
use Rattle.cw_data.specs.Body.{entry_bytes}
use Rattle.cw_data.specs.declared.entry.DataEntry.{DataEntry}
use Rattle.cw_log.specs.Log.{length_of}
use Rattle.cw_model.specs.ConfigsAllowed.{AreAllowedConfigs}
use Rattle.cw_txn.specs.Allowed.{IsAllowedBehind}
use Rattle.cw_txn.specs.Legal.{ChainsBehind}
use Rattle.cw_txn.specs.declared.entry.Entry.{Entry}
use Rattle.cw_topics.specs.Topics.{TopicsState}
use Rattle.cw_open.proofs.ReopenLemmas.{configs-may, entries-may, entries-chain}
use Rattle.cw_audit.proofs.printing.topics_of.Goals as goal

pub opened-requires-clause-configs : goal.opened-requires-clause-configs
opened-requires-clause-configs c = subst (λ (l : List (List Applied)). AreAllowedConfigs [] (configs_in l)) (sym c.configs.ensures) (configs-may c.args.frames.now c.requires.allowed)

pub opened-requires-clause-entries : goal.opened-requires-clause-entries
opened-requires-clause-entries c = subst (λ (l : List (List Entry)). EachFrom IsAllowedBehind [] (joined l)) (sym c.entries.ensures) (entries-may c.args.frames.now c.requires.allowed)

pub opened-requires-clause-chains : goal.opened-requires-clause-chains
opened-requires-clause-chains c = λ part. subst (λ (l : List (List Entry)). EachFrom (ChainsBehind part) [] (joined l)) (sym c.entries.ensures) (entries-chain c.args.frames.now c.requires.safe part)

pub opened-requires-clause-size : goal.opened-requires-clause-size
opened-requires-clause-size c = subst (λ (l : List DataEntry). length_of (map entry_bytes l) < 2 ^ 64) (sym c.new.ensures.items) (lit< tt)

pub returns : goal.returns
returns c = record {
  configs = ap (λ (t : TopicsState). t.configs) c.in_ok-topics.ensures ∙ ap configs_in c.configs.ensures;
  entries = ap (λ (t : TopicsState). t.entries.entries) c.in_ok-topics.ensures ∙ ap joined c.entries.ensures;
}
