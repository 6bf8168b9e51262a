use Rattle.std.proofs.Common.{List, [], sym, subst}
use Rattle.cw_bytes.specs.declared.applied.Applied.{Applied}
use Rattle.cw_bytes.specs.Frames.{EachFrom, joined}
use Rattle.cw_config.specs.Compaction.{configs_in}
use Rattle.cw_txn.specs.declared.entry.Entry.{Entry}
use Rattle.cw_data.specs.declared.entry.DataEntry.{DataEntry}
use Rattle.cw_model.specs.StandsFor.{judged, IsSafeEntry}
use Rattle.cw_open.specs.Judging.{Says}
use Rattle.cw_open.specs.SafeEntries.{AreAllowedFrames}
use Rattle.cw_open.proofs.first_harm.entry_unsafe.Goals as goal

pub first_entries_unsafe-requires : goal.first_entries_unsafe-requires
first_entries_unsafe-requires c = subst (AreAllowedFrames []) (sym c.entries.ensures) c.requires.1.1.1.0

pub returns : goal.returns
returns c =
    subst (λ (l : List (List Entry)). Says (judged (λ before frame. EachFrom (IsSafeEntry (configs_in c.args.frames.now.config) c.args.frames.now.batches) (joined before) frame) l) c.in_ok-first.first) c.entries.ensures
    (subst (λ (log : List DataEntry). Says (judged (λ before frame. EachFrom (IsSafeEntry (configs_in c.args.frames.now.config) log) (joined before) frame) c.entries.result.now) c.in_ok-first.first) c.batches.ensures
    (subst (λ (l : List (List Applied)). Says (judged (λ before frame. EachFrom (IsSafeEntry (configs_in l) c.batches.result.now) (joined before) frame) c.entries.result.now) c.in_ok-first.first) c.configs.ensures
    c.in_ok-first.ensures))
