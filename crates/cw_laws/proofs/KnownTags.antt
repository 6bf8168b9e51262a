-- No transaction that stands in the data log or is committed has an epoch ahead of its producer's last.
use Rattle.std.proofs.Common.{◌≤◌, ◌++◌, ◌∷◌, [], List, map, cond, subst, arith, append_assoc}
use Rattle.std.specs.List.{AllByRecursion, filter_map}
use Rattle.std.proofs.lemmas.List.Sums.{sum_by-append}
use Rattle.cw_types.specs.declared.ids.Tid.{Tid}
use Rattle.cw_txn.specs.declared.entry.Entry.{Entry}
use Rattle.cw_txn.specs.declared.entry.Entry.TheVariants.{Bump, Commit, Set}
use Rattle.cw_txn.specs.Legal.{EachFrom as LegalFrom, IsLegal, IsLegalBehind, epoch_of, is_bump_of}
use Rattle.cw_data.specs.declared.entry.DataEntry.{DataEntry}
use Rattle.cw_data.specs.declared.entry.DataEntry.TheVariants as data_entry
use Rattle.cw_offset.specs.Acceptance.{IsKnown}
use Rattle.cw_bytes.specs.Frames.{EachFrom}
use Rattle.cw_model.specs.State.{Setting, Cluster}
use Rattle.cw_model.specs.Committed.{batches_of}
use Rattle.cw_model.specs.Allowed.{IsAllowedData}
use Rattle.cw_model.specs.FactsLogs.{LogFacts}
use Rattle.cw_model.specs.FactsProducers.{commit_tag, batch_tags, commit_tags}

batches-known : (entries : List Entry) (before log : List DataEntry) → EachFrom (IsAllowedData entries) before log →
    AllByRecursion (IsKnown entries) (map (λ batch. batch.tag) (batches_of log))
batches-known entries before [] each = tt
batches-known entries before (data_entry.Batch batch ∷ log) each = (each.0.known, batches-known entries (before ++ data_entry.Batch batch ∷ []) log each.1)
batches-known entries before (data_entry.Mark tag committed ∷ log) each = batches-known entries (before ++ data_entry.Mark tag committed ∷ []) log each.1

epoch-append : (tid : Tid) (before entries : List Entry) → epoch_of tid before ≤ epoch_of tid (before ++ entries)
epoch-append tid before entries = omega (arith, sum_by-append (λ (e : Entry). cond (is_bump_of tid e) 1 0) before entries)

commits-known : (before entries : List Entry) → LegalFrom IsLegalBehind before entries → AllByRecursion (IsKnown (before ++ entries)) (filter_map commit_tag entries)
commits-known before [] each = tt
commits-known before (Bump tid ∷ entries) each =
    subst (λ l. AllByRecursion (IsKnown l) (filter_map commit_tag entries)) (append_assoc before (Bump tid ∷ []) entries) (commits-known (before ++ Bump tid ∷ []) entries each.1)
commits-known before (Set tid epoch list ∷ entries) each =
    subst (λ l. AllByRecursion (IsKnown l) (filter_map commit_tag entries)) (append_assoc before (Set tid epoch list ∷ []) entries) (commits-known (before ++ Set tid epoch list ∷ []) entries each.1)
commits-known before (Commit tag generation spans ∷ entries) each = (
  omega (arith, each.0.0, epoch-append tag.tid before (Commit tag generation spans ∷ entries)),
  subst (λ l. AllByRecursion (IsKnown l) (filter_map commit_tag entries)) (append_assoc before (Commit tag generation spans ∷ []) entries)
      (commits-known (before ++ Commit tag generation spans ∷ []) entries each.1),
)

pub batch_tags-known : (setting : Setting) (s : Cluster) → LogFacts setting s → AllByRecursion (IsKnown s.entries) (batch_tags s)
batch_tags-known setting s f = batches-known s.entries [] s.batches f.batches

pub commit_tags-known : (s : Cluster) → IsLegal s.entries → AllByRecursion (IsKnown s.entries) (commit_tags s)
commit_tags-known s legal = commits-known [] s.entries legal
