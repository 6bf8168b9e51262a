-- What an entry leaves as it is: a part's records, where it neither moves the part nor commits records of it, and that
-- tasks' batches agree, where it commits none of theirs.
use Rattle.std.proofs.Common.{◌≡◌, inl, inr, ◌++◌, ◌∷◌, [], true, false, List, Option, None, ap, ◌∙◌, append-nil}
use Rattle.std.specs.List.{cons_option, flat_map}
use Rattle.cw_types.specs.declared.ids.PartKey.{PartKey}
use Rattle.cw_types.specs.declared.ids.Tag.{Tag}
use Rattle.cw_data.specs.declared.entry.Batch.{Batch}
use Rattle.cw_txn.specs.declared.entry.Entry.{Entry}
use Rattle.cw_txn.specs.History.{base_of}
use Rattle.cw_txn.specs.Legal.{is_commit_of}
use Rattle.cw_model.specs.State.{Setting, Cluster}
use Rattle.cw_model.specs.Lookups.{end_or_start}
use Rattle.cw_offset.specs.Compaction.{sets_part}
use Rattle.cw_model.specs.Committed.{is_task, batches_of, tags_of, tag_committing, values_of, committed_records, BatchAgrees}
use Rattle.cw_model.specs.Safe.{YieldsCommitted}
use Rattle.cw_model.specs.FactsLogs.{TasksAgree}
use Rattle.cw_laws.proofs.Lists.{each-weaker}
use Rattle.cw_laws.proofs.EntryPush.{LeavesPart, base-stays, end-stays, tags-push, committed-before}
use Rattle.cw_laws.proofs.Yields.{yields-same}
use Rattle.cw_laws.proofs.Entered.{listed}

-- an entry that has nothing to do with a part
pub record IsBeside (part : PartKey) (e : Entry) : Type 0 where
  pub leaves : LeavesPart part e
  pub unset : sets_part part e ≡ false
  pub none : tag_committing part e ≡ None

pub yields-beside : (setting : Setting) (s : Cluster) (e : Entry) (part : PartKey) → IsBeside part e → YieldsCommitted setting s part → YieldsCommitted setting (listed (e ∷ []) s) part
yields-beside setting s e part beside before =
    let tags : tags_of part (s.entries ++ e ∷ []) ≡ tags_of part s.entries =
    tags-push part s.entries e beside.unset ∙ ap (λ (o : Option Tag). tags_of part s.entries ++ cons_option o []) beside.none ∙ append-nil (tags_of part s.entries) in
    yields-same setting.feeds part (base_of part s.entries) (base_of part (s.entries ++ e ∷ [])) (end_or_start part s.entries) (end_or_start part (s.entries ++ e ∷ []))
    (committed_records part s.entries s.batches) (committed_records part (s.entries ++ e ∷ []) s.batches)
    (base-stays part s.entries e beside.leaves) (end-stays part s.entries e beside.leaves) (ap (flat_map (values_of part s.batches)) tags) before

module _ (setting : Setting) (s : Cluster) (e : Entry) where
  abbrev IsAgreed : List Entry → Batch → Type 0
  IsAgreed entries b = is_task b.tag.tid ≡ true → BatchAgrees setting.feeds entries b

  agree-one : ((tag : Tag) → is_task tag.tid ≡ true → is_commit_of tag e ≡ true → ⊥) → (b : Batch) → IsAgreed s.entries b → IsAgreed (s.entries ++ e ∷ []) b
  agree-one never b old task source committed = elim (committed-before b.tag s.entries e committed) [
    | inl was ↦ old task source was
    | inr now ↦ absurd (never b.tag task now)
  ]

  pub agree-beside : ((tag : Tag) → is_task tag.tid ≡ true → is_commit_of tag e ≡ true → ⊥) → TasksAgree setting.feeds s.entries s.batches → TasksAgree setting.feeds (s.entries ++ e ∷ []) s.batches
  agree-beside never f = each-weaker (IsAgreed s.entries) (IsAgreed (s.entries ++ e ∷ [])) (batches_of s.batches) (agree-one never) f
