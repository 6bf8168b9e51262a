-- One batch more in the data log, of a transaction that isn't committed: all facts but those of producers stay.
use Rattle.std.proofs.Common.{◌≡◌, ℕ, zero, suc, ◌-◌, ◌++◌, ◌∷◌, [], ◌&&◌, Bool, true, false, not, cond, List, Option, Some, None, length, drop, refl, sym, ap, ◌∙◌, subst, arith}
use Rattle.std.specs.Option.{option_map_or, option_or}
use Rattle.std.specs.List.{AllByRecursion, filter, filter_map, cons_option, find, flat_map, after_last, suffix_len, list_any}
use Rattle.std.proofs.lemmas.List.Folds.{find-append}
use Rattle.cw_types.specs.declared.ids.Tag.{Tag}
use Rattle.cw_types.specs.declared.ids.PartKey.{PartKey}
use Rattle.cw_types.specs.declared.ids.Span.{Span}
use Rattle.cw_types.specs.Same.{same_tag, same_part}
use Rattle.cw_data.specs.Body.{IsEntry as IsDataEntry}
use Rattle.cw_data.specs.declared.entry.Batch.{Batch}
use Rattle.cw_data.specs.declared.entry.DataEntry.{DataEntry}
use Rattle.cw_data.specs.declared.entry.DataEntry.TheVariants as data_entry
use Rattle.cw_txn.specs.declared.entry.Entry.{Entry}
use Rattle.cw_txn.specs.declared.entry.Entry.TheVariants.{Bump, Commit, Set}
use Rattle.cw_txn.specs.History.{base_of}
use Rattle.cw_model.specs.State.{Setting, Cluster}
use Rattle.cw_model.specs.Lookups.{row_of, end_or_start}
use Rattle.cw_model.specs.Updates.{with_data, fits_data}
use Rattle.cw_offset.specs.Compaction.{sets_part}
use Rattle.cw_model.specs.Committed.{is_task, batches_of, is_batch_of, is_span_of, tags_of, tag_committing, values_of, committed_records, BatchAgrees}
use Rattle.cw_model.specs.Allowed.{IsAllowedData}
use Rattle.cw_model.specs.Safe.{IsSafe, HasBatch, HasBatches}
use Rattle.cw_model.specs.FactsLogs.{LogFacts}
use Rattle.cw_model.specs.FactsRows.{IsSoundRow, IsSoundInstance}
use Rattle.cw_model.specs.FactsProducers.{commit_tag}
use Rattle.cw_laws.proofs.Lists.{each-push, each-weaker, each_from-push}
use Rattle.cw_laws.proofs.Rows.{same_member, group-stays}
use Rattle.cw_laws.proofs.Sound.{HasMore, sound_row-grows, sound_instance-grows}
use Rattle.cw_laws.proofs.Disks.{data-fits}
use Rattle.cw_laws.proofs.Grows.{grows-data, journal-stays}
use Rattle.cw_laws.proofs.DataPush.{batches-push, filter-push}
use Rattle.cw_laws.proofs.Yields.{yields-same}
use Rattle.cw_laws.proofs.Others.{OtherFacts}
use Rattle.cw_offset.proofs.Replays.{option_or-none}

-- ---- what is so of each committed transaction is so of those of a part

module _ (P : Tag → Type 0) where
  drop-commits : (n : ℕ) (entries : List Entry) → AllByRecursion P (filter_map commit_tag entries) → AllByRecursion P (filter_map commit_tag (drop n entries))
  drop-commits zero entries each = each
  drop-commits (suc n) [] each = each
  drop-commits (suc n) (Bump tid ∷ entries) each = drop-commits n entries each
  drop-commits (suc n) (Set tid epoch list ∷ entries) each = drop-commits n entries each
  drop-commits (suc n) (Commit tag generation spans ∷ entries) each = drop-commits n entries each.1

  kept : (b : Bool) (tag : Tag) (rest : List Tag) → P tag → AllByRecursion P rest → AllByRecursion P (cons_option (cond b (Some tag) None) rest)
  kept true tag rest here each = (here, each)
  kept false tag rest here each = each

  of_part : (part : PartKey) (entries : List Entry) → AllByRecursion P (filter_map commit_tag entries) → AllByRecursion P (filter_map (tag_committing part) entries)
  of_part part [] each = each
  of_part part (Bump tid ∷ entries) each = of_part part entries each
  of_part part (Set tid epoch list ∷ entries) each = of_part part entries each
  of_part part (Commit tag generation spans ∷ entries) each =
      kept (is_task tag.tid && list_any (is_span_of part) spans) tag (filter_map (tag_committing part) entries) each.0 (of_part part entries each.1)

  pub tags-committed : (part : PartKey) (entries : List Entry) → AllByRecursion P (filter_map commit_tag entries) → AllByRecursion P (tags_of part entries)
  tags-committed part entries each =
      of_part part (after_last (sets_part part) entries)
      (drop-commits (length entries - suffix_len (λ e. not (sets_part part e)) entries) entries each)

flat_map-agree : {X Y : Type 0} (f g : X → List Y) (xs : List X) → AllByRecursion (λ x. f x ≡ g x) xs → flat_map f xs ≡ flat_map g xs
flat_map-agree f g [] each = refl
flat_map-agree f g (x ∷ xs) each = ap (λ l. l ++ flat_map f xs) each.0 ∙ ap (λ l. g x ++ l) (flat_map-agree f g xs each.1)

-- ---- the batch

pub record MayWrite (setting : Setting) (s : Cluster) (batch : Batch) : Type 0 where
  -- its transaction isn't committed
  pub «open» : AllByRecursion (λ tag. same_tag tag batch.tag ≡ false) (filter_map commit_tag s.entries)
  pub allowed : IsAllowedData s.entries s.batches (data_entry.Batch batch)
  pub agrees : setting.agreed ≡ true → is_task batch.tag.tid ≡ true → BatchAgrees setting.feeds s.entries batch
  pub written : IsDataEntry (data_entry.Batch batch)

module _ (setting : Setting) (s : Cluster) (batch : Batch) (may : MayWrite setting s batch) where
  abbrev log : List DataEntry
  log = s.batches ++ data_entry.Batch batch ∷ []

  abbrev t : Cluster
  t = with_data (data_entry.Batch batch) s

  abbrev IsOther : Tag → Type 0
  IsOther tag = same_tag tag batch.tag ≡ false

  fails : (tag : Tag) (part : PartKey) → IsOther tag → is_batch_of tag part batch ≡ false
  fails tag part other = ap (λ b. b && same_part part batch.part) other

  values-same : (part : PartKey) (tag : Tag) → IsOther tag → values_of part log tag ≡ values_of part s.batches tag
  values-same part tag other =
      let found : find (is_batch_of tag part) (batches_of log) ≡ find (is_batch_of tag part) (batches_of s.batches) =
      ap (find (is_batch_of tag part)) (batches-push s.batches batch)
      ∙ find-append (is_batch_of tag part) (batches_of s.batches) (batch ∷ [])
      ∙ ap (λ (b : Bool). option_or (find (is_batch_of tag part) (batches_of s.batches)) (cond b (Some batch) None)) (fails tag part other)
      ∙ option_or-none (find (is_batch_of tag part) (batches_of s.batches)) in
      ap (λ (o : Option Batch). option_map_or (λ (b : Batch). b.values) o []) found

  records-same : (part : PartKey) → committed_records part s.entries log ≡ committed_records part s.entries s.batches
  records-same part = flat_map-agree (values_of part log) (values_of part s.batches) (tags_of part s.entries)
      (each-weaker IsOther (λ tag. values_of part log tag ≡ values_of part s.batches tag) (tags_of part s.entries) (values-same part) (tags-committed IsOther part s.entries may.«open»))

  has-same : (tag : Tag) → IsOther tag → (span : Span) → HasBatch s.batches tag span → HasBatch log tag span
  has-same tag other span h = record {
    batch = h.batch;
    only = ap (filter (is_batch_of tag span.part)) (batches-push s.batches batch)
        ∙ filter-push (is_batch_of tag span.part) (batches_of s.batches) batch (fails tag span.part other) ∙ h.only;
    begins = h.begins;
    ends = h.ends;
  }

  backed-same : (entries : List Entry) → AllByRecursion IsOther (filter_map commit_tag entries) → AllByRecursion (HasBatches s.batches) entries → AllByRecursion (HasBatches log) entries
  backed-same [] others each = tt
  backed-same (Bump tid ∷ entries) others each = (tt, backed-same entries others each.1)
  backed-same (Set tid epoch list ∷ entries) others each = (tt, backed-same entries others each.1)
  backed-same (Commit tag generation spans ∷ entries) others each = (
    λ task. each-weaker (HasBatch s.batches tag) (HasBatch log tag) spans (has-same tag others.0) (each.0 task),
    backed-same entries others.1 each.1,
  )

  safe-data : IsSafe setting s → IsSafe setting t
  safe-data f = record {
    disjoint = f.disjoint;
    fenced = f.fenced;
    exact = record {
      chains = f.exact.chains;
      yields = λ agreed part source. yields-same setting.feeds part (base_of part s.entries) (base_of part s.entries) (end_or_start part s.entries) (end_or_start part s.entries)
          (committed_records part s.entries s.batches) (committed_records part s.entries log) refl refl (records-same part) (f.exact.yields agreed part source);
    };
    backed = record { legal = f.backed.legal; batches = backed-same s.entries may.«open» f.backed.batches };
  }

  abbrev IsAgreed : Batch → Type 0
  IsAgreed b = is_task b.tag.tid ≡ true → BatchAgrees setting.feeds s.entries b

  logs-data : fits_data (data_entry.Batch batch) s ≡ true → LogFacts setting s → LogFacts setting t
  logs-data room f = record {
    configs_read = f.configs_read;
    statuses_read = f.statuses_read;
    configs = f.configs;
    statuses = f.statuses;
    entries = f.entries;
    all_entries = f.all_entries;
    offsets = f.offsets;
    batches = each_from-push (IsAllowedData s.entries) [] s.batches (data_entry.Batch batch) f.batches may.allowed;
    agree = λ agreed. subst (λ (bs : List Batch). AllByRecursion IsAgreed bs) (sym (batches-push s.batches batch)) (each-push IsAgreed (batches_of s.batches) batch (may.agrees agreed) (f.agree agreed));
    short = f.short;
    disks = data-fits (data_entry.Batch batch) s room f.disks;
    written = record {
      config = f.written.config;
      offsets = f.written.offsets;
      status = f.written.status;
      txn = f.written.txn;
      batches = each-push IsDataEntry s.batches (data_entry.Batch batch) may.written f.written.batches;
    };
  }

  pub others-data : fits_data (data_entry.Batch batch) s ≡ true → OtherFacts setting s → OtherFacts setting t
  others-data room f =
      let more : HasMore s t = record { rows = omega arith; epochs = omega arith; entries = omega arith } in
      record {
        safe = safe-data f.safe;
        group = group-stays s t record { rows = λ w. same_member (row_of w s); held = λ w x holds. holds } f.group;
        logs = logs-data room f.logs;
        rows = record {
          few = f.rows.few;
          rows = each-weaker (IsSoundRow s) (IsSoundRow t) s.rows (sound_row-grows s t more) f.rows.rows;
          instances = each-weaker (IsSoundInstance s) (IsSoundInstance t) s.instances (sound_instance-grows s t more) f.rows.instances;
        };
        journal = journal-stays setting s t (grows-data (data_entry.Batch batch) s) f.journal;
      }
