-- A task's commit of the one batch of its transaction may be written: the part's records go on by just that batch.
use Rattle.std.proofs.Common.{◌≡◌, inl, inr, ℕ, ◌<◌, ◌≤◌, ◌^◌, ◌++◌, ◌∷◌, [], ◌&&◌, ◌||◌, Bool, true, false, cond, List, Option, Some, None, length, refl, sym, ap, subst, ◌∙◌, arith, append-nil}
use Rattle.std.specs.Option.{option_map_or}
use Rattle.std.specs.List.{AllByRecursion, filter, flat_map, cons_option}
use Rattle.std.proofs.lemmas.List.Concat.{flat_map-append}
use Rattle.std.proofs.lemmas.List.Elements.{All-cons, All-nil}
use Rattle.std.proofs.lemmas.Map.Keys.{IsDistinct-cons}
use Rattle.cw_types.specs.declared.ids.Tid.{Tid}
use Rattle.cw_types.specs.declared.ids.Tid.TheVariants as producer
use Rattle.cw_types.specs.declared.ids.Tag.{Tag}
use Rattle.cw_types.specs.declared.ids.TaskId.{TaskId}
use Rattle.cw_types.specs.declared.ids.PartKey.{PartKey}
use Rattle.cw_types.specs.declared.ids.Span.{Span}
use Rattle.cw_types.specs.Same.{same_tag, same_part}
use Rattle.cw_types.proofs.SameLemmas.{same_part-Decides, same_tag-flip}
use Rattle.cw_bytes.specs.Spelling.{IsTag, IsSpan}
use Rattle.cw_feed.specs.Yield.{Yield}
use Rattle.cw_data.specs.declared.entry.Batch.{Batch}
use Rattle.cw_txn.specs.declared.entry.Entry.{Entry}
use Rattle.cw_txn.specs.declared.entry.Entry.TheVariants.{Commit}
use Rattle.cw_txn.specs.Allowed.{IsSourceOf, CommitsOwn, IsAllowedBehind}
use Rattle.cw_txn.specs.Body.{AreEntries}
use Rattle.cw_txn.specs.History.{base_of, history, SpansChain, GoesOn}
use Rattle.cw_txn.specs.Legal.{epoch_of, is_committed}
use Rattle.cw_txn.proofs.DistinctParts.{none_distinct}
use Rattle.cw_model.specs.State.{Setting, Cluster}
use Rattle.cw_model.specs.Lookups.{end_or_start, task_connector}
use Rattle.cw_model.specs.Committed.{is_task, batches_of, is_batch_of, tags_of, values_of, committed_records, BatchAgrees}
use Rattle.cw_model.specs.Fences.{StandingFence}
use Rattle.cw_model.specs.Safe.{HasBatch, YieldsCommitted}
use Rattle.cw_model.specs.FactsLogs.{TasksAgree}
use Rattle.cw_laws.proofs.EntryPush.{commit-base, commit-end, commit-leaves, tags-push, committed-before}
use Rattle.cw_laws.proofs.BatchFinds.{find-first, each-passing, filter-and}
use Rattle.cw_laws.proofs.Yields.{yields-joined, yields-same}
use Rattle.cw_laws.proofs.Unmoved.{IsBeside, yields-beside}
use Rattle.cw_laws.proofs.Entered.{MayStand, EntryFacts, listed}

-- what is known of a batch that a task commits
pub record MayCommitBatch (setting : Setting) (s : Cluster) (id : TaskId) (tag : Tag) (generation : ℕ) (batch : Batch) : Type 0 where
  pub tid : tag.tid ≡ producer.Task id
  pub last : tag.epoch.0 ≡ epoch_of tag.tid s.entries
  pub new : is_committed tag s.entries ≡ false
  pub only : filter (λ b. same_tag tag b.tag) (batches_of s.batches) ≡ batch ∷ []
  pub own : IsSourceOf id.connector batch.part
  pub begins : batch.from ≡ end_or_start batch.part s.entries
  pub some : batch.from < batch.to
  pub yields : Yield setting.feeds batch.part batch.from batch.to batch.values
  pub newer : (older mark : ℕ) → StandingFence s.configs id.connector older mark → older ≤ generation
  pub tag_fits : IsTag tag
  pub generation_fits : generation < 2 ^ 64
  pub span_fits : IsSpan (record { part = batch.part; from = batch.from; to = batch.to })

each-both : {X : Type 0} (P Q R : X → Type 0) (xs : List X) → ((x : X) → P x → Q x → R x) → AllByRecursion P xs → AllByRecursion Q xs → AllByRecursion R xs
each-both P Q R [] so a b = tt
each-both P Q R (x ∷ xs) so a b = (so x a.0 b.0, each-both P Q R xs so a.1 b.1)

module _ (setting : Setting) (s : Cluster) (id : TaskId) (tag : Tag) (generation : ℕ) (batch : Batch) (may : MayCommitBatch setting s id tag generation batch) where
  abbrev span : Span
  span = record { part = batch.part; from = batch.from; to = batch.to }

  abbrev e : Entry
  e = Commit tag generation (span ∷ [])

  its_own : same_part batch.part batch.part ≡ true
  its_own = (same_part-Decides batch.part batch.part).1 refl

  a-task : is_task tag.tid ≡ true
  a-task = ap is_task may.tid

  -- the one batch of the transaction is the one of the part, too
  of_part : filter (is_batch_of tag batch.part) (batches_of s.batches) ≡ batch ∷ []
  of_part =
      filter-and (λ (b : Batch). same_tag tag b.tag) (λ (b : Batch). same_part batch.part b.part) (batches_of s.batches)
      ∙ ap (filter (λ (b : Batch). same_part batch.part b.part)) may.only
      ∙ ap (λ (b : Bool). cond b (batch ∷ []) []) its_own

  values : values_of batch.part s.batches tag ≡ batch.values
  values = ap (λ (o : Option Batch). option_map_or (λ (b : Batch). b.values) o []) (find-first (is_batch_of tag batch.part) (batches_of s.batches) batch [] of_part)

  allowed : IsAllowedBehind s.entries e
  allowed = record {
    legal = (may.last, may.new);
    some = omega arith;
    few = omega arith;
    distinct = IsDistinct-cons same_part batch.part [] tt none_distinct;
    own = own;
  } where
    own : CommitsOwn tag.tid tag.number (length s.entries) (batch.part ∷ [])
    own = subst (λ (tid : Tid). CommitsOwn tid tag.number (length s.entries) (batch.part ∷ [])) (sym may.tid)
        (All-cons (IsSourceOf id.connector) batch.part [] may.own (All-nil (IsSourceOf id.connector)))

  chains : (part : PartKey) → SpansChain part (history part s.entries) (span ∷ [])
  chains part = (λ same. subst (λ (p : PartKey). GoesOn (history p s.entries) span) (sym ((same_part-Decides part batch.part).0 same)) (may.begins, may.some), tt)

  backed : is_task tag.tid ≡ true → AllByRecursion (HasBatch s.batches tag) (span ∷ [])
  backed task = (record { batch = batch; only = of_part; begins = refl; ends = refl }, tt)

  tags-own : tags_of batch.part (s.entries ++ e ∷ []) ≡ tags_of batch.part s.entries ++ tag ∷ []
  tags-own =
      tags-push batch.part s.entries e refl
      ∙ ap (λ (b : Bool). tags_of batch.part s.entries ++ cons_option (cond (b && (same_part batch.part batch.part || false)) (Some tag) None) []) a-task
      ∙ ap (λ (b : Bool). tags_of batch.part s.entries ++ cons_option (cond (b || false) (Some tag) None) []) its_own

  records-own : committed_records batch.part (s.entries ++ e ∷ []) s.batches ≡ committed_records batch.part s.entries s.batches ++ batch.values
  records-own =
      ap (flat_map (values_of batch.part s.batches)) tags-own
      ∙ flat_map-append (values_of batch.part s.batches) (tags_of batch.part s.entries) (tag ∷ [])
      ∙ ap (λ (l : List (List ℕ)). committed_records batch.part s.entries s.batches ++ l) (append-nil (values_of batch.part s.batches tag) ∙ values)

  yields-own : YieldsCommitted setting s batch.part → YieldsCommitted setting (listed (e ∷ []) s) batch.part
  yields-own before = yields-same setting.feeds batch.part (base_of batch.part s.entries) (base_of batch.part (s.entries ++ e ∷ [])) batch.to (end_or_start batch.part (s.entries ++ e ∷ []))
      (committed_records batch.part s.entries s.batches ++ batch.values) (committed_records batch.part (s.entries ++ e ∷ []) s.batches)
      (commit-base batch.part s.entries tag generation span its_own) (commit-end batch.part s.entries tag generation span its_own) records-own
      (yields-joined setting.feeds batch.part (base_of batch.part s.entries) batch.from batch.to (committed_records batch.part s.entries s.batches) batch.values
      (subst (λ (n : ℕ). Yield setting.feeds batch.part (base_of batch.part s.entries) n (committed_records batch.part s.entries s.batches)) (sym may.begins) before) may.yields)

  beside : (part : PartKey) → same_part part batch.part ≡ false → IsBeside part e
  beside part other = record {
    leaves = commit-leaves part tag generation span other;
    unset = refl;
    none =
        let not_its : (is_task tag.tid && (same_part part batch.part || false)) ≡ false = ap (λ b. b && (same_part part batch.part || false)) a-task ∙ ap (λ b. b || false) other in
        ap (λ (b : Bool). cond b (Some tag) None) not_its;
  }

  yields-by : (b : Bool) (part : PartKey) → same_part part batch.part ≡ b → YieldsCommitted setting s part → YieldsCommitted setting (listed (e ∷ []) s) part
  yields-by true part same before =
      let one : part ≡ batch.part = (same_part-Decides part batch.part).0 same in
      subst (λ (p : PartKey). YieldsCommitted setting (listed (e ∷ []) s) p) (sym one) (yields-own (subst (λ (p : PartKey). YieldsCommitted setting s p) one before))
  yields-by false part other before = yields-beside setting s e part (beside part other) before

  abbrev IsAgreed : List Entry → Batch → Type 0
  IsAgreed entries b = is_task b.tag.tid ≡ true → BatchAgrees setting.feeds entries b

  abbrev IsYield : Batch → Type 0
  IsYield b = Yield setting.feeds b.part b.from b.to b.values

  agree-one : (b : Batch) → IsAgreed s.entries b → (same_tag tag b.tag ≡ true → IsYield b) → IsAgreed (s.entries ++ e ∷ []) b
  agree-one b old own task source committed = elim (committed-before b.tag s.entries e committed) [
    | inl was ↦ old task source was
    | inr now ↦ own (same_tag-flip tag b.tag ∙ now)
  ]

  agree : TasksAgree setting.feeds s.entries s.batches → TasksAgree setting.feeds (s.entries ++ e ∷ []) s.batches
  agree before = each-both (IsAgreed s.entries) (λ (b : Batch). same_tag tag b.tag ≡ true → IsYield b) (IsAgreed (s.entries ++ e ∷ [])) (batches_of s.batches) agree-one before
      (each-passing (λ (b : Batch). same_tag tag b.tag) IsYield (batches_of s.batches) (subst (λ (l : List Batch). AllByRecursion IsYield l) (sym may.only) (may.yields, tt)))

  newer : (name : List ℕ) (older mark : ℕ) → StandingFence s.configs name older mark → task_connector tag.tid ≡ Some name → older ≤ generation
  newer name older mark stands task =
      let is : Some id.connector ≡ Some name = sym (ap task_connector may.tid) ∙ task in
      let one : name ≡ id.connector = cc in
      may.newer older mark (subst (λ (n : List ℕ). StandingFence s.configs n older mark) one stands)

  pub task_commit-written : AreEntries (e ∷ [])
  task_commit-written = record { some = omega arith; list = (omega arith, ((may.tag_fits, may.generation_fits, (omega arith, (may.span_fits, tt))), tt)) }

  pub task_commit-stands : EntryFacts setting s → MayStand setting s e
  task_commit-stands f = record {
    allowed = allowed;
    chains = chains;
    backed = backed;
    newer = newer;
    yields = λ agreed part source. yields-by (same_part part batch.part) part refl (f.exact.yields agreed part source);
    agree = λ agreed. agree (f.agree agreed);
  }
