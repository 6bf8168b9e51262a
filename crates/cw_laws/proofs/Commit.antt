-- A task that commits its transaction keeps all facts.
use Rattle.std.proofs.Common.{◌≡◌, ◌≢◌, ℕ, ◌+◌, ◌<◌, ◌^◌, ◌++◌, ◌∷◌, [], true, List, Some, option_map, slice_get, refl, sym, ap, subst, ◌∙◌, arith, length-append}
use Rattle.std.specs.List.{AllByRecursion}
use Rattle.cw_types.specs.declared.ids.Tid.TheVariants as producer
use Rattle.cw_types.specs.declared.ids.Tag.{Tag}
use Rattle.cw_types.specs.declared.ids.TaskId.{TaskId}
use Rattle.cw_types.specs.declared.ids.Span.{Span}
use Rattle.cw_types.specs.Same.{same_part}
use Rattle.cw_types.proofs.SameLemmas.{same_part-Decides}
use Rattle.cw_bytes.specs.Spelling.{IsPart}
use Rattle.cw_group.specs.Group.{next}
use Rattle.cw_txn.specs.declared.entry.Entry.{Entry}
use Rattle.cw_txn.specs.declared.entry.Entry.TheVariants.{Commit}
use Rattle.cw_txn.specs.Allowed.{IsSourceOf}
use Rattle.cw_txn.specs.Body.{AreEntries}
use Rattle.cw_txn.proofs.Walks.{epoch_of_le}
use Rattle.cw_model.specs.declared.instance.Instance.{Instance}
use Rattle.cw_model.specs.declared.instance.InstancePhase.TheVariants as phase
use Rattle.cw_model.specs.State.{Setting, Cluster}
use Rattle.cw_model.specs.Phases.{has_epoch}
use Rattle.cw_model.specs.Lookups.{instance_of, no_instance, last_epoch, list_end, end_or_start}
use Rattle.cw_model.specs.Updates.{changes_instance, fits_entries}
use Rattle.cw_model.specs.Tasks.{parts_of, count_of, tag_of, cut_of, span_of}
use Rattle.cw_model.specs.EventsSources.{commit, committed_to, MayCommit}
use Rattle.cw_model.specs.Committed.{batches_of}
use Rattle.cw_model.specs.Facts.{AreFacts}
use Rattle.cw_model.specs.FactsRows.{IsSoundInstance}
use Rattle.cw_model.specs.FactsProducers.{Writes, IsBelow, HasUsed, HasItsBatch, commit_tags, commits_up_to, batches_up_to, batch_tags, tag_in_hand}
use Rattle.cw_laws.proofs.Wrappers.{instance-keeps, entries-keeps, producer-keeps}
use Rattle.cw_laws.proofs.Lists.{each-at, each-push, each-weaker}
use Rattle.cw_laws.proofs.Init.{lives-within}
use Rattle.cw_laws.proofs.EntryPush.{commit_tags-push, commit-leaves, commit-end}
use Rattle.cw_laws.proofs.Others.{other_facts}
use Rattle.cw_laws.proofs.Entered.{MayStand, entry_facts, others-behind, behind}
use Rattle.cw_laws.proofs.TaskCommits.{MayCommitBatch, task_commit-stands, task_commit-written}
use Rattle.cw_laws.proofs.OlderFences.{standing-older}
use Rattle.cw_laws.proofs.Written.{list-short}
use Rattle.cw_laws.proofs.Numbers.{end-fits, end_place-fits}
use Rattle.cw_laws.proofs.Ends.{each-get}
use Rattle.cw_laws.proofs.AtWork.{IsAtWork, at-work, tag_of-is, others-tag, spec-get, spec-source, spec-count}
use Rattle.cw_laws.proofs.Below.{not_committed}
use Rattle.cw_laws.proofs.InHand.{part-is, to-is, span-is, turn-within}
use Rattle.cw_laws.proofs.PartMoves.{part_taken, MovesEnd, moved-keeps}
use Rattle.cw_data.proofs.Lists.{slice_get-map}

module _ (setting : Setting) (i : ℕ) (s : Cluster) (id : TaskId) (w : IsAtWork s i id) (may : MayCommit i s) (f : AreFacts setting s) where
  abbrev own : Instance
  own = instance_of i s

  abbrev e : Entry
  e = Commit (tag_of own) own.generation (span_of own ∷ [])

  abbrev epoch : ℕ
  epoch = last_epoch (producer.Task id) s

  abbrev tag : Tag
  tag = tag_in_hand id epoch own

  sound : IsSoundInstance s own
  sound = each-at (IsSoundInstance s) s.instances i no_instance w.unfenced.last.is_task.within f.rows.instances

  its : HasItsBatch setting.feeds (batches_of s.batches) tag own
  its = f.producers.one_batch i id epoch w.unfenced.last (rw may refl)

  -- the entry, told by the batch
  tag-is : tag_of own ≡ tag
  tag-is = tag_of-is s i id epoch w.unfenced.last

  abbrev span : Span
  span = record { part = its.batch.part; from = its.batch.from; to = its.batch.to }

  e-is : e ≡ Commit tag own.generation (span ∷ [])
  e-is = ap (λ (t : Tag). Commit t own.generation (span_of own ∷ [])) tag-is ∙ ap (λ (sp : Span). Commit tag own.generation (sp ∷ [])) (span-is setting.feeds (batches_of s.batches) tag own its)

  -- the part is one of the task's, and a source's
  spec_part : slice_get w.task.spec.parts its.cut.turn ≡ Some its.batch.part
  spec_part = spec-get id own w.task its.cut.turn its.batch.part its.part

  begins : its.batch.from ≡ end_or_start its.batch.part s.entries
  begins =
      let at : slice_get own.positions its.cut.turn ≡ option_map (λ part. end_or_start part s.entries) (slice_get (parts_of own) its.cut.turn) =
      ap (λ (ps : List ℕ). slice_get ps its.cut.turn) (f.producers.positions i id w.unfenced (rw may refl)) ∙ slice_get-map (λ part. end_or_start part s.entries) (parts_of own) its.cut.turn in
      same its.batch.from (end_or_start its.batch.part s.entries) (sym its.begins ∙ at ∙ ap (option_map (λ part. end_or_start part s.entries)) its.part)
    where
      same : (a b : ℕ) → Some a ≡ Some b → a ≡ b
      same a b e = cc

  commits-below : AllByRecursion (IsBelow id epoch own.number) (commit_tags s)
  commits-below = subst (λ (n : ℕ). AllByRecursion (IsBelow id epoch n) (commit_tags s)) (up-to own may) (f.producers.numbers i id epoch w.unfenced.last (rw may refl)).commits where
    up-to : (j : Instance) → j.phase ≡ phase.Offered → commits_up_to j ≡ j.number
    up-to j is = rw is refl

  few : list_end s.entries + 17 < 2 ^ 64
  few = list-short setting s f.logs

  to-fits : its.batch.to < 2 ^ 64
  to-fits = end_place-fits setting.feeds its.batch.part (count_of own) its.batch.to f.logs.short (spec-count id own w.task) its.whole

  may_commit : MayCommitBatch setting s id tag own.generation its.batch
  may_commit = record {
    tid = refl;
    last = refl;
    new = not_committed id epoch own.number s.entries commits-below;
    only = its.only;
    own = each-get (IsSourceOf id.connector) w.task.spec.parts its.cut.turn its.batch.part spec_part (w.task.is.source (spec-source id own w.task (sound.source (rw may refl))));
    begins = begins;
    some = its.some;
    yields = its.yields;
    newer = λ older mark stands. standing-older id.connector older mark own.generation s.configs f.logs.configs.allowed stands (f.producers.generation i id w.unfenced);
    tag_fits = ((w.name, w.index), omega (arith, epoch_of_le (producer.Task id) s.entries, few), omega (arith, sound.number, few));
    generation_fits = omega (arith, sound.generation, end-fits setting s f.logs);
    span_fits = (each-get IsPart w.task.spec.parts its.cut.turn its.batch.part spec_part (w.task.is.named w.name), omega (arith, its.some, to-fits), to-fits);
  }

  stands : MayStand setting s e
  stands = subst (λ (x : Entry). MayStand setting s x) (sym e-is) (task_commit-stands setting s id tag own.generation its.batch may_commit (entry_facts setting s (other_facts setting s f)))

  written : AreEntries (e ∷ [])
  written = subst (λ (x : Entry). AreEntries (x ∷ [])) (sym e-is) (task_commit-written setting s id tag own.generation its.batch may_commit)

  part_itself : same_part (part_taken own) (part_taken own) ≡ true
  part_itself = (same_part-Decides (part_taken own) (part_taken own)).1 refl

  moves : MovesEnd s own e (cut_of own).to
  moves = record {
    bumps = λ tid. refl;
    within = turn-within setting.feeds (batches_of s.batches) tag own its;
    leaves = λ q other. commit-leaves q (tag_of own) own.generation (span_of own) other;
    moves = commit-end (part_taken own) s.entries (tag_of own) own.generation (span_of own) part_itself;
    further = omega (arith, ap (λ part. end_or_start part s.entries) (part-is setting.feeds (batches_of s.batches) tag own its), begins, its.some, to-is setting.feeds (batches_of s.batches) tag own its);
  }

  next-is : next own.number ≡ own.number + 1
  next-is = omega (arith, sound.number, few)

  tags-behind : commit_tags (behind e s) ≡ commit_tags s ++ tag_of own ∷ []
  tags-behind = commit_tags-push s.entries e

  used : (id' : TaskId) (epoch' : ℕ) → Writes s i id' epoch' → HasUsed (behind e s) id' epoch' (next own.number) (next own.number)
  used id' epoch' o =
      let before : HasUsed s id' epoch' (own.number + 1) own.number = up-to own may (f.producers.numbers i id' epoch' o (rw may refl)) in
      record {
        batches = subst (λ (n : ℕ). AllByRecursion (IsBelow id' epoch' n) (batch_tags s)) (sym next-is) before.batches;
        commits = subst (λ (tags : List Tag). AllByRecursion (IsBelow id' epoch' (next own.number)) tags) (sym tags-behind)
            (each-push (IsBelow id' epoch' (next own.number)) (commit_tags s) (tag_of own) (λ tid of. omega (arith, next-is))
            (each-weaker (IsBelow id' epoch' own.number) (IsBelow id' epoch' (next own.number)) (commit_tags s) (λ t below tid of. omega (arith, below tid of, next-is)) before.commits));
      }
    where
      up-to : (j : Instance) → j.phase ≡ phase.Offered → HasUsed s id' epoch' (batches_up_to j) (commits_up_to j) → HasUsed s id' epoch' (j.number + 1) j.number
      up-to j is u = rw is at u

  others-commit : (n : ℕ) → n ≢ i → (id' : TaskId) (epoch' : ℕ) → Writes s n id' epoch' → has_epoch (instance_of n s).phase ≡ true →
      AllByRecursion (IsBelow id' epoch' (commits_up_to (instance_of n s))) (commit_tags (behind e s))
  others-commit n ne id' epoch' o has = subst (λ (tags : List Tag). AllByRecursion (IsBelow id' epoch' (commits_up_to (instance_of n s))) tags) (sym tags-behind)
      (each-push (IsBelow id' epoch' (commits_up_to (instance_of n s))) (commit_tags s) (tag_of own)
      (λ tid of. absurd (others-tag setting s f.producers n i ne id' id epoch' epoch o w.unfenced.last tid of))
      (f.producers.numbers n id' epoch' o has).commits)

  pub commit-done : fits_entries (e ∷ []) s ≡ true → AreFacts setting (changes_instance i (committed_to (cut_of own).to) (behind e s))
  commit-done room = moved-keeps setting i s id e (cut_of own).to (next own.number) w f moves (rw may refl) (rw may refl)
      (others-behind setting e s stands written room (other_facts setting s f)) (omega (arith, next-is, sound.number, length-append s.entries (e ∷ []))) used others-commit

pub commit-keeps : (setting : Setting) (i : ℕ) (s : Cluster) → MayCommit i s → AreFacts setting s → AreFacts setting (commit i s).1
commit-keeps setting i s may f = instance-keeps (AreFacts setting) i s _ f (λ lives. producer-keeps (AreFacts setting) i s _ f (λ current.
    entries-keeps (AreFacts setting) s (Commit (tag_of (instance_of i s)) (instance_of i s).generation (span_of (instance_of i s) ∷ []) ∷ []) _ _ f (λ room.
    done (at-work s i (lives-within i s lives) (each-at (IsSoundInstance s) s.instances i no_instance (lives-within i s lives) f.rows.instances) (rw may refl) current) room)))
  where
    done : ((id : TaskId) × IsAtWork s i id) → fits_entries (Commit (tag_of (instance_of i s)) (instance_of i s).generation (span_of (instance_of i s) ∷ []) ∷ []) s ≡ true →
        AreFacts setting (changes_instance i (committed_to (cut_of (instance_of i s)).to) (behind (Commit (tag_of (instance_of i s)) (instance_of i s).generation (span_of (instance_of i s) ∷ [])) s))
    done w room = commit-done setting i s w.0 w.1 may f room
