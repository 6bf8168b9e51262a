-- A sink's task that stores how far it handed out a topic keeps all facts.
use Rattle.std.proofs.Common.{◌≡◌, ◌≢◌, ℕ, ◌+◌, ◌<◌, ◌^◌, ◌∷◌, [], ◌||◌, not, Bool, true, false, List, Option, Some, None, cond, option_map, unwrap_or, length, slice_get, refl, sym, ap, subst, ◌∙◌, arith, append-nil, length-append}
use Rattle.std.proofs.lemmas.Bool.{not-true}
use Rattle.std.specs.Option.{IsSomeAnd, option_map_or}
use Rattle.std.specs.List.{AllByRecursion, slice_index_or}
use Rattle.std.proofs.lemmas.Option.{slice_get-get_or}
use Rattle.std.proofs.lemmas.List.Elements.{All-cons, All-nil}
use Rattle.std.proofs.lemmas.Map.Keys.{IsDistinct-cons}
use Rattle.cw_types.specs.declared.ids.Tid.{Tid}
use Rattle.cw_types.specs.declared.ids.Tid.TheVariants as producer
use Rattle.cw_types.specs.declared.ids.Tag.{Tag}
use Rattle.cw_types.specs.declared.ids.Epoch.{Epoch}
use Rattle.cw_types.specs.declared.ids.TaskId.{TaskId}
use Rattle.cw_types.specs.declared.ids.PartKey.{PartKey}
use Rattle.cw_types.specs.declared.ids.PartKey.TheVariants.{Raw}
use Rattle.cw_types.specs.Same.{same_part}
use Rattle.cw_types.proofs.SameLemmas.{same_part-Decides}
use Rattle.cw_bytes.specs.Spelling.{IsPart}
use Rattle.cw_plugin.specs.Classes.{row_of}
use Rattle.cw_plugin.specs.declared.task.TaskSpec.{TaskSpec}
use Rattle.cw_txn.specs.declared.entry.Entry.{Entry}
use Rattle.cw_txn.specs.declared.entry.Entry.TheVariants.{Set}
use Rattle.cw_txn.specs.declared.entry.SetOffset.{SetOffset}
use Rattle.cw_txn.specs.Allowed.{IsSinkOf, SetsOwn, IsAllowedBehind}
use Rattle.cw_txn.specs.Body.{AreEntries}
use Rattle.cw_txn.specs.Legal.{epoch_of}
use Rattle.cw_txn.specs.History.{history}
use Rattle.cw_txn.proofs.Walks.{epoch_of_le, history-push}
use Rattle.cw_txn.proofs.DistinctParts.{none_distinct}
use Rattle.cw_model.specs.declared.instance.Cut.{Cut}
use Rattle.cw_model.specs.declared.instance.Instance.{Instance}
use Rattle.cw_model.specs.declared.instance.InstancePhase.TheVariants as phase
use Rattle.cw_model.specs.State.{Setting, Cluster}
use Rattle.cw_model.specs.Phases.{has_epoch}
use Rattle.cw_model.specs.Lookups.{instance_of, no_instance, list_end, end_or_start}
use Rattle.cw_model.specs.Updates.{changes_instance, fits_entries, tid_of}
use Rattle.cw_model.specs.Tasks.{parts_of, tag_of, cut_of, polling_from}
use Rattle.cw_model.specs.EventsSinks.{put_sink, sink_offset, MayPutSink}
use Rattle.cw_model.specs.Facts.{AreFacts}
use Rattle.cw_model.specs.FactsRows.{IsSoundInstance, HandsOut}
use Rattle.cw_model.specs.FactsProducers.{Writes, IsBelow, HasUsed, commit_tags, commits_up_to, batches_up_to}
use Rattle.cw_laws.proofs.Wrappers.{instance-keeps, entries-keeps, producer-keeps}
use Rattle.cw_laws.proofs.Lists.{each-at}
use Rattle.cw_laws.proofs.Init.{lives-within}
use Rattle.cw_laws.proofs.EntryPush.{commit_tags-push, set-leaves}
use Rattle.cw_laws.proofs.Others.{other_facts}
use Rattle.cw_laws.proofs.Entered.{MayStand, entry_facts, others-behind, behind}
use Rattle.cw_laws.proofs.SetStands.{set-stands}
use Rattle.cw_laws.proofs.Written.{list-short}
use Rattle.cw_laws.proofs.Ends.{each-get}
use Rattle.cw_laws.proofs.AtWork.{IsAtWork, parts-spec, at-work}
use Rattle.cw_laws.proofs.PartMoves.{part_taken, MovesEnd, moved-keeps}
use Rattle.cw_data.proofs.Lists.{slice_get-map}

-- what is handed out, of a sink that hands out
record Delivers (j : Instance) : Type 0 where
  begins : slice_get j.positions (cut_of j).turn ≡ Some (cut_of j).from
  some : (cut_of j).from < (cut_of j).to
  fits : (cut_of j).to < 2 ^ 64
  within : (cut_of j).turn < length (parts_of j)

delivers : (s : Cluster) (j : Instance) → j.phase ≡ phase.Delivered → IsSoundInstance s j → Delivers j
delivers s j is sound = at j.cut refl (sound.delivered is) (sound.cut (rw is refl)) where
  at : (o : Option Cut) → j.cut ≡ o → IsSomeAnd o (HandsOut j) → IsSomeAnd o (λ cut. cut.turn < length (parts_of j)) → Delivers j
  at None none out turn = absurd out
  at (Some cut) has out turn =
      let here : cut_of j ≡ cut = ap (λ (o : Option Cut). unwrap_or o (record { turn = 0; from = 0; to = 0 })) has in
      record {
        begins = subst (λ (c : Cut). slice_get j.positions c.turn ≡ Some c.from) (sym here) out.begins;
        some = subst (λ (c : Cut). c.from < c.to) (sym here) out.some;
        fits = subst (λ (c : Cut). c.to < 2 ^ 64) (sym here) out.fits;
        within = subst (λ (c : Cut). c.turn < length (parts_of j)) (sym here) turn;
      }

abbrev set_to : PartKey → ℕ → SetOffset
set_to part to = record { part = part; to = Some to }

module _ (setting : Setting) (i : ℕ) (s : Cluster) (id : TaskId) (w : IsAtWork s i id) (delivered : (instance_of i s).phase ≡ phase.Delivered) (f : AreFacts setting s) where
  abbrev own : Instance
  own = instance_of i s

  abbrev to : ℕ
  to = (cut_of own).to

  abbrev part : PartKey
  part = part_taken own

  abbrev e : Entry
  e = sink_offset own to

  sound : IsSoundInstance s own
  sound = each-at (IsSoundInstance s) s.instances i no_instance w.unfenced.last.is_task.within f.rows.instances

  out : Delivers own
  out = delivers s own delivered sound

  tid-is : (tag_of own).tid ≡ producer.Task id
  tid-is = ap tid_of w.unfenced.last.is_task.item

  epoch-is : (tag_of own).epoch.0 ≡ epoch_of (tag_of own).tid s.entries
  epoch-is = ap (λ (o : Option Epoch). (unwrap_or o (record { 0 = 0 })).0) w.unfenced.last.under ∙ ap (λ (tid : Tid). epoch_of tid s.entries) (sym tid-is)

  part-get : slice_get w.task.spec.parts (cut_of own).turn ≡ Some part
  part-get = subst (λ (parts : List PartKey). slice_get parts (cut_of own).turn ≡ Some part) (parts-spec id own w.task) (get-at (parts_of own) (cut_of own).turn out.within) where
    get-at : (parts : List PartKey) (turn : ℕ) → turn < length parts → slice_get parts turn ≡ Some (slice_index_or parts turn (Raw 0))
    get-at parts turn within = slice_get-get_or parts turn (Raw 0) within

  is_of_sink : (row_of w.task.spec.class).is_source ≡ false
  is_of_sink = not-true (row_of w.task.spec.class).is_source
      (subst (λ (o : Option TaskSpec). option_map_or (λ (t : TaskSpec). not (row_of t.class).is_source) o false ≡ true) w.task.has (sound.sink delivered))

  its_own : IsSinkOf id.connector part
  its_own = each-get (IsSinkOf id.connector) w.task.spec.parts (cut_of own).turn part part-get (w.task.is.sink is_of_sink)

  allowed : IsAllowedBehind s.entries e
  allowed = record {
    legal = epoch-is;
    distinct = IsDistinct-cons same_part part [] tt none_distinct;
    own = subst (λ (tid : Tid). SetsOwn tid (part ∷ [])) (sym tid-is) (All-cons (IsSinkOf id.connector) part [] its_own (All-nil (IsSinkOf id.connector)));
  }

  few : list_end s.entries + 17 < 2 ^ 64
  few = list-short setting s f.logs

  written : AreEntries (e ∷ [])
  written = subst (λ (tid : Tid). AreEntries (Set tid (tag_of own).epoch (set_to part to ∷ []) ∷ [])) (sym tid-is) record {
    some = omega arith;
    list = (
      omega arith,
      (
        (
          (w.name, w.index),
          omega (arith, epoch-is, epoch_of_le (tag_of own).tid s.entries, few),
          (omega arith, ((each-get IsPart w.task.spec.parts (cut_of own).turn part part-get (w.task.is.named w.name), out.fits), tt)),
        ),
        tt,
      ),
    );
  }

  stands : MayStand setting s e
  stands = set-stands setting s (tag_of own).tid (tag_of own).epoch (set_to part to ∷ []) allowed (entry_facts setting s (other_facts setting s f))

  part_itself : same_part part part ≡ true
  part_itself = (same_part-Decides part part).1 refl

  ends : end_or_start part s.entries ≡ (cut_of own).from
  ends =
      let at : slice_get own.positions (cut_of own).turn ≡ option_map (λ part. end_or_start part s.entries) (slice_get (parts_of own) (cut_of own).turn) =
      ap (λ (ps : List ℕ). slice_get ps (cut_of own).turn) (f.producers.positions i id w.unfenced (rw delivered refl)) ∙ slice_get-map (λ part. end_or_start part s.entries) (parts_of own) (cut_of own).turn in
      let there : slice_get (parts_of own) (cut_of own).turn ≡ Some part = slice_get-get_or (parts_of own) (cut_of own).turn (Raw 0) out.within in
      same (end_or_start part s.entries) (cut_of own).from (sym (at ∙ ap (option_map (λ part. end_or_start part s.entries)) there) ∙ out.begins)
    where
      same : (a b : ℕ) → Some a ≡ Some b → a ≡ b
      same a b e = cc

  moves : MovesEnd s own e to
  moves = record {
    bumps = λ tid. refl;
    within = out.within;
    leaves = λ q other. set-leaves q (tag_of own).tid (tag_of own).epoch (set_to part to ∷ []) (ap (λ b. b || false) other);
    moves = ap (λ h. unwrap_or h.end 0) (history-push part s.entries e) ∙ ap (λ (b : Bool). unwrap_or (cond b (record { base = to; end = Some to }) (history part s.entries)).end 0) part_itself;
    further = omega (arith, ends, out.some);
  }

  tags-same : commit_tags (behind e s) ≡ commit_tags s
  tags-same = commit_tags-push s.entries e ∙ append-nil (commit_tags s)

  used : (id' : TaskId) (epoch' : ℕ) → Writes s i id' epoch' → HasUsed (behind e s) id' epoch' own.number own.number
  used id' epoch' o =
      let before : HasUsed s id' epoch' own.number own.number = up-to own delivered (f.producers.numbers i id' epoch' o (rw delivered refl)) in
      record {
        batches = before.batches;
        commits = subst (λ (tags : List Tag). AllByRecursion (IsBelow id' epoch' own.number) tags) (sym tags-same) before.commits;
      }
    where
      up-to : (j : Instance) → j.phase ≡ phase.Delivered → HasUsed s id' epoch' (batches_up_to j) (commits_up_to j) → HasUsed s id' epoch' j.number j.number
      up-to j is u = rw is at u

  others-commit : (n : ℕ) → n ≢ i → (id' : TaskId) (epoch' : ℕ) → Writes s n id' epoch' → has_epoch (instance_of n s).phase ≡ true →
      AllByRecursion (IsBelow id' epoch' (commits_up_to (instance_of n s))) (commit_tags (behind e s))
  others-commit n ne id' epoch' o has = subst (λ (tags : List Tag). AllByRecursion (IsBelow id' epoch' (commits_up_to (instance_of n s))) tags) (sym tags-same)
      (f.producers.numbers n id' epoch' o has).commits

  pub put_sink-done : fits_entries (e ∷ []) s ≡ true → AreFacts setting (changes_instance i (polling_from phase.Polling to) (behind e s))
  put_sink-done room = moved-keeps setting i s id e to own.number w f moves (rw delivered refl) (rw delivered refl)
      (others-behind setting e s stands written room (other_facts setting s f)) (omega (arith, sound.number, length-append s.entries (e ∷ []))) used others-commit

pub put_sink-keeps : (setting : Setting) (i to : ℕ) (s : Cluster) → MayPutSink i to s → AreFacts setting s → AreFacts setting (put_sink i to s).1
put_sink-keeps setting i to s may f = instance-keeps (AreFacts setting) i s _ f (λ lives. producer-keeps (AreFacts setting) i s _ f (λ current.
    entries-keeps (AreFacts setting) s (sink_offset (instance_of i s) to ∷ []) _ _ f (λ room.
    done (at-work s i (lives-within i s lives) (each-at (IsSoundInstance s) s.instances i no_instance (lives-within i s lives) f.rows.instances) (rw may.delivered refl) current) room)))
  where
    done : ((id : TaskId) × IsAtWork s i id) → fits_entries (sink_offset (instance_of i s) to ∷ []) s ≡ true →
        AreFacts setting (changes_instance i (polling_from phase.Polling to) (behind (sink_offset (instance_of i s) to) s))
    done w room = subst (λ (n : ℕ). AreFacts setting (changes_instance i (polling_from phase.Polling n) (behind (sink_offset (instance_of i s) n) s))) (sym may.as_far)
        (put_sink-done setting i s w.0 w.1 may.delivered f (subst (λ (n : ℕ). fits_entries (sink_offset (instance_of i s) n ∷ []) s ≡ true) may.as_far room))
