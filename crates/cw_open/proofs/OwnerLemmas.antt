-- Tasks that wait for their connector's commit, part by part and task by task.
use Rattle.std.proofs.Common.{◌≡◌, ◌↔◌, ◌⊎◌, inl, inr, ⊎_elim, ◌==◌, ℕ, ◌+◌, ◌<◌, ◌≤◌, Bool, true, false, not, cond, IsTrue, List, [], ◌∷◌, ◌++◌, length, take, get_or, Contains, Option, Some, None, IsSome, is_some, unwrap_or, refl, sym, ap, subst, ◌∙◌, arith}
use Rattle.std.specs.Option.{option_map_or}
use Rattle.std.specs.List.{list_all, range_with_len}
use Rattle.std.specs.BTreeMap.{BTreeMap, is_at}
use Rattle.std.proofs.lemmas.Bool.Decides.{nat_tests}
use Rattle.std.proofs.lemmas.List.{take_all, take_more}
use Rattle.std.proofs.lemmas.List.Elements.{Contains-push, Contains-push_cases, Contains-append_left, Contains-get_or}
use Rattle.cw_types.specs.declared.ids.PartKey.{PartKey}
use Rattle.cw_types.specs.declared.ids.TaskId.{TaskId}
use Rattle.cw_types.specs.Same.{same_part, part_order}
use Rattle.cw_types.proofs.SameLemmas.{part_at, same_part-Decides}
use Rattle.cw_config.specs.declared.records.ConfigRecord.{ConfigRecord}
use Rattle.cw_config.specs.View.{Properties, deferred_record, deferred_of}
use Rattle.cw_config.proofs.Ranges.{all_more}
use Rattle.cw_plugin.specs.Tasks.{parts_at}
use Rattle.cw_plugin.specs.Parts.{task_of}
use Rattle.cw_plugin.specs.declared.task.TaskSpec.{TaskSpec}
use Rattle.cw_model.specs.ConfigsAllowed.{AreAllowedConfigs, waiting_parts}
use Rattle.cw_laws.proofs.AllowedTasks.{waits-below, waiting-facts}
use Rattle.cw_open.specs.WaitingTasks.{AreReady, owner_of, is_others, IsFree, Gets, TakesPart, TakesParts, TakesTask}
use Rattle.cw_open.proofs.Steps.{refuted, never, always}
use Rattle.cw_laws.proofs.QuietItems.{some-is}
use Rattle.cw_laws.proofs.Ticks.{some-of}

-- ---- a part

same-number : (a b : ℕ) → not (a == b) ≡ false → a ≡ b
same-number a b e = grind (arith, nat_tests)

not-other : (a b : ℕ) → a ≡ b → not (a == b) ≡ false
not-other a b e = grind (arith, nat_tests)

one-some : (a b : ℕ) → Some a ≡ Some b → a ≡ b
one-some a b e = cc

none-others : (o : Option ℕ) (index : ℕ) → is_others o index ≡ false → (k : ℕ) → o ≡ Some k → k ≡ index
none-others None index e k is = absurd (let clash : ◌≡◌ {A = Option ℕ} None (Some k) = is in cc)
none-others (Some owner) index e k is = sym (one-some owner k is) ∙ same-number owner index e

others-none : (o : Option ℕ) (index : ℕ) → ((k : ℕ) → o ≡ Some k → k ≡ index) → is_others o index ≡ false
others-none None index free = refl
others-none (Some owner) index free = not-other owner index (free owner refl)

module _ (part : PartKey) (index : ℕ) (old new : BTreeMap PartKey ℕ) where
  pub part_not : is_others (owner_of old part) index ≡ true → TakesPart part index old new false
  part_not is = record {
    fits = never (λ free. let clash : true ≡ false = sym is ∙ others-none (owner_of old part) index free in cc);
    taken = λ e. cc;
  }

  module _ (free : IsFree old index part) (rows : (q : PartKey) → owner_of new q ≡ cond (is_at (part_order part) q) (Some index) (owner_of old q)) where
    owned : (q : PartKey) (k : ℕ) (b : Bool) → same_part part q ≡ b → owner_of new q ≡ cond b (Some index) (owner_of old q)
        → (owner_of new q ≡ Some k) ↔ ((owner_of old q ≡ Some k) ⊎ ((part ≡ q) × (k ≡ index)))
    owned q k true same row =
        let is : part ≡ q = (same_part-Decides part q).0 same in (
          λ e. inr (is, sym (one-some index k (sym row ∙ e))),
          λ either. row ∙ ap Some (sym (⊎_elim (λ (e : owner_of old q ≡ Some k). free k (ap (owner_of old) is ∙ e)) (λ (h : (part ≡ q) × (k ≡ index)). h.1) either)),
        )
    owned q k false same row = (
      λ e. inl (sym row ∙ e),
      λ either. row ∙ ⊎_elim (λ (e : owner_of old q ≡ Some k). e)
          (λ (h : (part ≡ q) × (k ≡ index)). absurd (let clash : true ≡ false = sym ((same_part-Decides part q).1 h.0) ∙ same in cc)) either,
    )

    pub gets_part : Gets (λ q. part ≡ q) index old new
    gets_part q k = owned q k (same_part part q) refl (rows q ∙ ap (λ (b : Bool). cond b (Some index) (owner_of old q)) (part_at part q))

  pub part_taken : is_others (owner_of old part) index ≡ false
      → ((q : PartKey) → owner_of new q ≡ cond (is_at (part_order part) q) (Some index) (owner_of old q)) → TakesPart part index old new true
  part_taken is rows =
      let free : IsFree old index part = none-others (owner_of old part) index is in
      record { fits = always free; taken = λ e. gets_part free rows }

-- ---- the parts of a task

-- what was walked of them
pub record WalkedParts (parts : List PartKey) (index : ℕ) (old : BTreeMap PartKey ℕ) (at : ℕ) (now : BTreeMap PartKey ℕ) : Type 0 where
  pub free : (part : PartKey) → Contains (take at parts) part → IsFree old index part
  pub gets : Gets (Contains (take at parts)) index old now

no-part : (part : PartKey) → Contains [] part → ⊥
no-part part there = omega (arith, there.1)

pub parts_begin : (parts : List PartKey) (index : ℕ) (old : BTreeMap PartKey ℕ) → WalkedParts parts index old 0 old
parts_begin parts index old = record {
  free = λ part there. absurd (no-part part there);
  gets = λ q k. (λ e. inl e, λ either. ⊎_elim (λ (e : owner_of old q ≡ Some k). e) (λ (h : Contains [] q × (k ≡ index)). absurd (no-part q h.0)) either);
}

module _ (parts : List PartKey) (index : ℕ) (old : BTreeMap PartKey ℕ) (at : ℕ) (now : BTreeMap PartKey ℕ) (walked : WalkedParts parts index old at now) (x : PartKey) (within : at < length parts) (is : x ≡ get_or parts at x) where
  longer : take (at + 1) parts ≡ take at parts ++ x ∷ []
  longer = take_more parts at x within ∙ ap (λ (y : PartKey). take at parts ++ y ∷ []) (sym is)

  in-longer : (q : PartKey) → Contains (take (at + 1) parts) q ↔ (Contains (take at parts) q ⊎ (x ≡ q))
  in-longer q = (
    λ there. Contains-push_cases (take at parts) x q (subst (λ (l : List PartKey). Contains l q) longer there),
    λ either. subst (λ (l : List PartKey). Contains l q) (sym longer)
        (⊎_elim (λ (there : Contains (take at parts) q). Contains-append_left (take at parts) (x ∷ []) q there)
        (λ (same : x ≡ q). subst (Contains (take at parts ++ x ∷ [])) same (Contains-push (take at parts) x)) either),
  )

  -- its owner is this task where it was so before
  was-free : IsFree now index x → IsFree old index x
  was-free free k e = free k ((walked.gets x k).1 (inl e))

  now-free : IsFree old index x → IsFree now index x
  now-free free k e = ⊎_elim (λ (was : owner_of old x ≡ Some k). free k was) (λ (h : Contains (take at parts) x × (k ≡ index)). h.1) ((walked.gets x k).0 e)

  pub parts_more : (new : BTreeMap PartKey ℕ) (b : Bool) → TakesPart x index now new b → b ≡ true → WalkedParts parts index old (at + 1) new
  parts_more new b step told = record {
    free = λ part there. ⊎_elim (λ (before : Contains (take at parts) part). walked.free part before)
        (λ (same : x ≡ part). subst (IsFree old index) same (was-free (step.fits.0 told))) ((in-longer part).0 there);
    gets = λ q k. (
      λ e. ⊎_elim
          (λ (was : owner_of now q ≡ Some k). ⊎_elim (λ (first : owner_of old q ≡ Some k). inl first)
          (λ (h : Contains (take at parts) q × (k ≡ index)). inr ((in-longer q).1 (inl h.0), h.1)) ((walked.gets q k).0 was))
          (λ (h : (x ≡ q) × (k ≡ index)). inr ((in-longer q).1 (inr h.0), h.1))
          ((step.taken told q k).0 e),
      λ either. ⊎_elim
          (λ (first : owner_of old q ≡ Some k). (step.taken told q k).1 (inl ((walked.gets q k).1 (inl first))))
          (λ (h : Contains (take (at + 1) parts) q × (k ≡ index)). ⊎_elim
          (λ (before : Contains (take at parts) q). (step.taken told q k).1 (inl ((walked.gets q k).1 (inr (before, h.1)))))
          (λ (same : x ≡ q). (step.taken told q k).1 (inr (same, h.1))) ((in-longer q).0 h.0))
          either,
    );
  }

  pub parts_not : (new last : BTreeMap PartKey ℕ) (b : Bool) → TakesPart x index now new b → b ≡ false → TakesParts parts index old last false
  parts_not new last b step not = record {
    fits = never (λ free. refuted b step.fits not (now-free (free x (subst (Contains parts) (sym is) (Contains-get_or parts at x within)))));
    taken = λ e. cc;
  }

pub parts_taken : (parts : List PartKey) (index : ℕ) (old : BTreeMap PartKey ℕ) (at : ℕ) (now : BTreeMap PartKey ℕ) → WalkedParts parts index old at now → length parts ≤ at → TakesParts parts index old now true
parts_taken parts index old at now walked all = record {
  fits = always (subst (λ (l : List PartKey). (part : PartKey) → Contains l part → IsFree old index part) (take_all at parts all) walked.free);
  taken = λ e. subst (λ (l : List PartKey). Gets (Contains l) index old now) (take_all at parts all) walked.gets;
}

-- a task without a part
pub no_parts : (index : ℕ) (old : BTreeMap PartKey ℕ) → TakesParts [] index old old true
no_parts index old = record {
  fits = always (λ part there. absurd (no-part part there));
  taken = λ e q k. (λ e. inl e, λ either. ⊎_elim (λ (e : owner_of old q ≡ Some k). e) (λ (h : Contains [] q × (k ≡ index)). absurd (no-part q h.0)) either);
}

-- ---- a task

none-waits : (o : Option Properties) → o ≡ None → IsSome o → ⊥
none-waits None none some = cc
none-waits (Some props) none some = cc

pub parts_some : (connector : List ℕ) (props : Properties) (task : TaskSpec) → task_of connector props ≡ Some task → parts_at connector props ≡ task.parts
unfolding parts_at
parts_some connector props task is = ap (λ (o : Option TaskSpec). option_map_or (λ (t : TaskSpec). t.parts) o []) is

pub parts_none : (connector : List ℕ) (props : Properties) → task_of connector props ≡ None → parts_at connector props ≡ []
unfolding parts_at
parts_none connector props is = ap (λ (o : Option TaskSpec). option_map_or (λ (t : TaskSpec). t.parts) o []) is

module _ (before : List ConfigRecord) (id : TaskId) (old new : BTreeMap PartKey ℕ) where
  pub task_not : deferred_of id before ≡ None → TakesTask before id old new false
  task_not none = record {
    fits = never (λ free. none-waits (deferred_of id before) none free.waits);
    taken = λ e. cc;
  }

  pub task_by : (props : Properties) → deferred_of id before ≡ Some props → (b : Bool) → TakesParts (parts_at id.connector props) id.index old new b → TakesTask before id old new b
  task_by props waits b step =
      let same : parts_at id.connector props ≡ waiting_parts before id.connector id.index =
      ap (λ (o : Option Properties). parts_at id.connector (unwrap_or o [])) (sym waits) in
      let here : TakesParts (waiting_parts before id.connector id.index) id.index old new b =
      subst (λ (l : List PartKey). TakesParts l id.index old new b) same step in
      record {
        fits = (
          λ told. record { waits = subst (λ (o : Option Properties). IsSome o) (sym waits) refl; free = here.fits.0 told },
          λ free. here.fits.1 free.free,
        );
        taken = here.taken;
      }

-- ---- all tasks of a commit

abbrev pub id_of : List ℕ → ℕ → TaskId
id_of name index = record { connector = name; index = index }

abbrev pub is_waiting : List ConfigRecord → List ℕ → ℕ → Bool
is_waiting before name index = is_some (deferred_record (id_of name index) before)

-- what was walked of them
pub record WalkedTasks (before : List ConfigRecord) (name : List ℕ) (at : ℕ) (now : BTreeMap PartKey ℕ) : Type 0 where
  pub tasks : list_all (is_waiting before name) (range_with_len 0 at) ≡ true
  pub own : (q : PartKey) (k : ℕ) → (owner_of now q ≡ Some k) ↔ ((k < at) × Contains (waiting_parts before name k) q)

pub tasks_begin : (before : List ConfigRecord) (name : List ℕ) (now : BTreeMap PartKey ℕ) → ((q : PartKey) → owner_of now q ≡ None) → WalkedTasks before name 0 now
tasks_begin before name now empty = record {
  tasks = refl;
  own = λ q k. (
    λ e. absurd (let clash : ◌≡◌ {A = Option ℕ} None (Some k) = sym (empty q) ∙ e in cc),
    λ h. absurd (let below : k < 0 = h.0 in omega arith),
  );
}

at-or-below : (k at : ℕ) → k < at + 1 → (k < at) ⊎ (k ≡ at)
at-or-below k at below = grind arith

module _ (before : List ConfigRecord) (allowed : AreAllowedConfigs [] before) (name : List ℕ) (at : ℕ) (now : BTreeMap PartKey ℕ) (walked : WalkedTasks before name at now) where
  pub tasks_more : (new : BTreeMap PartKey ℕ) (b : Bool) → TakesTask before (id_of name at) now new b → b ≡ true → WalkedTasks before name (at + 1) new
  tasks_more new b step told = record {
    tasks = all_more (is_waiting before name) at walked.tasks
        ((waiting-facts (id_of name at) before allowed).some ∙ some-is (deferred_of (id_of name at) before) (step.fits.0 told).waits);
    own = λ q k. (
      λ e. ⊎_elim
          (λ (was : owner_of now q ≡ Some k). let h : (k < at) × Contains (waiting_parts before name k) q = (walked.own q k).0 was in
          let below : k < at + 1 = omega (arith, h.0) in (below, h.1))
          (λ (h : Contains (waiting_parts before name at) q × (k ≡ at)). let below : k < at + 1 = omega (arith, h.1) in
          (below, subst (λ (n : ℕ). Contains (waiting_parts before name n) q) (sym h.1) h.0))
          ((step.taken told q k).0 e),
      λ h. ⊎_elim
          (λ (below : k < at). (step.taken told q k).1 (inl ((walked.own q k).1 (below, h.1))))
          (λ (same : k ≡ at). (step.taken told q k).1 (inr (subst (λ (n : ℕ). Contains (waiting_parts before name n) q) same h.1, same)))
          (at-or-below k at h.0),
    );
  }

  pub tasks_not : (count : ℕ) → at < count → (new : BTreeMap PartKey ℕ) (b : Bool) → TakesTask before (id_of name at) now new b → b ≡ false
      → IsTrue false ↔ AreReady before name count
  tasks_not count within new b step not = never (λ ready. refuted b step.fits not (record {
    waits = some-of (deferred_of (id_of name at) before)
        (sym (waiting-facts (id_of name at) before allowed).some ∙ waits-below before (id_of name at) count ready.tasks within);
    free = λ part there k e.
        let h : (k < at) × Contains (waiting_parts before name k) part = (walked.own part k).0 e in
        absurd (ready.apart k at h.0 within part h.1 there);
  }))

  pub tasks_ready : (count : ℕ) → at ≡ count → IsTrue true ↔ AreReady before name count
  tasks_ready count all = subst (λ (n : ℕ). IsTrue true ↔ AreReady before name n) all (always (record {
    tasks = walked.tasks;
    apart = λ i j less below part first second.
        let one : i ≡ j = one-some i j (sym ((walked.own part i).1 (let lower : i < at = omega (arith, less, below) in lower, first)) ∙ (walked.own part j).1 (below, second)) in
        omega (arith, one, less);
  }))
