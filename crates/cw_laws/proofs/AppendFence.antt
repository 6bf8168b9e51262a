-- A leader that has fenced all older producers of a connector, and says so, keeps all facts: from here on none of them
-- commits (KIP-618).
use Rattle.std.proofs.Common.{◌≡◌, ◌⊎◌, inl, inr, ℕ, ◌<◌, ◌≤◌, ◌^◌, ◌==◌, ◌&&◌, Bool, true, false, not, List, [], ◌∷◌, drop, cond, Option, Some, None, IsSome, is_some, unwrap_or, if◌then◌else◌, refl, sym, subst, ap, ◌∙◌, arith}
use Rattle.std.proofs.lemmas.Bool.{and_parts}
use Rattle.std.specs.Option.{IsSomeAnd}
use Rattle.std.specs.List.{AllByRecursion}
use Rattle.std.specs.Str.{bytes_eq}
use Rattle.std.proofs.Math.Seq.{drop-length}
use Rattle.std.proofs.lemmas.Bool.Decides.{Decides-eqb}
use Rattle.std.proofs.lemmas.Slice.Eq.{bytes_eq-Decides}
use Rattle.cw_types.specs.declared.ids.TaskId.{TaskId}
use Rattle.cw_types.specs.declared.ids.Tid.TheVariants as producer
use Rattle.cw_keys.specs.declared.config_key.ConfigKey.TheVariants as key
use Rattle.cw_keys.specs.declared.config_value.ConfigValue.TheVariants as value
use Rattle.cw_config.specs.declared.records.ConfigRecord.{ConfigRecord}
use Rattle.cw_config.specs.View.{generation_of, task_count_of, fenced_count_of, is_fenced}
use Rattle.cw_config.specs.Acceptance.{end_of}
use Rattle.cw_txn.specs.declared.entry.Entry.{Entry}
use Rattle.cw_model.specs.declared.row.Fencing.{Fencing}
use Rattle.cw_model.specs.State.{Setting, Cluster}
use Rattle.cw_model.specs.Lookups.{row_of, seen, instance_of, last_epoch}
use Rattle.cw_model.specs.Updates.{changes_row, with_configs, stamped, stamp_of, fits_configs}
use Rattle.cw_model.specs.ConfigsAllowed.{IsAllowedConfig}
use Rattle.cw_model.specs.Fences.{HoldsFrom, IsNotOlder, fenced_generation_of}
use Rattle.cw_model.specs.EventsLeading.{append_fence, MayAppendFence, fencing_of, new_fencing, going_on, fence_record, without_fencing}
use Rattle.cw_model.specs.Facts.{AreFacts}
use Rattle.cw_model.specs.FactsRows.{IsSoundRow}
use Rattle.cw_model.specs.FactsProducers.{IsUnfenced, IsToBeFenced}
use Rattle.cw_laws.proofs.Wrappers.{worker-keeps, leader-keeps, configs-keeps, if-keeps}
use Rattle.cw_laws.proofs.Leading.{without_lead-keeps}
use Rattle.cw_laws.proofs.Workers.{sound_at, recede-row}
use Rattle.cw_laws.proofs.Configs.{seen-generation}
use Rattle.cw_laws.proofs.Allowed.{fence-facts}
use Rattle.cw_laws.proofs.AllowedTasks.{name-facts}
use Rattle.cw_laws.proofs.Newest.{seen-set, LastFence, standing-push}
use Rattle.cw_laws.proofs.ConfigViews.{fenced_generation_of-push, fenced_count_of-push}
use Rattle.cw_laws.proofs.ConfigsAppended.{IsConfigFrame, StaysFenced, configs-appended}
use Rattle.cw_laws.proofs.Fencing.{lead-is}

-- ---- the fencing that ends

-- it is of the connector, and of the generation that was read
pub record IsOf (begun fencing : Fencing) : Type 0 where
  pub connector : fencing.connector ≡ begun.connector
  pub generation : fencing.generation ≡ begun.generation

going-choice : (begun own : Fencing) (b : Bool) →
    (bytes_eq own.connector begun.connector && (own.generation == begun.generation)) ≡ b →
    ((Some own ≡ Some (if b then own else begun)) ⊎ ((if b then own else begun) ≡ begun)) ×
    IsOf begun (if b then own else begun)
going-choice begun own true is =
    let parts = and_parts (bytes_eq own.connector begun.connector) (own.generation == begun.generation) is in (
      inl refl,
      record {
        connector = (bytes_eq-Decides own.connector begun.connector).0 parts.0;
        generation = (Decides-eqb own.generation begun.generation).0 parts.1;
      },
    )
going-choice begun own false is = (inr refl, record { connector = refl; generation = refl })

going-is : (begun : Fencing) (own : Option Fencing) →
    ((own ≡ Some (going_on begun own)) ⊎ (going_on begun own ≡ begun)) × IsOf begun (going_on begun own)
going-is begun None = (inr refl, record { connector = refl; generation = refl })
going-is begun (Some own) = going-choice begun own
    (bytes_eq own.connector begun.connector && (own.generation == begun.generation)) refl

some-generation : (o : Option ℕ) (fenced : Bool) → (is_some o && not fenced) ≡ true → o ≡ Some (unwrap_or o 0)
some-generation None fenced pending = cc
some-generation (Some g) fenced pending = refl

newest-is : (o : Option ℕ) (g : ℕ) → IsSomeAnd o (λ n. g ≤ n) → g ≡ unwrap_or o 0 → o ≡ Some g
newest-is None g some same = absurd some
newest-is (Some n) g some same = ap Some (sym same)

some-is : (o : Option ℕ) (g : ℕ) → o ≡ Some g → IsSome o
some-is None g is = cc
some-is (Some n) g is = refl

at-least : (o : Option ℕ) (m g : ℕ) → IsSomeAnd o (λ n. m ≤ n) → o ≡ Some g → m ≤ g
at-least None m g some is = absurd some
at-least (Some n) m g some is = let same : n ≡ g = cc in omega (arith, some, same)

module _ (setting : Setting) (w : ℕ) (name : List ℕ) (s : Cluster) (may : MayAppendFence w name s)
    (f : AreFacts setting s)
    (leads : (row_of w s).lead ≡ Some (record { 0 = last_epoch producer.Lead s }))
    (newest : (fencing_of w name s).generation ≡ unwrap_or (generation_of name s.configs) 0) where
  abbrev fencing : Fencing
  fencing = fencing_of w name s

  abbrev g : ℕ
  g = unwrap_or (generation_of name (seen w s)) 0

  abbrev count : ℕ
  count = task_count_of name (seen w s)

  abbrev fence : ConfigRecord
  fence = record {
    offset = end_of s.configs;
    stamp = stamp_of s;
    key = key.Fencing name;
    value = Some (value.Fencing count);
  }

  is_of : IsOf (new_fencing w name s) fencing
  is_of = (going-is (new_fencing w name s) (row_of w s).fencing).1

  seen_is : generation_of name (seen w s) ≡ Some g
  seen_is = some-generation (generation_of name (seen w s)) (is_fenced name (seen w s)) may.pending

  whole_is : generation_of name s.configs ≡ Some g
  whole_is = newest-is (generation_of name s.configs) g
      (seen-generation name (row_of w s).prefix g s.configs f.logs.configs.allowed
      (subst (λ (o : Option ℕ). IsSomeAnd o (λ n. g ≤ n)) (sym seen_is) (omega arith)))
      (sym is_of.generation ∙ newest)

  -- what was read has the tasks of the newest generation
  counts : task_count_of name s.configs ≡ count
  counts = (seen-set name (row_of w s).prefix s.configs g f.logs.configs.allowed seen_is whole_is).count

  allowed : IsAllowedConfig s.configs fence
  allowed = record {
    rising = omega arith;
    key = (name-facts name s.configs f.logs.configs.allowed).commit (some-is (generation_of name s.configs) g whole_is);
    kind = refl;
    value = (subst (λ (n : ℕ). n < 2 ^ 32) counts (name-facts name s.configs f.logs.configs.allowed).tasks, tt);
    fits = λ some. sym counts;
  }

  -- a producer of the connector that isn't fenced is of the newest generation: each older one had its turn
  not_older : (n : ℕ) (id : TaskId) → IsUnfenced s n id → id.connector ≡ name → (instance_of n s).generation < g → ⊥
  not_older n id u same older = elim (going-is (new_fencing w name s) (row_of w s).fencing).0 [
    | inl keeps ↦
        let less : (instance_of n s).generation < fencing.generation = omega (arith, older, is_of.generation) in
        let turn : IsToBeFenced fencing id.index =
        f.producers.fencing w n fencing id record { leads = leads; keeps = keeps } u
        (same ∙ sym is_of.connector) less in
        omega (arith, turn.later, turn.counted, may.done)
    | inr new ↦
        let counted : id.index < fenced_count_of name s.configs =
        subst (λ (x : List ℕ). id.index < fenced_count_of x s.configs) same (f.producers.counted n id u) in
        omega (arith, counted, may.done, ap (λ (x : Fencing). x.next) new, ap (λ (x : Fencing). x.count) new)
  ]

  of_newest : (n : ℕ) (id : TaskId) → IsUnfenced s n id → id.connector ≡ name → (instance_of n s).generation ≡ g
  of_newest n id u same =
      let fenced : fenced_generation_of name s.configs ≡ Some (instance_of n s).generation =
      subst (λ (x : List ℕ). fenced_generation_of x s.configs ≡ Some (instance_of n s).generation) same
      (f.producers.generation n id u) in
      let within : IsSomeAnd (fenced_generation_of name s.configs) (λ m. (instance_of n s).generation ≤ m) =
      subst (λ (o : Option ℕ). IsSomeAnd o (λ m. (instance_of n s).generation ≤ m)) (sym fenced) (omega arith) in
      let below : (instance_of n s).generation ≤ g =
      at-least (generation_of name s.configs) (instance_of n s).generation g
      (seen-generation name _ (instance_of n s).generation s.configs f.logs.configs.allowed within) whole_is in
      by (instance_of n s).generation g below (not_older n id u same)
    where
      by : (m n : ℕ) → m ≤ n → (m < n → ⊥) → m ≡ n
      by m n below never = omega (arith, below, never)

  stays_generation : (n : ℕ) (id : TaskId) → IsUnfenced s n id → (b : Bool) → bytes_eq name id.connector ≡ b →
      cond b (generation_of id.connector s.configs) (fenced_generation_of id.connector s.configs)
      ≡ Some (instance_of n s).generation
  stays_generation n id u true is =
      let same : name ≡ id.connector = (bytes_eq-Decides name id.connector).0 is in
      subst (λ (x : List ℕ). generation_of x s.configs ≡ Some (instance_of n s).generation) same
      (whole_is ∙ ap Some (sym (of_newest n id u (sym same))))
  stays_generation n id u false is = f.producers.generation n id u

  stays_counted : (n : ℕ) (id : TaskId) → IsUnfenced s n id → (b : Bool) → bytes_eq name id.connector ≡ b →
      id.index < cond b count (fenced_count_of id.connector s.configs)
  stays_counted n id u true is =
      let same : id.connector ≡ name = sym ((bytes_eq-Decides name id.connector).0 is) in
      let fenced : fenced_generation_of name s.configs ≡ Some g =
      subst (λ (x : List ℕ). fenced_generation_of x s.configs ≡ Some (instance_of n s).generation) same
      (f.producers.generation n id u) ∙ ap Some (of_newest n id u same) in
      let counted : id.index < fenced_count_of name s.configs =
      subst (λ (x : List ℕ). id.index < fenced_count_of x s.configs) same (f.producers.counted n id u) in
      omega (arith, counted, (fence-facts name s.configs f.logs.configs.allowed).count g fenced whole_is, counts)
  stays_counted n id u false is = f.producers.counted n id u

  -- nothing is committed behind its mark yet
  holds : (other : List ℕ) (generation mark : ℕ) → LastFence s.configs fence other generation mark →
      HoldsFrom other generation mark s.entries
  holds other generation mark last = record {
    within = omega (arith, last.stamped);
    none_older = subst (λ (m : ℕ). AllByRecursion (IsNotOlder other generation) (drop m s.entries)) last.stamped
        (subst (λ (l : List Entry). AllByRecursion (IsNotOlder other generation) l) (sym (drop-length s.entries)) tt);
  }

  stays : StaysFenced s (fence ∷ [])
  stays = record {
    generation = λ n id u. fenced_generation_of-push id.connector s.configs fence
        ∙ stays_generation n id u (bytes_eq name id.connector) refl;
    counted = λ n id u. subst (λ (k : ℕ). id.index < k) (sym (fenced_count_of-push id.connector s.configs fence))
        (stays_counted n id u (bytes_eq name id.connector) refl);
    fenced = λ other generation mark stands. elim (standing-push s.configs fence other generation mark stands) [
      | inl before ↦ f.safe.fenced other generation mark before
      | inr last ↦ holds other generation mark last
    ];
  }

  pub fence-done : fits_configs (fence ∷ []) s ≡ true →
      AreFacts setting (changes_row w without_fencing (with_configs (fence ∷ []) s))
  fence-done fits =
      let t : Cluster = with_configs (fence ∷ []) s in
      let frame : IsConfigFrame s (fence ∷ []) =
      record { allowed = (allowed, tt); some = omega arith; stamps = (omega arith, tt); fits = fits } in
      let h : AreFacts setting t = configs-appended setting s (fence ∷ []) frame f stays in
      let sound : IsSoundRow t (row_of w t) = sound_at t h.rows w in
      recede-row setting w without_fencing t
      record {
        member = record { incarnation = refl; phase = refl; assigned = refl; revoked = refl };
        prefix = omega arith;
        fences = λ lead fencing a b. absurd (cc);
      }
      record { prefix = sound.prefix; lead = sound.lead; fencing = tt; round = sound.round } h

pub append_fence-keeps : (setting : Setting) (w : ℕ) (name : List ℕ) (s : Cluster) → MayAppendFence w name s →
    AreFacts setting s → AreFacts setting (append_fence w name s).1
append_fence-keeps setting w name s may f = worker-keeps (AreFacts setting) w s _ f (λ live.
    leader-keeps (AreFacts setting) w s _ (without_lead-keeps setting w s f) (λ own.
    if-keeps (AreFacts setting) ((fencing_of w name s).generation == unwrap_or (generation_of name s.configs) 0) _ _
    (λ newest.
    configs-keeps (AreFacts setting) s (stamped (fence_record name (task_count_of name (seen w s))) s) _ _ f (λ fits.
    fence-done setting w name s may f (lead-is (row_of w s).lead (last_epoch producer.Lead s) may.leads own)
    ((Decides-eqb (fencing_of w name s).generation (unwrap_or (generation_of name s.configs) 0)).0 newest) fits))
    (λ older. f)))
