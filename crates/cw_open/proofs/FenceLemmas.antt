-- The fences of a config log, record by record.
use Rattle.std.proofs.Common.{◌≡◌, ◌↔◌, ◌⊎◌, inl, inr, ⊎_elim, ℕ, ◌+◌, ◌<◌, ◌≤◌, Bool, true, false, ◌&&◌, cond, IsTrue, is_some, List, [], ◌∷◌, ◌++◌, length, take, get_or, Contains, All, Option, Some, None, unwrap_or, refl, sym, ap, subst, ◌∙◌, append_assoc, arith}
use Rattle.std.specs.List.{filter_map, cons_option}
use Rattle.std.specs.Str.{bytes_eq}
use Rattle.std.specs.BTreeMap.{BTreeMap, get, is_at}
use Rattle.std.proofs.lemmas.List.{take_all, take_more}
use Rattle.std.proofs.lemmas.List.Elements.{filter_map-append, Contains-push, Contains-push_cases, Contains-append_left, All-contains, All-contains_itself, All-weaker}
use Rattle.std.proofs.lemmas.Slice.Eq.{bytes_eq-Decides}
use Rattle.std.proofs.lemmas.Map.Text.{is_eq-slice_cmp}
use Rattle.cw_types.specs.Order.{name_cmp}
use Rattle.cw_bytes.specs.declared.applied.Applied.{Applied}
use Rattle.cw_keys.specs.declared.config_key.ConfigKey.{ConfigKey}
use Rattle.cw_keys.specs.declared.config_key.ConfigKey.TheVariants as key
use Rattle.cw_config.specs.declared.records.ConfigRecord.{ConfigRecord}
use Rattle.cw_config.specs.Records.{same_key, has_key}
use Rattle.cw_config.specs.View.{generation_of}
use Rattle.cw_config.specs.Compaction.{config_in, configs_in}
use Rattle.cw_model.specs.Fences.{StandingFence}
use Rattle.cw_laws.proofs.ConfigViews.{generation_of-push}
use Rattle.cw_laws.proofs.Newest.{LastFence, standing-push, standing-append, standing-last}
use Rattle.cw_laws.proofs.Reopens.{configs-push}
use Rattle.cw_open.specs.declared.fences.Fence.{Fence}
use Rattle.cw_open.specs.declared.fences.FenceTable.{FenceTable}
use Rattle.cw_open.specs.Standing.{fences_at, AreFences, Notes, Fences}

-- ---- names

name_at : (a b : List ℕ) → is_at (name_cmp a) b ≡ bytes_eq a b
name_at a b = is_eq-slice_cmp a b

-- ---- one record more, of which kind it is

-- no fence and no commit
module _ (records : List ConfigRecord) (r : ConfigRecord) (table : FenceTable) (kept : AreFences table records) where
  standing-other : ((name : List ℕ) → has_key (key.Fencing name) r ≡ false) → (name : List ℕ) (g m : ℕ) → StandingFence (records ++ r ∷ []) name g m → StandingFence records name g m
  standing-other apart name g m f = ⊎_elim
      (λ (was : StandingFence records name g m). was)
      (λ (last : LastFence records r name g m). absurd (let clash : true ≡ false = sym last.fences ∙ apart name in cc))
      (standing-push records r name g m f)

  pub with_other : ((name : List ℕ) → has_key (key.Commit name) r ≡ false) → ((name : List ℕ) → has_key (key.Fencing name) r ≡ false) → AreFences table (records ++ r ∷ [])
  with_other no_commit no_fence = record {
    generations = λ name. kept.generations name
        ∙ sym (generation_of-push name records r ∙ ap (λ (b : Bool). cond b (Some r.offset) (generation_of name records)) (no_commit name));
    standing = λ name fence. (
      λ there. standing-append records (r ∷ []) name fence.generation fence.mark ((kept.standing name fence).0 there),
      λ f. (kept.standing name fence).1 (standing-other no_fence name fence.generation fence.mark f),
    );
  }

  -- a commit
  pub with_commit : (name : List ℕ) → r.key ≡ key.Commit name → (new : FenceTable) → new.standing ≡ table.standing
      → ((q : List ℕ) → get name_cmp new.generations q ≡ cond (is_at (name_cmp name) q) (Some r.offset) (get name_cmp table.generations q)) → AreFences new (records ++ r ∷ [])
  with_commit name is new same rows = record {
    generations = λ q. rows q
        ∙ ap (λ (b : Bool). cond b (Some r.offset) (get name_cmp table.generations q)) (name_at name q)
        ∙ ap (λ (o : Option ℕ). cond (bytes_eq name q) (Some r.offset) o) (kept.generations q)
        ∙ sym (generation_of-push q records r ∙ ap (λ (k : ConfigKey). cond (same_key k (key.Commit q)) (Some r.offset) (generation_of q records)) is);
    standing = λ q fence. (
      λ there. standing-append records (r ∷ []) q fence.generation fence.mark
          ((kept.standing q fence).0 (subst (λ (t : BTreeMap (List ℕ) (List Fence)). Contains (fences_at t q) fence) same there)),
      λ f. subst (λ (t : BTreeMap (List ℕ) (List Fence)). Contains (fences_at t q) fence) (sym same) ((kept.standing q fence).1
          (standing-other (λ n. ap (λ (k : ConfigKey). same_key k (key.Fencing n)) is) q fence.generation fence.mark f)),
    );
  }

  -- a fence
  pub with_fence : (name : List ℕ) → r.key ≡ key.Fencing name → (new : FenceTable) → Fences name r.stamp table new → AreFences new (records ++ r ∷ [])
  with_fence name is new fences = record {
    generations = λ q. ap (λ (t : BTreeMap (List ℕ) ℕ). get name_cmp t q) fences.generations ∙ kept.generations q
        ∙ sym (generation_of-push q records r ∙ ap (λ (k : ConfigKey). cond (same_key k (key.Commit q)) (Some r.offset) (generation_of q records)) is);
    standing = λ q fence. (
      λ there. ⊎_elim
          (λ (was : Contains (fences_at table.standing q) fence). standing-append records (r ∷ []) q fence.generation fence.mark ((kept.standing q fence).0 was))
          (λ (h : (q ≡ name) × (get name_cmp table.generations name ≡ Some fence.generation) × (r.stamp ≡ fence.mark)). standing-last records r q fence.generation fence.mark (record {
            fences = ap (λ (k : ConfigKey). same_key k (key.Fencing q)) is ∙ (bytes_eq-Decides name q).1 (sym h.0);
            stamped = h.2;
            of_generation = ap (λ (n : List ℕ). generation_of n records) h.0 ∙ sym (kept.generations name) ∙ h.1;
          }))
          ((fences.standing q fence).0 there),
      λ f. (fences.standing q fence).1 (⊎_elim
          (λ (was : StandingFence records q fence.generation fence.mark). inl ((kept.standing q fence).1 was))
          (λ (last : LastFence records r q fence.generation fence.mark).
          let same : name ≡ q = (bytes_eq-Decides name q).0 (sym (ap (λ (k : ConfigKey). same_key k (key.Fencing q)) is) ∙ last.fences) in
          inr (sym same, kept.generations name ∙ ap (λ (n : List ℕ). generation_of n records) same ∙ last.of_generation, last.stamped))
          (standing-push records r q fence.generation fence.mark f)),
    );
  }

-- ---- a fence in the table

one-some : (a b : ℕ) → Some a ≡ Some b → a ≡ b
one-some a b e = cc

-- without a generation it stands for none
pub fence_none : (name : List ℕ) (mark : ℕ) (table : FenceTable) → get name_cmp table.generations name ≡ None → Fences name mark table table
fence_none name mark table none = record {
  generations = refl;
  standing = λ q fence. (
    λ there. inl there,
    λ either. ⊎_elim
        (λ (was : Contains (fences_at table.standing q) fence). was)
        (λ (h : (q ≡ name) × (get name_cmp table.generations name ≡ Some fence.generation) × (mark ≡ fence.mark)).
        absurd (let clash : ◌≡◌ {A = Option ℕ} None (Some fence.generation) = sym none ∙ h.1 in cc))
        either,
  );
}

module _ (name : List ℕ) (generation mark : ℕ) (old new : FenceTable) where
  abbrev one : Fence
  one = record { generation = generation; mark = mark }

  fields : (fence : Fence) → one ≡ fence → (generation ≡ fence.generation) × (mark ≡ fence.mark)
  fields fence e = (ap (λ (f : Fence). f.generation) e, ap (λ (f : Fence). f.mark) e)

  from-fields : (fence : Fence) → generation ≡ fence.generation → mark ≡ fence.mark → one ≡ fence
  from-fields fence g m = λ i. record { generation = g i; mark = m i }

  module _ (has : get name_cmp old.generations name ≡ Some generation) (same : new.generations ≡ old.generations) (notes : Notes name one old.standing new.standing) where
    noted : (q : List ℕ) (fence : Fence) (b : Bool) → bytes_eq name q ≡ b → fences_at new.standing q ≡ cond b (fences_at old.standing name ++ one ∷ []) (fences_at old.standing q)
        → Contains (fences_at new.standing q) fence ↔ (Contains (fences_at old.standing q) fence ⊎ ((q ≡ name) × (get name_cmp old.generations name ≡ Some fence.generation) × (mark ≡ fence.mark)))
    noted q fence true is row =
        let equal : name ≡ q = (bytes_eq-Decides name q).0 is in (
          λ there. ⊎_elim
              (λ (was : Contains (fences_at old.standing name) fence). inl (subst (λ (n : List ℕ). Contains (fences_at old.standing n) fence) equal was))
              (λ (e : one ≡ fence). inr (sym equal, has ∙ ap Some (fields fence e).0, (fields fence e).1))
              (Contains-push_cases (fences_at old.standing name) one fence (subst (λ (l : List Fence). Contains l fence) row there)),
          λ either. subst (λ (l : List Fence). Contains l fence) (sym row) (⊎_elim
              (λ (was : Contains (fences_at old.standing q) fence). Contains-append_left (fences_at old.standing name) (one ∷ []) fence
              (subst (λ (n : List ℕ). Contains (fences_at old.standing n) fence) (sym equal) was))
              (λ (h : (q ≡ name) × (get name_cmp old.generations name ≡ Some fence.generation) × (mark ≡ fence.mark)).
              subst (Contains (fences_at old.standing name ++ one ∷ [])) (from-fields fence (one-some generation fence.generation (sym has ∙ h.1)) h.2) (Contains-push (fences_at old.standing name) one))
              either),
        )
    noted q fence false is row = (
      λ there. inl (subst (λ (l : List Fence). Contains l fence) row there),
      λ either. subst (λ (l : List Fence). Contains l fence) (sym row) (⊎_elim
          (λ (was : Contains (fences_at old.standing q) fence). was)
          (λ (h : (q ≡ name) × (get name_cmp old.generations name ≡ Some fence.generation) × (mark ≡ fence.mark)).
          absurd (let clash : true ≡ false = sym ((bytes_eq-Decides name q).1 (sym h.0)) ∙ is in cc))
          either),
    )

    pub fence_noted : Fences name mark old new
    fence_noted = record {
      generations = same;
      standing = λ q fence. noted q fence (bytes_eq name q) refl
          (notes q ∙ ap (λ (b : Bool). cond b (fences_at old.standing name ++ one ∷ []) (fences_at old.standing q)) (name_at name q));
    }

-- a row of the table
module _ (name : List ℕ) (fence : Fence) (old new : BTreeMap (List ℕ) (List Fence)) where
  pub notes_row : (there : Bool) → there ≡ true → ((q : List ℕ) → get name_cmp new q ≡ cond (there && is_at (name_cmp name) q) (Some (fences_at old name ++ fence ∷ [])) (get name_cmp old q))
      → Notes name fence old new
  notes_row there is rows q = by (is_at (name_cmp name) q) (rows q ∙ ap (λ (t : Bool). cond (t && is_at (name_cmp name) q) (Some (fences_at old name ++ fence ∷ [])) (get name_cmp old q)) is)
    where
      by : (b : Bool) → get name_cmp new q ≡ cond b (Some (fences_at old name ++ fence ∷ [])) (get name_cmp old q) → fences_at new q ≡ cond b (fences_at old name ++ fence ∷ []) (fences_at old q)
      by true row = ap (λ (o : Option (List Fence)). unwrap_or o []) row
      by false row = ap (λ (o : Option (List Fence)). unwrap_or o []) row

  pub notes_new : get name_cmp old name ≡ None → ((q : List ℕ) → get name_cmp new q ≡ cond (is_at (name_cmp name) q) (Some (fence ∷ [])) (get name_cmp old q)) → Notes name fence old new
  notes_new none rows q = by (is_at (name_cmp name) q) (rows q)
    where
      by : (b : Bool) → get name_cmp new q ≡ cond b (Some (fence ∷ [])) (get name_cmp old q) → fences_at new q ≡ cond b (fences_at old name ++ fence ∷ []) (fences_at old q)
      by true row = ap (λ (o : Option (List Fence)). unwrap_or o []) row ∙ sym (ap (λ (o : Option (List Fence)). unwrap_or o [] ++ fence ∷ []) none)
      by false row = ap (λ (o : Option (List Fence)). unwrap_or o []) row

pub not-some : {A : Type 0} (o : Option A) → is_some o ≡ false → o ≡ None
not-some None is = refl
not-some (Some x) is = cc

-- ---- a walk

pub table_begins : (table : FenceTable) → ((q : List ℕ) → get name_cmp table.generations q ≡ None) → ((q : List ℕ) → get name_cmp table.standing q ≡ None) → AreFences table []
table_begins table no_generation no_fence = record {
  generations = no_generation;
  standing = λ q fence. (
    λ there. absurd (let none : fences_at table.standing q ≡ [] = ap (λ (o : Option (List Fence)). unwrap_or o []) (no_fence q) in
        nothing fence (subst (λ (l : List Fence). Contains l fence) none there)),
    λ f. absurd (empty f.before f.fence f.behind f.split),
  );
}
  where
    nothing : (fence : Fence) → Contains [] fence → ⊥
    nothing fence there = omega (arith, there.1)

    empty : (before : List ConfigRecord) (r : ConfigRecord) (behind : List ConfigRecord) → [] ≡ before ++ r ∷ behind → ⊥
    empty [] r behind e = cc
    empty (x ∷ before) r behind e = cc

-- records of a frame
module _ (records : List ConfigRecord) (frame : List Applied) (at : ℕ) (x : Applied) (within : at < length frame) (is : x ≡ get_or frame at x) (new : FenceTable) where
  pub frame_more : (now : FenceTable) → AreFences now (records ++ filter_map config_in (take at frame))
      → ((l : List ConfigRecord) → AreFences now l → AreFences new (l ++ filter_map config_in (x ∷ []))) → AreFences new (records ++ filter_map config_in (take (at + 1) frame))
  frame_more now kept step = subst (AreFences new)
      (append_assoc records (filter_map config_in (take at frame)) (filter_map config_in (x ∷ []))
      ∙ ap (λ (l : List ConfigRecord). records ++ l) (sym (filter_map-append config_in (take at frame) (x ∷ []))
      ∙ ap (filter_map config_in) (sym (take_more frame at x within ∙ ap (λ (y : Applied). take at frame ++ y ∷ []) (sym is)))))
      (step (records ++ filter_map config_in (take at frame)) kept)

pub frame_all : (records : List ConfigRecord) (frame : List Applied) (at : ℕ) (now : FenceTable) → length frame ≤ at → AreFences now (records ++ filter_map config_in (take at frame)) → AreFences now (records ++ filter_map config_in frame)
frame_all records frame at now all kept = subst (λ (l : List Applied). AreFences now (records ++ filter_map config_in l)) (take_all at frame all) kept

-- frames
module _ (frames : List (List Applied)) (at : ℕ) (frame : List Applied) (within : at < length frames) (is : frame ≡ get_or frames at frame) where
  pub frames_more : (now new : FenceTable) → AreFences now (configs_in (take at frames)) → ((l : List ConfigRecord) → AreFences now l → AreFences new (l ++ filter_map config_in frame)) → AreFences new (configs_in (take (at + 1) frames))
  frames_more now new kept step = subst (AreFences new)
      (sym (configs-push (take at frames) frame) ∙ ap configs_in (sym (take_more frames at frame within ∙ ap (λ (y : List Applied). take at frames ++ y ∷ []) (sym is))))
      (step (configs_in (take at frames)) kept)

pub frames_all : (frames : List (List Applied)) (at : ℕ) (now : FenceTable) → length frames ≤ at → AreFences now (configs_in (take at frames)) → AreFences now (configs_in frames)
frames_all frames at now all kept = subst (λ (l : List (List Applied)). AreFences now (configs_in l)) (take_all at frames all) kept

-- a record that is read, or not
pub read_none : (a : Applied) → config_in a ≡ None → filter_map config_in (a ∷ []) ≡ []
read_none a none = by (config_in a) none
  where
    by : (o : Option ConfigRecord) → o ≡ None → cons_option o [] ≡ []
    by None e = refl
    by (Some r) e = cc

-- ---- what passes

module _ (records : List ConfigRecord) (table : FenceTable) (kept : AreFences table records) (name : List ℕ) (generation place : ℕ) where
  -- no fence of a newer generation stands before the place
  abbrev Passes : Type 0
  Passes = (newer mark : ℕ) → StandingFence records name newer mark → mark ≤ place → newer ≤ generation

  abbrev MayPass : Fence → Type 0
  MayPass fence = fence.mark ≤ place → fence.generation ≤ generation

  pub passes_some : (fences : List Fence) → get name_cmp table.standing name ≡ Some fences → (b : Bool) → (IsTrue b ↔ All MayPass fences) → IsTrue b ↔ Passes
  passes_some fences is b test =
      let here : fences_at table.standing name ≡ fences = ap (λ (o : Option (List Fence)). unwrap_or o []) is in (
        λ yes newer mark stands before.
            let fence : Fence = record { generation = newer; mark = mark } in
            All-contains MayPass fences fence (test.0 yes) (subst (λ (l : List Fence). Contains l fence) here ((kept.standing name fence).1 stands)) before,
        λ passes. test.1 (each fences (λ fence there. passes fence.generation fence.mark ((kept.standing name fence).0 (subst (λ (l : List Fence). Contains l fence) (sym here) there)))),
      )
    where
      each : (l : List Fence) → ((fence : Fence) → Contains l fence → MayPass fence) → All MayPass l
      each l so = All-weaker (Contains l) MayPass so l (All-contains_itself l)

  pub passes_none : get name_cmp table.standing name ≡ None → IsTrue true ↔ Passes
  passes_none none = (
    λ _ newer mark stands before. absurd (nothing (subst (λ (l : List Fence). Contains l (record { generation = newer; mark = mark })) here ((kept.standing name (record { generation = newer; mark = mark })).1 stands))),
    λ _. refl,
  )
    where
      here : fences_at table.standing name ≡ []
      here = ap (λ (o : Option (List Fence)). unwrap_or o []) none

      nothing : {fence : Fence} → Contains [] fence → ⊥
      nothing there = omega (arith, there.1)
