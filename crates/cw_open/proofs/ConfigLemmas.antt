-- One record, and one frame, more of the config log.
use Rattle.std.proofs.Common.{◌≡◌, ◌↔◌, ℕ, ◌+◌, ◌<◌, ◌≤◌, nat_le, Bool, true, false, ◌&&◌, cond, IsTrue, List, [], ◌∷◌, ◌++◌, length, take, drop, get_or, Option, Some, None, refl, sym, ap, subst, ◌∙◌, append_assoc, arith}
use Rattle.std.specs.Option.{IsSomeAnd, option_and_then}
use Rattle.std.specs.List.{filter_map}
use Rattle.std.proofs.lemmas.Bool.{and_parts}
use Rattle.std.proofs.lemmas.Bool.Decides.{nat_tests}
use Rattle.std.proofs.lemmas.List.{append-nil, take_all, drop_all, take_more, drop_more}
use Rattle.std.proofs.lemmas.List.Elements.{filter_map-append}
use Rattle.cw_bytes.specs.declared.applied.Applied.{Applied}
use Rattle.cw_bytes.specs.Frames.{EachFrom}
use Rattle.cw_config.specs.declared.records.ConfigRecord.{ConfigRecord}
use Rattle.cw_config.specs.Acceptance.{end_of, is_backed, may_follow, followed_by}
use Rattle.cw_config.specs.Compaction.{config_in, configs_in}
use Rattle.cw_model.specs.ConfigsAllowed.{IsAllowedConfig, AreAllowedConfigs, FitsBehind}
use Rattle.cw_model.specs.StandsFor.{IsFirstLacking, IsAllowedFrame}
use Rattle.cw_laws.proofs.CompactConfigs.{accepted-allowed, read-cons}
use Rattle.cw_laws.proofs.OpenLogs.{configs-allowed}
use Rattle.cw_laws.proofs.Reopens.{configs-push}
use Rattle.cw_open.specs.Judging.{Steps}
use Rattle.cw_open.specs.PassedConfigs.{TakesConfig, TakesConfigs, with_config}
use Rattle.cw_open.proofs.ConfigReads.{config-read}
use Rattle.cw_open.proofs.Firsts.{each_from-push, taken_more, goes_on, first_lacks}
use Rattle.cw_open.proofs.Steps.{refuted, never, always}

-- ---- a record

rising-of : (end offset : ℕ) (b : Bool) → (nat_le end offset && b) ≡ true → end ≤ offset
rising-of end offset b follows = let test : nat_le end offset ≡ true = (and_parts (nat_le end offset) b follows).0 in grind (arith, nat_tests)

some-is : (a b : List ConfigRecord) → Some a ≡ Some b → b ≡ a
some-is a b e = cc

module _ (old : List ConfigRecord) (r : ConfigRecord) where
  follows : IsAllowedConfig old r → may_follow old r ≡ true
  follows allowed = (accepted-allowed old (r ∷ []) (allowed, tt)).0

  module _ (b : Bool) (test : IsTrue b ↔ FitsBehind old r.key r.value) where
    pub record_not : b ≡ false → (new : List ConfigRecord) → Steps IsAllowedConfig old r new false
    record_not not new = record { fits = never (λ allowed. refuted b test not allowed.fits); taken = λ e. cc }

    pub record_by : b ≡ true → (a : Applied) → config_in a ≡ Some r → (new : List ConfigRecord) (b2 : Bool)
        → with_config old a ≡ cond b2 (Some new) None → Steps IsAllowedConfig old r new b2
    record_by told a is new b2 applied =
        by (may_follow old r) b2 refl (sym (ap (option_and_then (followed_by old)) is) ∙ applied)
      where
        by : (m b2 : Bool) → may_follow old r ≡ m → cond (may_follow old r) (Some (old ++ r ∷ [])) None ≡ cond b2 (Some new) None → Steps IsAllowedConfig old r new b2
        by true true may e = record {
          fits = always (record {
            rising = rising-of (end_of old) r.offset (is_backed old r.key r.value) may;
            key = (config-read a r is).key;
            kind = (config-read a r is).kind;
            value = (config-read a r is).value;
            fits = test.0 told;
          });
          taken = λ _. some-is (old ++ r ∷ []) new (sym (ap (λ (m : Bool). cond m (Some (old ++ r ∷ [])) None) may) ∙ e);
        }
        by true false may e = absurd (let clash : ◌≡◌ {A = Option (List ConfigRecord)} (Some (old ++ r ∷ [])) None = sym (ap (λ (m : Bool). cond m (Some (old ++ r ∷ [])) None) may) ∙ e in cc)
        by false true may e = absurd (let clash : ◌≡◌ {A = Option (List ConfigRecord)} None (Some new) = sym (ap (λ (m : Bool). cond m (Some (old ++ r ∷ [])) None) may) ∙ e in cc)
        by false false may e = record {
          fits = never (λ allowed. let clash : false ≡ true = sym may ∙ follows allowed in cc);
          taken = λ e. cc;
        }

-- a record that can't be read, or is read and then taken
module _ (old new : List ConfigRecord) (a : Applied) where
  pub config_unread : config_in a ≡ None → TakesConfig old a new false
  config_unread none = record {
    fits = never (λ some. subst (λ (o : Option ConfigRecord). IsSomeAnd o (IsAllowedConfig old)) none some);
    taken = λ e. cc;
  }

  pub config_read : (r : ConfigRecord) → config_in a ≡ Some r → (b2 : Bool) → Steps IsAllowedConfig old r new b2 → TakesConfig old a new b2
  config_read r is b2 step = record {
    fits = (
      λ told. subst (λ (o : Option ConfigRecord). IsSomeAnd o (IsAllowedConfig old)) (sym is) (step.fits.0 told),
      λ some. step.fits.1 (subst (λ (o : Option ConfigRecord). IsSomeAnd o (IsAllowedConfig old)) is some),
    );
    taken = λ told q there. let same : r ≡ q = one r q (sym is ∙ there) in subst (λ (x : ConfigRecord). new ≡ old ++ x ∷ []) same (step.taken told);
  }
    where
      one : (x y : ConfigRecord) → Some x ≡ Some y → x ≡ y
      one x y e = cc

-- ---- a frame

-- what a record and those behind it are
abbrev IsAllowedWith : List ConfigRecord → List Applied → ConfigRecord → Type 0
IsAllowedWith before frame r = IsAllowedConfig before r × IsAllowedFrame (before ++ r ∷ []) frame

some_and : (o : Option ConfigRecord) (P : ConfigRecord → Type 0) → IsSomeAnd o P → (r : ConfigRecord) × (o ≡ Some r) × P r
some_and None P is = absurd is
some_and (Some r) P is = (r, refl, is)

first_and : (o : Option ConfigRecord) (P Q : ConfigRecord → Type 0) → IsSomeAnd o (λ r. P r × Q r) → IsSomeAnd o P
first_and None P Q is = absurd is
first_and (Some r) P Q is = is.0

-- what was walked of a frame: whether the rest may stand there says whether the whole may
pub record WalkedConfigs (old : List ConfigRecord) (frame : List Applied) (at : ℕ) (now : List ConfigRecord) : Type 0 where
  pub allowed : AreAllowedConfigs [] now
  pub taken : now ≡ old ++ filter_map config_in (take at frame)
  pub rest : IsAllowedFrame now (drop at frame) ↔ IsAllowedFrame old frame

pub configs_begin : (old : List ConfigRecord) (frame : List Applied) → AreAllowedConfigs [] old → WalkedConfigs old frame 0 old
configs_begin old frame allowed = record { allowed = allowed; taken = sym (append-nil old); rest = (λ h. h, λ h. h) }

module _ (old : List ConfigRecord) (frame : List Applied) (at : ℕ) (now : List ConfigRecord) (walked : WalkedConfigs old frame at now) (x : Applied) (within : at < length frame) (is : x ≡ get_or frame at x) where
  left : drop at frame ≡ x ∷ drop (at + 1) frame
  left = drop_more frame at x within ∙ ap (λ (y : Applied). y ∷ drop (at + 1) frame) (sym is)

  here : IsAllowedFrame old frame → IsSomeAnd (config_in x) (IsAllowedWith now (drop (at + 1) frame))
  here whole = subst (IsAllowedFrame now) left (walked.rest.1 whole)

  more_taken : (r : ConfigRecord) → config_in x ≡ Some r → filter_map config_in (take (at + 1) frame) ≡ filter_map config_in (take at frame) ++ r ∷ []
  more_taken r there =
      ap (filter_map config_in) (take_more frame at x within ∙ ap (λ (y : Applied). take at frame ++ y ∷ []) (sym is))
      ∙ filter_map-append config_in (take at frame) (x ∷ [])
      ∙ ap (λ (l : List ConfigRecord). filter_map config_in (take at frame) ++ l) (read-cons x r [] there)

  with_record : (new : List ConfigRecord) (r : ConfigRecord) → config_in x ≡ Some r → IsAllowedConfig now r → new ≡ now ++ r ∷ [] → WalkedConfigs old frame (at + 1) new
  with_record new r there may added = record {
    allowed = subst (AreAllowedConfigs []) (sym added) (each_from-push IsAllowedConfig [] now r walked.allowed may);
    taken = added ∙ ap (λ (l : List ConfigRecord). l ++ r ∷ []) walked.taken ∙ append_assoc old (filter_map config_in (take at frame)) (r ∷ [])
        ∙ ap (λ (l : List ConfigRecord). old ++ l) (sym (more_taken r there));
    rest = (
      λ behind. walked.rest.0 (subst (IsAllowedFrame now) (sym left)
          (subst (λ (o : Option ConfigRecord). IsSomeAnd o (IsAllowedWith now (drop (at + 1) frame))) (sym there)
          (may, subst (λ (l : List ConfigRecord). IsAllowedFrame l (drop (at + 1) frame)) added behind))),
      λ whole. subst (λ (l : List ConfigRecord). IsAllowedFrame l (drop (at + 1) frame)) (sym added)
          (subst (λ (o : Option ConfigRecord). IsSomeAnd o (IsAllowedWith now (drop (at + 1) frame))) there (here whole)).1,
    );
  }

  pub configs_more : (new : List ConfigRecord) (b : Bool) → TakesConfig now x new b → b ≡ true → WalkedConfigs old frame (at + 1) new
  configs_more new b step told =
      let found : (r : ConfigRecord) × (config_in x ≡ Some r) × IsAllowedConfig now r = some_and (config_in x) (IsAllowedConfig now) (step.fits.0 told) in
      with_record new found.0 found.1 found.2 (step.taken told found.0 found.1)

  pub configs_not : (new last : List ConfigRecord) (b : Bool) → TakesConfig now x new b → b ≡ false → TakesConfigs old frame last false
  configs_not new last b step not = record {
    fits = never (λ whole. refuted b step.fits not (first_and (config_in x) (IsAllowedConfig now) (λ (r : ConfigRecord). IsAllowedFrame (now ++ r ∷ []) (drop (at + 1) frame)) (here whole)));
    taken = λ e. cc;
  }

pub configs_taken : (old : List ConfigRecord) (frame : List Applied) (at : ℕ) (now : List ConfigRecord) → WalkedConfigs old frame at now → length frame ≤ at → TakesConfigs old frame now true
configs_taken old frame at now walked all = record {
  fits = always (walked.rest.0 (subst (IsAllowedFrame now) (sym (drop_all at frame all)) tt));
  taken = λ e. walked.taken ∙ ap (λ (l : List Applied). old ++ filter_map config_in l) (take_all at frame all);
}

-- ---- the log

abbrev pub InConfigs : List (List Applied) → List Applied → Type 0
InConfigs before frame = IsAllowedFrame (configs_in before) frame

-- what was walked of frames
pub record WalkedConfigLog (frames : List (List Applied)) (at : ℕ) (now : List ConfigRecord) : Type 0 where
  pub each : EachFrom InConfigs [] (take at frames)
  pub taken : now ≡ configs_in (take at frames)

pub log_begins : (frames : List (List Applied)) → WalkedConfigLog frames 0 []
log_begins frames = record { each = tt; taken = refl }

-- what was walked is allowed
pub walked_allowed : (frames : List (List Applied)) (at : ℕ) (now : List ConfigRecord) → WalkedConfigLog frames at now → AreAllowedConfigs [] now
walked_allowed frames at now walked = subst (AreAllowedConfigs []) (sym walked.taken) (configs-allowed (take at frames) walked.each)

module _ (frames : List (List Applied)) (at : ℕ) (now : List ConfigRecord) (walked : WalkedConfigLog frames at now) (frame : List Applied) (within : at < length frames) (is : frame ≡ get_or frames at frame) where
  pub log_more : (new : List ConfigRecord) (b : Bool) → TakesConfigs now frame new b → b ≡ true → WalkedConfigLog frames (at + 1) new
  log_more new b step told = record {
    each = goes_on InConfigs [] frames at walked.each frame within is (subst (λ (l : List ConfigRecord). IsAllowedFrame l frame) walked.taken (step.fits.0 told));
    taken = step.taken told ∙ ap (λ (l : List ConfigRecord). l ++ filter_map config_in frame) walked.taken ∙ sym (configs-push (take at frames) frame)
        ∙ ap configs_in (sym (taken_more InConfigs [] frames at walked.each frame within is));
  }

  pub log_lacks : (new : List ConfigRecord) (b : Bool) → TakesConfigs now frame new b → b ≡ false → IsFirstLacking InConfigs frames at
  log_lacks new b step not =
      first_lacks InConfigs frames at walked.each frame within is (λ here. refuted b step.fits not (subst (λ (l : List ConfigRecord). IsAllowedFrame l frame) (sym walked.taken) here))
