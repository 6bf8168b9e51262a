-- The records of tasks' configs, one task behind the other.
use Rattle.std.proofs.Common.{◌≡◌, ℕ, ◌+◌, ◌<◌, ◌≤◌, List, [], ◌∷◌, ◌++◌, length, map, drop, get_or, Option, refl, sym, ap, ◌∙◌, append_assoc, arith}
use Rattle.std.specs.List.{enumerate_from}
use Rattle.std.proofs.lemmas.List.{drop_more, drop_all, append-nil}
use Rattle.cw_keys.specs.declared.config_key.ConfigKey.{ConfigKey}
use Rattle.cw_keys.specs.declared.config_value.ConfigValue.{ConfigValue}
use Rattle.cw_config.specs.View.{Properties}
use Rattle.cw_ticks.specs.Proposed.{task_record}

module _ (name : List ℕ) (ps : List Properties) where
  -- the records of the tasks from one on
  abbrev pub records_on : ℕ → List (ConfigKey × Option ConfigValue)
  records_on at = map (task_record name) (enumerate_from at (drop at ps))

  pub next-record : (done : List (ConfigKey × Option ConfigValue)) (at : ℕ) (p : Properties) → at < length ps → p ≡ get_or ps at p →
      (done ++ task_record name (at, p) ∷ []) ++ records_on (at + 1) ≡ done ++ records_on at
  next-record done at p within here =
      let rest : drop at ps ≡ p ∷ drop (at + 1) ps =
      drop_more ps at p within ∙ ap (λ (q : Properties). q ∷ drop (at + 1) ps) (sym here) in
      append_assoc done (task_record name (at, p) ∷ []) (records_on (at + 1)) ∙
      sym (ap (λ (qs : List Properties). done ++ map (task_record name) (enumerate_from at qs)) rest)

  pub no-record : (done : List (ConfigKey × Option ConfigValue)) (at : ℕ) → length ps ≤ at → done ++ records_on at ≡ done
  no-record done at all =
      ap (λ (qs : List Properties). done ++ map (task_record name) (enumerate_from at qs)) (drop_all at ps all) ∙ append-nil done
