-- A leader that writes configs keeps all facts: a new commit's generation is no instance's yet (KIP-618).
use Rattle.std.proofs.Common.{◌≡◌, ℕ, ◌+◌, ◌<◌, ◌≤◌, true, false, [], ◌∷◌, length, map, Option, sym, subst, ◌∙◌, arith}
use Rattle.std.specs.List.{AllByRecursion, enumerate_from}
use Rattle.std.proofs.lemmas.List.{length-map}
use Rattle.std.proofs.lemmas.List.FromFn.{length-enumerate_from}
use Rattle.std.proofs.lemmas.List.Elements.{recursion_from_All}
use Rattle.cw_keys.specs.declared.config_key.ConfigKey.{ConfigKey}
use Rattle.cw_keys.specs.declared.config_value.ConfigValue.{ConfigValue}
use Rattle.cw_config.specs.declared.records.ConfigRecord.{ConfigRecord}
use Rattle.cw_config.specs.Acceptance.{end_of}
use Rattle.cw_rest.specs.Seen.{KeyedValues}
use Rattle.cw_model.specs.State.{Setting, Cluster}
use Rattle.cw_model.specs.Lookups.{list_end}
use Rattle.cw_model.specs.Updates.{stamped, stamp_of, fits_configs}
use Rattle.cw_model.specs.ConfigsAllowed.{is_fence_key}
use Rattle.cw_model.specs.EventsLeading.{append_config, MayAppendConfig}
use Rattle.cw_model.specs.Facts.{AreFacts}
use Rattle.cw_laws.proofs.Wrappers.{worker-keeps, leader-keeps, configs-keeps}
use Rattle.cw_laws.proofs.Leading.{without_lead-keeps}
use Rattle.cw_laws.proofs.Newest.{NoFence, no_fence-same, no_fence-standing}
use Rattle.cw_laws.proofs.ConfigsAppended.{IsConfigFrame, StaysFenced, configs-appended}

-- a record of a place, a key and a value
abbrev stamped_as : ℕ → ℕ × (ConfigKey × Option ConfigValue) → ConfigRecord
stamped_as stamp r = record { offset = r.0; stamp = stamp; key = r.1.0; value = r.1.1 }

none-fences : (stamp from : ℕ) (values : KeyedValues) →
    AllByRecursion (λ (r : ConfigKey × Option ConfigValue). is_fence_key r.0 ≡ false) values →
    NoFence (map (stamped_as stamp) (enumerate_from from values))
none-fences stamp from [] none = tt
none-fences stamp from (r ∷ values) none = (none.0, none-fences stamp (from + 1) values none.1)

stamps-within : (stamp from : ℕ) (values : KeyedValues) →
    AllByRecursion (λ (r : ConfigRecord). r.stamp ≤ stamp) (map (stamped_as stamp) (enumerate_from from values))
stamps-within stamp from [] = tt
stamps-within stamp from (r ∷ values) = (omega arith, stamps-within stamp (from + 1) values)

pub length-stamped : (values : KeyedValues) (s : Cluster) → length (stamped values s) ≡ length values
length-stamped values s = length-map (enumerate_from (end_of s.configs) values) (stamped_as (stamp_of s))
    ∙ length-enumerate_from (end_of s.configs) values

pub stamps-stamped : (values : KeyedValues) (s : Cluster) →
    AllByRecursion (λ (r : ConfigRecord). r.stamp ≤ list_end s.entries) (stamped values s)
stamps-stamped values s = stamps-within (stamp_of s) (end_of s.configs) values

config-done : (setting : Setting) (w : ℕ) (records : KeyedValues) (s : Cluster) → MayAppendConfig w records s →
    fits_configs (stamped records s) s ≡ true → AreFacts setting s →
    StaysFenced s (stamped records s) × IsConfigFrame s (stamped records s)
config-done setting w records s may fits f =
    let none : NoFence (stamped records s) = none-fences (stamp_of s) (end_of s.configs) records
    (recursion_from_All (λ (r : ConfigKey × Option ConfigValue). is_fence_key r.0 ≡ false) records may.no_fence) in
    let size : length (stamped records s) ≡ length records = length-stamped records s in (
      record {
        generation = λ n id u. (no_fence-same id.connector s.configs (stamped records s) none).generation
            ∙ f.producers.generation n id u;
        counted = λ n id u. subst (λ (k : ℕ). id.index < k)
            (sym (no_fence-same id.connector s.configs (stamped records s) none).count) (f.producers.counted n id u);
        fenced = λ name generation mark stands. f.safe.fenced name generation mark
            (no_fence-standing s.configs (stamped records s) none name generation mark stands);
      },
      record {
        allowed = may.allowed;
        some = omega (arith, size, may.some);
        stamps = stamps-stamped records s;
        fits = fits;
      },
    )

pub append_config-keeps : (setting : Setting) (w : ℕ) (records : KeyedValues) (s : Cluster) →
    MayAppendConfig w records s → AreFacts setting s → AreFacts setting (append_config w records s).1
append_config-keeps setting w records s may f = worker-keeps (AreFacts setting) w s _ f (λ live.
    leader-keeps (AreFacts setting) w s _ (without_lead-keeps setting w s f) (λ own.
    configs-keeps (AreFacts setting) s (stamped records s) _ _ f (λ fits.
    configs-appended setting s (stamped records s) (config-done setting w records s may fits f).1 f
    (config-done setting w records s may fits f).0)))
