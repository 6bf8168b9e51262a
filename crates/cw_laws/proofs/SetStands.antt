-- An entry that sets offsets, where it is allowed, may be written: its parts begin anew, and others stay.
use Rattle.std.proofs.Common.{◌≡◌, ◌++◌, ◌∷◌, [], Bool, true, false, List, refl, ap}
use Rattle.std.specs.List.{flat_map, list_any}
use Rattle.cw_types.specs.declared.ids.Tid.{Tid}
use Rattle.cw_types.specs.declared.ids.Epoch.{Epoch}
use Rattle.cw_types.specs.declared.ids.PartKey.{PartKey}
use Rattle.cw_types.specs.Same.{same_part}
use Rattle.cw_feed.specs.Feeds.{IsOfSource}
use Rattle.cw_txn.specs.declared.entry.Entry.{Entry}
use Rattle.cw_txn.specs.declared.entry.Entry.TheVariants.{Set}
use Rattle.cw_txn.specs.declared.entry.SetOffset.{SetOffset}
use Rattle.cw_txn.specs.Allowed.{IsAllowedBehind}
use Rattle.cw_txn.specs.History.{base_of}
use Rattle.cw_model.specs.State.{Setting, Cluster}
use Rattle.cw_model.specs.Lookups.{end_or_start}
use Rattle.cw_model.specs.Committed.{values_of, committed_records}
use Rattle.cw_model.specs.Safe.{YieldsCommitted}
use Rattle.cw_laws.proofs.EntryPush.{set-leaves, set-just, tags-set}
use Rattle.cw_laws.proofs.Yields.{yields-none, yields-same}
use Rattle.cw_laws.proofs.Unmoved.{yields-beside, agree-beside}
use Rattle.cw_laws.proofs.Entered.{MayStand, EntryFacts, listed}

module _ (setting : Setting) (s : Cluster) (tid : Tid) (epoch : Epoch) (list : List SetOffset) where
  abbrev e : Entry
  e = Set tid epoch list

  yields-set : (part : PartKey) → IsOfSource part → list_any (λ set. same_part part set.part) list ≡ true → YieldsCommitted setting (listed (e ∷ []) s) part
  yields-set part source sets = yields-same setting.feeds part (end_or_start part (s.entries ++ e ∷ [])) (base_of part (s.entries ++ e ∷ [])) (end_or_start part (s.entries ++ e ∷ [])) (end_or_start part (s.entries ++ e ∷ []))
      [] (committed_records part (s.entries ++ e ∷ []) s.batches) (set-just part s.entries tid epoch list sets) refl
      (ap (flat_map (values_of part s.batches)) (tags-set part s.entries e sets)) (yields-none setting.feeds part (end_or_start part (s.entries ++ e ∷ [])) source)

  yields-by : (b : Bool) (part : PartKey) → list_any (λ set. same_part part set.part) list ≡ b → IsOfSource part → YieldsCommitted setting s part → YieldsCommitted setting (listed (e ∷ []) s) part
  yields-by true part sets source before = yields-set part source sets
  yields-by false part other source before = yields-beside setting s e part record { leaves = set-leaves part tid epoch list other; unset = other; none = refl } before

  pub set-stands : IsAllowedBehind s.entries e → EntryFacts setting s → MayStand setting s e
  set-stands allowed f = record {
    allowed = allowed;
    chains = λ part. tt;
    backed = tt;
    newer = λ name generation mark stands. tt;
    yields = λ agreed part source. yields-by (list_any (λ set. same_part part set.part) list) part refl source (f.exact.yields agreed part source);
    agree = λ agreed. agree-beside setting s e (λ tag task now. cc) (f.agree agreed);
  }
