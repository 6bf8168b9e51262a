-- Rows that are made, one after the other.
use Rattle.std.proofs.Common.{◌≡◌, ℕ, ◌+◌, ◌<◌, List, [], ◌∷◌, ◌++◌, length, take, get_or, Option, refl, ap, sym, subst, ◌∙◌}
use Rattle.std.proofs.lemmas.List.{take_more}
use Rattle.cw_types.specs.declared.ids.TaskId.{TaskId}
use Rattle.cw_config.specs.declared.records.ConfigRecord.{ConfigRecord}
use Rattle.cw_config.specs.declared.tables.TaskRow.{TaskRow}
use Rattle.cw_config.specs.declared.tables.Tables.{Tables}
use Rattle.cw_config.specs.Tables.{HasRow, HaveRows, SameRows, KeepsRows, Keeps, KeepsTask, end_at}

pub same-refl : (tables : Tables) → SameRows tables tables
same-refl tables = record {
  last = refl;
  connectors = λ name. refl;
  commits = λ name. refl;
  targets = λ name. refl;
  fences = λ name. refl;
  tasks = λ id. refl;
}

pub same-then : (a b c : Tables) → SameRows a b → SameRows b c → SameRows a c
same-then a b c one two = record {
  last = two.last ∙ one.last;
  connectors = λ name. two.connectors name ∙ one.connectors name;
  commits = λ name. two.commits name ∙ one.commits name;
  targets = λ name. two.targets name ∙ one.targets name;
  fences = λ name. two.fences name ∙ one.fences name;
  tasks = λ id. two.tasks id ∙ one.tasks id;
}

pub have-kept : (old new : Tables) (records : List ConfigRecord) → KeepsRows old new → HaveRows old records → HaveRows new records
have-kept old new [] keeps has = tt
have-kept old new (r ∷ records) keeps has = (keeps r.key has.0, have-kept old new records keeps has.1)

have-push : (tables : Tables) (records : List ConfigRecord) (r : ConfigRecord) → HaveRows tables records → HasRow tables r.key → HaveRows tables (records ++ r ∷ [])
have-push tables [] r has here = (here, tt)
have-push tables (x ∷ records) r has here = (has.0, have-push tables records r has.1 here)

pub have-more : (old new : Tables) (frame : List ConfigRecord) (at : ℕ) (r : ConfigRecord) → at < length frame → r ≡ get_or frame at r
    → KeepsRows old new → HaveRows old (take at frame) → HasRow new r.key → HaveRows new (take (at + 1) frame)
have-more old new frame at r within is keeps has here =
    subst (HaveRows new) (sym (take_more frame at r within))
    (subst (λ (x : ConfigRecord). HaveRows new (take at frame ++ x ∷ [])) is (have-push new (take at frame) r (have-kept old new (take at frame) keeps has) here))

-- rows that say the same are those of the same records
pub keeps-same : (old new : Tables) (records : List ConfigRecord) → SameRows old new → Keeps old records → Keeps new records
keeps-same old new records same kept = record {
  rises = kept.rises;
  end = ap end_at same.last ∙ kept.end;
  connectors = λ name. same.connectors name ∙ kept.connectors name;
  commits = λ name. same.commits name ∙ kept.commits name;
  targets = λ name. same.targets name ∙ kept.targets name;
  fences = λ name. same.fences name ∙ kept.fences name;
  tasks = λ id. subst (λ (row : Option TaskRow). KeepsTask row id records) (sym (same.tasks id)) (kept.tasks id);
}
