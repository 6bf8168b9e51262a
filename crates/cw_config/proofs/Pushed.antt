-- The tables behind one record more.
use Rattle.std.proofs.Common.{◌≡◌, ℕ, ◌+◌, ◌≤◌, ◌<◌, Bool, true, false, ◌&&◌, cond, leb, max, List, [], ◌∷◌, ◌++◌, Option, None, Some, refl, ap, sym, subst, ◌∙◌, arith}
use Rattle.std.specs.Option.{IfSome, option_map}
use Rattle.std.proofs.lemmas.Bool.Decides.{nat_tests}
use Rattle.std.proofs.lemmas.List.Sums.{fold-append}
use Rattle.cw_types.specs.declared.ids.TaskId.{TaskId}
use Rattle.cw_keys.specs.declared.config_key.ConfigKey.{ConfigKey}
use Rattle.cw_keys.specs.declared.config_key.ConfigKey.TheVariants.{Connector, Task, Commit, Target, Fencing}
use Rattle.cw_config.specs.declared.records.ConfigRecord.{ConfigRecord}
use Rattle.cw_config.specs.declared.tables.Stored.{Stored}
use Rattle.cw_config.specs.declared.tables.TaskRow.{TaskRow}
use Rattle.cw_config.specs.declared.tables.Tables.{Tables}
use Rattle.cw_config.specs.Records.{same_key, has_key, last_where, last_of}
use Rattle.cw_config.specs.View.{generation_of, committed_record, is_before}
use Rattle.cw_config.specs.Acceptance.{end_of, is_backed, may_follow}
use Rattle.cw_config.specs.Tables.{RisesFrom, Keeps, KeepsTask, Puts, stored_of, stored_in, offset_in, named_at, task_at, generation_at, last_in, is_later, committed_in, row_behind, puts_row, puts_task, end_at}
use Rattle.cw_config.proofs.Rising.{last_where-push, ends, Within, found_within, last_before, rises-push}

-- a key is one of a commit or one of a task
pub apart : (key : ConfigKey) (id : TaskId) → same_key key (Commit id.connector) ≡ true → same_key key (Task id) ≡ false
apart (Connector name) id e = cc
apart (Task other) id e = cc
apart (Commit name) id e = refl
apart (Target name) id e = cc
apart (Fencing name) id e = cc

dropped : {A : Type 0} (t b : Bool) (x y : A) → b ≡ false → cond (t && b) x y ≡ y
dropped true b x y e = ap (λ (v : Bool). cond v x y) e
dropped false b x y e = refl

-- an earlier record's offset as a generation: what stands behind all isn't before it
none_before : (o : Option ConfigRecord) (high : ℕ) (r : ConfigRecord) → IfSome o (Within 0 high) → high ≤ r.offset → is_before (option_map (λ q. q.offset) o) r ≡ false
none_before None high r w above = refl
none_before (Some q) high r w above = let below : q.offset < high = w.1 in let lower : q.offset < r.offset = omega (arith, below, above) in grind (arith, nat_tests)

same_before : (r : ConfigRecord) → is_before (Some r.offset) r ≡ false
same_before r = grind (arith, nat_tests)

module _ (id : TaskId) (records : List ConfigRecord) (r : ConfigRecord) (rises : RisesFrom 0 records) (above : end_of records ≤ r.offset) where
  -- a task's last record before the generation of a commit
  abbrev before : Option ConfigRecord → List ConfigRecord → Option ConfigRecord
  before commit list = last_where (λ q. has_key (Task id) q && is_before (option_map (λ c. c.offset) commit) q) list

  pushed : (b : Bool) → before (cond b (Some r) (last_of (Commit id.connector) records)) (records ++ r ∷ []) ≡ cond b (last_of (Task id) records) (committed_record id records)
  pushed true =
      last_where-push (λ q. has_key (Task id) q && is_before (Some r.offset) q) records r
      ∙ dropped (has_key (Task id) r) (is_before (Some r.offset) r) (Some r) (before (Some r) records) (same_before r)
      ∙ last_before (has_key (Task id)) r.offset 0 records rises above
  pushed false =
      last_where-push (λ q. has_key (Task id) q && is_before (generation_of id.connector records) q) records r
      ∙ dropped (has_key (Task id) r) (is_before (generation_of id.connector records) r) (Some r) (committed_record id records)
      (none_before (last_of (Commit id.connector) records) (end_of records) r (found_within (has_key (Commit id.connector)) 0 records rises) above)

  -- what is committed of a task behind one more record: all that there is, where that is its commit
  pub committed-push : committed_record id (records ++ r ∷ []) ≡ cond (has_key (Commit id.connector) r) (last_of (Task id) records) (committed_record id records)
  committed-push =
      ap (λ (o : Option ConfigRecord). before o (records ++ r ∷ [])) (last_where-push (has_key (Commit id.connector)) records r) ∙ pushed (has_key (Commit id.connector) r)

-- ---- the rows

stored_in-cond : (b : Bool) (r : ConfigRecord) (o : Option ConfigRecord) → cond b (Some (stored_of r)) (stored_in o) ≡ stored_in (cond b (Some r) o)
stored_in-cond true r o = refl
stored_in-cond false r o = refl

stored-push : (key : ConfigKey) (records : List ConfigRecord) (r : ConfigRecord) → puts_row key r (stored_in (last_of key records)) ≡ stored_in (last_of key (records ++ r ∷ []))
stored-push key records r = stored_in-cond (has_key key r) r (last_of key records) ∙ ap stored_in (sym (last_where-push (has_key key) records r))

last_in-cond : (b : Bool) (new : TaskRow) (row : Option TaskRow) → last_in (cond b (Some new) row) ≡ cond b (Some new.last) (last_in row)
last_in-cond true new row = refl
last_in-cond false new row = refl

-- at a generation behind a task's last record, that one is committed
all_committed : (row : Option TaskRow) (n : ℕ) → IfSome (last_in row) (λ (s : Stored). s.offset ≤ n) → committed_in (Some n) row ≡ last_in row
all_committed None n below = refl
all_committed (Some row) n below =
    let e : is_later (Some n) row.last ≡ false = grind (arith, nat_tests) in
    ap (λ (b : Bool). cond b row.older (Some row.last)) e

stored_below : (o : Option ConfigRecord) (high n : ℕ) → IfSome o (Within 0 high) → high ≤ n → IfSome (stored_in o) (λ (s : Stored). s.offset ≤ n)
stored_below None high n w above = tt
stored_below (Some r) high n w above = let below : r.offset < high = w.1 in omega (arith, below, above)

-- a record behind a generation that was told earlier waits for a commit
later_than : (o : Option ConfigRecord) (high : ℕ) (r : ConfigRecord) → IfSome o (Within 0 high) → high ≤ r.offset → is_later (option_map (λ q. q.offset) o) (stored_of r) ≡ true
later_than None high r w above = refl
later_than (Some q) high r w above = let below : q.offset < high = w.1 in let lower : q.offset < r.offset = omega (arith, below, above) in grind (arith, nat_tests)

pub offset_in-stored : (o : Option ConfigRecord) → offset_in (stored_in o) ≡ option_map (λ r. r.offset) o
offset_in-stored None = refl
offset_in-stored (Some r) = refl

module _ (id : TaskId) (records : List ConfigRecord) (r : ConfigRecord) (row : Option TaskRow) (rises : RisesFrom 0 records) (above : end_of records ≤ r.offset) (kept : KeepsTask row id records) where
  -- what is committed in the row behind one more record, by whether that is of the task and whether it commits
  committed_by : (of commit : Bool) → (commit ≡ true → of ≡ false)
      → committed_in (option_map (λ q. q.offset) (cond commit (Some r) (last_of (Commit id.connector) records))) (cond of (Some (row_behind (generation_of id.connector records) row (stored_of r))) row)
      ≡ stored_in (cond commit (last_of (Task id) records) (committed_record id records))
  committed_by true true one = cc (one refl)
  committed_by false true one =
      let below : IfSome (last_in row) (λ (s : Stored). s.offset ≤ r.offset) =
      subst (λ (o : Option Stored). IfSome o (λ (s : Stored). s.offset ≤ r.offset)) (sym kept.last)
      (stored_below (last_of (Task id) records) (end_of records) r.offset (found_within (has_key (Task id)) 0 records rises) above) in
      all_committed row r.offset below ∙ kept.last
  committed_by true false one =
      ap (λ (b : Bool). cond b (committed_in (generation_of id.connector records) row) (Some (stored_of r)))
      (later_than (last_of (Commit id.connector) records) (end_of records) r (found_within (has_key (Commit id.connector)) 0 records rises) above)
      ∙ kept.committed
  committed_by false false one = kept.committed

  task_pushed : (now : Option TaskRow) → now ≡ puts_task (generation_of id.connector records) id r row → KeepsTask now id (records ++ r ∷ [])
  task_pushed now is = record {
    last = ap last_in is ∙ last_in-cond (has_key (Task id) r) (row_behind (generation_of id.connector records) row (stored_of r)) row
        ∙ ap (λ (o : Option Stored). cond (has_key (Task id) r) (Some (stored_of r)) o) kept.last ∙ stored-push (Task id) records r;
    committed = ap (committed_in (generation_of id.connector (records ++ r ∷ []))) is
        ∙ ap (λ (o : Option ConfigRecord). committed_in (option_map (λ q. q.offset) o) (puts_task (generation_of id.connector records) id r row)) (last_where-push (has_key (Commit id.connector)) records r)
        ∙ committed_by (has_key (Task id) r) (has_key (Commit id.connector) r) (apart r.key id)
        ∙ ap stored_in (sym (committed-push id records r rises above));
  }

and_first : (a b : Bool) → (a && b) ≡ true → a ≡ true
and_first true b e = refl
and_first false b e = e

pub end_of-push : (records : List ConfigRecord) (r : ConfigRecord) → end_of (records ++ r ∷ []) ≡ max (end_of records) (r.offset + 1)
end_of-push records r = fold-append (λ end (r : ConfigRecord). max end (r.offset + 1)) 0 records (r ∷ [])

pub above_all : (records : List ConfigRecord) (r : ConfigRecord) → may_follow records r ≡ true → end_of records ≤ r.offset
above_all records r follows =
    let first : leb (end_of records) r.offset ≡ true = and_first (leb (end_of records) r.offset) (is_backed records r.key r.value) follows in grind (arith, nat_tests)

pub keeps-push : (old new : Tables) (records : List ConfigRecord) (r : ConfigRecord) → Keeps old records → may_follow records r ≡ true → Puts r old new → Keeps new (records ++ r ∷ [])
keeps-push old new records r kept follows puts =
    let above : end_of records ≤ r.offset = above_all records r follows in
    let ended : end_of (records ++ r ∷ []) ≡ r.offset + 1 = omega (arith, end_of-push records r, above) in
    record {
      rises = rises-push 0 records r kept.rises above;
      end = ap end_at puts.last ∙ sym ended;
      connectors = λ name. puts.connectors name ∙ ap (puts_row (Connector name) r) (kept.connectors name) ∙ stored-push (Connector name) records r;
      commits = λ name. puts.commits name ∙ ap (puts_row (Commit name) r) (kept.commits name) ∙ stored-push (Commit name) records r;
      targets = λ name. puts.targets name ∙ ap (puts_row (Target name) r) (kept.targets name) ∙ stored-push (Target name) records r;
      fences = λ name. puts.fences name ∙ ap (puts_row (Fencing name) r) (kept.fences name) ∙ stored-push (Fencing name) records r;
      tasks = λ id.
          let told : generation_at old id.connector ≡ generation_of id.connector records = ap offset_in (kept.commits id.connector) ∙ offset_in-stored (last_of (Commit id.connector) records) in
          task_pushed id records r (task_at old.tasks id) kept.rises above (kept.tasks id) (task_at new.tasks id)
          (puts.tasks id ∙ ap (λ (g : Option ℕ). puts_task g id r (task_at old.tasks id)) told);
    }
