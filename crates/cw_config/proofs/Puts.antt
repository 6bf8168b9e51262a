-- The rows that one more record fills.
use Rattle.std.proofs.Common.{◌≡◌, ℕ, ◌==◌, Bool, true, false, ◌&&◌, cond, List, Option, None, Some, refl, ap, sym, ◌∙◌, arith}
use Rattle.std.specs.Option.{unwrap_or}
use Rattle.std.specs.Str.{bytes_eq}
use Rattle.std.specs.Bool.{Decides}
use Rattle.std.specs.BTreeMap.{BTreeMap, get, is_at}
use Rattle.std.specs.Ordering.{is_eq, nat_cmp, ordering_then}
use Rattle.std.specs.declared.cmp.Ordering.{Ordering}
use Rattle.std.specs.declared.cmp.Ordering.TheVariants.{Less, Equal, Greater}
use Rattle.std.specs.Cmp.Lexicographic.{slice_cmp}
use Rattle.std.proofs.lemmas.Bool.Decides.{nat_tests, Decides-and, Decides-eqb}
use Rattle.std.proofs.lemmas.Slice.Eq.{bytes_eq-Decides}
use Rattle.std.proofs.lemmas.Map.Text.{is_eq-slice_cmp}
use Rattle.cw_types.specs.Order.{name_cmp}
use Rattle.cw_types.specs.declared.ids.TaskId.{TaskId}
use Rattle.cw_keys.specs.declared.config_key.ConfigKey.{ConfigKey}
use Rattle.cw_keys.specs.declared.config_key.ConfigKey.TheVariants.{Connector, Task, Commit, Target, Fencing}
use Rattle.cw_config.specs.declared.records.ConfigRecord.{ConfigRecord}
use Rattle.cw_config.specs.declared.tables.Stored.{Stored}
use Rattle.cw_config.specs.declared.tables.TaskRow.{TaskRow}
use Rattle.cw_config.specs.declared.tables.Tables.{Tables}
use Rattle.cw_config.specs.Records.{same_key}
use Rattle.cw_config.specs.Tables.{Puts, puts_row, puts_task, stored_of, named_at, task_at, task_order, generation_at, row_behind}

row-cond : {A : Type 0} (b : Bool) (now was : Option (Option A)) (v : A) → now ≡ cond b (Some (Some v)) was → unwrap_or now None ≡ cond b (Some v) (unwrap_or was None)
row-cond true now was v e = ap (λ o. unwrap_or o None) e
row-cond false now was v e = ap (λ o. unwrap_or o None) e

cond_agrees : {A : Type 0} (b : Bool) (x y z : A) → (b ≡ true → x ≡ y) → cond b x z ≡ cond b y z
cond_agrees true x y z same = same refl
cond_agrees false x y z same = refl

is_eq-then : (o p : Ordering) → is_eq (ordering_then o p) ≡ (is_eq o && is_eq p)
is_eq-then Less p = refl
is_eq-then Equal p = refl
is_eq-then Greater p = refl

is_eq-nat_cmp : (a b : ℕ) → is_eq (nat_cmp a b) ≡ (a == b)
is_eq-nat_cmp a b = grind (arith, nat_tests)

-- one task
abbrev same_task : TaskId → TaskId → Bool
same_task a b = bytes_eq a.connector b.connector && (a.index == b.index)

task_is : (a b : TaskId) → is_at (task_order a) b ≡ same_task a b
task_is a b =
    is_eq-then (slice_cmp nat_cmp a.connector b.connector) (nat_cmp a.index b.index)
    ∙ ap (λ (x : Bool). x && is_eq (nat_cmp a.index b.index)) (is_eq-slice_cmp a.connector b.connector)
    ∙ ap (λ (x : Bool). bytes_eq a.connector b.connector && x) (is_eq-nat_cmp a.index b.index)

same_task-tells : (a b : TaskId) → same_task a b ≡ true → a ≡ b
same_task-tells a b e =
    let both = (Decides-and (bytes_eq a.connector b.connector) (a.index == b.index) (bytes_eq-Decides a.connector b.connector) (Decides-eqb a.index b.index)).0 e in
    ap (λ (n : List ℕ). record { connector = n; index = a.index }) both.0 ∙ ap (λ (i : ℕ). record { connector = b.connector; index = i }) both.1

module _ (table now : BTreeMap (List ℕ) (Option Stored)) (name : List ℕ) (stored : Stored)
    (filled : (q : List ℕ) → get name_cmp now q ≡ cond (is_at (name_cmp name) q) (Some (Some stored)) (get name_cmp table q)) where
  named_filled : (q : List ℕ) → named_at now q ≡ cond (bytes_eq name q) (Some stored) (named_at table q)
  named_filled q =
      row-cond (is_at (name_cmp name) q) (get name_cmp now q) (get name_cmp table q) stored (filled q)
      ∙ ap (λ (b : Bool). cond b (Some stored) (named_at table q)) (is_eq-slice_cmp name q)

module _ (r : ConfigRecord) (old : Tables) where
  -- the key that a record has
  by_key : (key known : ConfigKey) → r.key ≡ known → (was : Option Stored) → cond (same_key known key) (Some (stored_of r)) was ≡ puts_row key r was
  by_key key known is was = sym (ap (λ (k : ConfigKey). cond (same_key k key) (Some (stored_of r)) was) is)

  task_by_key : (id : TaskId) (known : ConfigKey) → r.key ≡ known → (generation : Option ℕ) (was : Option TaskRow)
      → cond (same_key known (Task id)) (Some (row_behind generation was (stored_of r))) was ≡ puts_task generation id r was
  task_by_key id known is generation was = sym (ap (λ (k : ConfigKey). cond (same_key k (Task id)) (Some (row_behind generation was (stored_of r))) was) is)

  module _ (now : BTreeMap (List ℕ) (Option Stored)) (name : List ℕ) where
    pub puts_connector : r.key ≡ Connector name → ((q : List ℕ) → get name_cmp now q ≡ cond (is_at (name_cmp name) q) (Some (Some (stored_of r))) (get name_cmp old.connectors q))
        → Puts r old (record old { connectors = now; last = Some r.offset })
    puts_connector is filled = record {
      last = refl;
      connectors = λ q. named_filled old.connectors now name (stored_of r) filled q ∙ by_key (Connector q) (Connector name) is (named_at old.connectors q);
      commits = λ q. by_key (Commit q) (Connector name) is (named_at old.commits q);
      targets = λ q. by_key (Target q) (Connector name) is (named_at old.targets q);
      fences = λ q. by_key (Fencing q) (Connector name) is (named_at old.fences q);
      tasks = λ id. task_by_key id (Connector name) is (generation_at old id.connector) (task_at old.tasks id);
    }

    pub puts_commit : r.key ≡ Commit name → ((q : List ℕ) → get name_cmp now q ≡ cond (is_at (name_cmp name) q) (Some (Some (stored_of r))) (get name_cmp old.commits q))
        → Puts r old (record old { commits = now; last = Some r.offset })
    puts_commit is filled = record {
      last = refl;
      connectors = λ q. by_key (Connector q) (Commit name) is (named_at old.connectors q);
      commits = λ q. named_filled old.commits now name (stored_of r) filled q ∙ by_key (Commit q) (Commit name) is (named_at old.commits q);
      targets = λ q. by_key (Target q) (Commit name) is (named_at old.targets q);
      fences = λ q. by_key (Fencing q) (Commit name) is (named_at old.fences q);
      tasks = λ id. task_by_key id (Commit name) is (generation_at old id.connector) (task_at old.tasks id);
    }

    pub puts_target : r.key ≡ Target name → ((q : List ℕ) → get name_cmp now q ≡ cond (is_at (name_cmp name) q) (Some (Some (stored_of r))) (get name_cmp old.targets q))
        → Puts r old (record old { targets = now; last = Some r.offset })
    puts_target is filled = record {
      last = refl;
      connectors = λ q. by_key (Connector q) (Target name) is (named_at old.connectors q);
      commits = λ q. by_key (Commit q) (Target name) is (named_at old.commits q);
      targets = λ q. named_filled old.targets now name (stored_of r) filled q ∙ by_key (Target q) (Target name) is (named_at old.targets q);
      fences = λ q. by_key (Fencing q) (Target name) is (named_at old.fences q);
      tasks = λ id. task_by_key id (Target name) is (generation_at old id.connector) (task_at old.tasks id);
    }

    pub puts_fence : r.key ≡ Fencing name → ((q : List ℕ) → get name_cmp now q ≡ cond (is_at (name_cmp name) q) (Some (Some (stored_of r))) (get name_cmp old.fences q))
        → Puts r old (record old { fences = now; last = Some r.offset })
    puts_fence is filled = record {
      last = refl;
      connectors = λ q. by_key (Connector q) (Fencing name) is (named_at old.connectors q);
      commits = λ q. by_key (Commit q) (Fencing name) is (named_at old.commits q);
      targets = λ q. by_key (Target q) (Fencing name) is (named_at old.targets q);
      fences = λ q. named_filled old.fences now name (stored_of r) filled q ∙ by_key (Fencing q) (Fencing name) is (named_at old.fences q);
      tasks = λ id. task_by_key id (Fencing name) is (generation_at old id.connector) (task_at old.tasks id);
    }

  module _ (now : BTreeMap TaskId (Option TaskRow)) (id : TaskId) (generation : Option ℕ) where
    abbrev filled_row : TaskRow
    filled_row = row_behind generation (task_at old.tasks id) (stored_of r)

    abbrev row_of : TaskId → TaskRow
    row_of q = row_behind (generation_at old q.connector) (task_at old.tasks q) (stored_of r)

    pub puts_task_row : r.key ≡ Task id → generation ≡ generation_at old id.connector
        → ((q : TaskId) → get task_order now q ≡ cond (is_at (task_order id) q) (Some (Some filled_row)) (get task_order old.tasks q))
        → Puts r old (record old { tasks = now; last = Some r.offset })
    puts_task_row is told filled = record {
      last = refl;
      connectors = λ q. by_key (Connector q) (Task id) is (named_at old.connectors q);
      commits = λ q. by_key (Commit q) (Task id) is (named_at old.commits q);
      targets = λ q. by_key (Target q) (Task id) is (named_at old.targets q);
      fences = λ q. by_key (Fencing q) (Task id) is (named_at old.fences q);
      tasks = λ q.
          row-cond (is_at (task_order id) q) (get task_order now q) (get task_order old.tasks q) filled_row (filled q)
          ∙ ap (λ (b : Bool). cond b (Some filled_row) (task_at old.tasks q)) (task_is id q)
          ∙ cond_agrees (same_task id q) (Some filled_row) (Some (row_of q)) (task_at old.tasks q)
          (λ (same : same_task id q ≡ true). ap (λ (g : Option ℕ). Some (row_behind g (task_at old.tasks id) (stored_of r))) told ∙ ap (λ (t : TaskId). Some (row_of t)) (same_task-tells id q same))
          ∙ task_by_key q (Task id) is (generation_at old q.connector) (task_at old.tasks q);
    }
