-- Keys of the config and the status log, both ways.
use Rattle.std.proofs.Common.{◌≡◌, ℕ, List, ◌++◌, drop, nat_eq, Some, None, option_map, codes, refl, sym, ap, subst, ◌∙◌}
use Rattle.std.specs.List.{starts_with}
use Rattle.cw_types.specs.Name.{IsName}
use Rattle.cw_types.specs.declared.ids.Item.{Item}
use Rattle.cw_types.specs.declared.ids.Item.TheVariants as item
use Rattle.cw_types.specs.Name.{name_of}
use Rattle.cw_keys.specs.ConfigKeys.{set_key, config_key, config_key_text, IsConfigKey}
use Rattle.cw_keys.specs.Statuses.{status_item, status_key, IsItem}
use Rattle.cw_keys.specs.declared.config_key.ConfigKey.{ConfigKey}
use Rattle.cw_keys.specs.declared.config_key.ConfigKey.TheVariants.{Connector, Task, Commit, Target, Fencing}
use Rattle.cw_keys.proofs.Cuts.{start, name_again, name_only, task_again, task_only, mapped, chosen}

pub config_key_again : (key : ConfigKey) → IsConfigKey key → config_key (config_key_text key) ≡ Some key
config_key_again (Connector name) named = ap (option_map Connector) (name_again name named)
config_key_again (Task id) task = ap (option_map Task) (task_again id task)
config_key_again (Commit name) named = ap (option_map Commit) (name_again name named)
config_key_again (Target name) named = ap (option_map Target) (name_again name named)
config_key_again (Fencing name) named = ap (option_map Fencing) (name_again name named)

abbrev Spells : List ℕ → ConfigKey → Type 0
Spells bytes key = (bytes ≡ config_key_text key) × IsConfigKey key

-- a name behind a front, as a key of some kind
name_behind : (bytes front : List ℕ) (make : List ℕ → ConfigKey) (key : ConfigKey) (n : ℕ) → ((name : List ℕ) → config_key_text (make name) ≡ front ++ name) → ((name : List ℕ) → IsName name → IsConfigKey (make name))
    → bytes ≡ front ++ drop n bytes → option_map make (name_of (drop n bytes)) ≡ Some key → Spells bytes key
name_behind bytes front make key n text is whole found =
    let x = mapped make _ key found in
    let name = name_only (drop n bytes) x.0 x.1 in
    subst (Spells bytes) x.2 (whole ∙ ap (λ back. front ++ back) name.0 ∙ sym (text x.0), is x.0 name.1)

set_key_only : (key : ConfigKey) (bytes : List ℕ) → set_key bytes ≡ Some key → Spells bytes key
set_key_only key bytes e =
    chosen (starts_with nat_eq bytes (codes "commit-")) _ _ key _ e
    (λ starts found. name_behind bytes (codes "commit-") Commit key 7 (λ name. refl) (λ name h. h) (start bytes (codes "commit-") starts) found)
    (λ e. chosen (starts_with nat_eq bytes (codes "target-state-")) _ _ key _ e
    (λ starts found. name_behind bytes (codes "target-state-") Target key 13 (λ name. refl) (λ name h. h) (start bytes (codes "target-state-") starts) found)
    (λ e. chosen (starts_with nat_eq bytes (codes "tasks-fencing-")) _ None key _ e
    (λ starts found. name_behind bytes (codes "tasks-fencing-") Fencing key 14 (λ name. refl) (λ name h. h) (start bytes (codes "tasks-fencing-") starts) found)
    (λ e. cc)))

pub config_key_only : (key : ConfigKey) (bytes : List ℕ) → config_key bytes ≡ Some key → (bytes ≡ config_key_text key) × IsConfigKey key
config_key_only key bytes e =
    chosen (starts_with nat_eq bytes (codes "connector-")) _ _ key _ e
    (λ starts found. name_behind bytes (codes "connector-") Connector key 10 (λ name. refl) (λ name h. h) (start bytes (codes "connector-") starts) found)
    (λ e. chosen (starts_with nat_eq bytes (codes "task-")) _ _ key _ e
    (λ starts found. let x = mapped Task _ key found in let task = task_only x.0 (drop 5 bytes) x.1 in
    subst (Spells bytes) x.2 (start bytes (codes "task-") starts ∙ ap (λ back. codes "task-" ++ back) task.0, task.1))
    (λ e. set_key_only key bytes e))

pub status_item_again : (i : Item) → IsItem i → status_item (status_key i) ≡ Some i
status_item_again (item.Connector name) named = ap (option_map item.Connector) (name_again name named)
status_item_again (item.Task id) task = ap (option_map item.Task) (task_again id task)

pub status_item_only : (i : Item) (bytes : List ℕ) → status_item bytes ≡ Some i → (bytes ≡ status_key i) × IsItem i
status_item_only i bytes e =
    chosen (starts_with nat_eq bytes (codes "status-connector-")) _ _ i _ e
    (λ starts found. let x = mapped item.Connector _ i found in let name = name_only (drop 17 bytes) x.0 x.1 in
    subst (λ (j : Item). (bytes ≡ status_key j) × IsItem j) x.2 (start bytes (codes "status-connector-") starts ∙ ap (λ back. codes "status-connector-" ++ back) name.0, name.1))
    (λ e. chosen (starts_with nat_eq bytes (codes "status-task-")) _ None i _ e
    (λ starts found. let x = mapped item.Task _ i found in let task = task_only x.0 (drop 12 bytes) x.1 in
    subst (λ (j : Item). (bytes ≡ status_key j) × IsItem j) x.2 (start bytes (codes "status-task-") starts ∙ ap (λ back. codes "status-task-" ++ back) task.0, task.1))
    (λ e. cc))
