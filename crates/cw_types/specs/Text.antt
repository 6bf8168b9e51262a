-- The texts of transactional ids (KIP-618: one id for the leader, one for each source task).
use Rattle.std.specs.Prelude.{ℕ, List, ◌++◌, codes, decimal}
use Rattle.cw_types.specs.declared.ids.Tid.{Tid}
use Rattle.cw_types.specs.declared.ids.Tid.TheVariants.{Lead, Task, Raw}

-- the text of an id in a group
abbrev pub tid_text : List ℕ → Tid → List ℕ
tid_text group Lead = codes "connect-cluster-" ++ group
tid_text group (Task id) = group ++ codes "-" ++ id.connector ++ codes "-" ++ decimal id.index
tid_text group (Raw n) = codes "raw-" ++ decimal n
