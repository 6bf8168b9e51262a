use Rattle.std.proofs.Common.{ℕ, List, IsSome, drop}
use Rattle.std.specs.BTreeMap.{get}
use Rattle.cw_data.specs.Rows.{WaitsAt}
use Rattle.cw_data.specs.Tables.{marks_in, name_order, NextAt, RoomAt}
use Rattle.cw_data.proofs.tables.advance_all.Given as goal

abbrev pub invariant-loop-place : goal.invariant-loop-place
invariant-loop-place l = record {
  waits : (name : List ℕ) → WaitsAt (marks_in l.marks) l.entries name (get name_order l.topics name);
  next : (name : List ℕ) → NextAt (marks_in l.marks) l.entries name (drop l.place-index l.places) (get name_order l.topics name);
  rows : (name : List ℕ) → IsSome (get name_order l.initial.topics name) → IsSome (get name_order l.topics name);
  room : (n : ℕ) (name : List ℕ) → RoomAt n (get name_order l.initial.topics name) → RoomAt n (get name_order l.topics name);
}
