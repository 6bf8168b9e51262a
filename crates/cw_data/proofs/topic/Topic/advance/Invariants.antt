use Rattle.std.proofs.Common.{◌≡◌, ℕ, ◌-◌, List, vec_len, vec_capacity}
use Rattle.cw_data.specs.Rows.{Waits, IsSound}
use Rattle.cw_data.specs.Tables.{marks_in}
use Rattle.cw_data.proofs.topic.Topic.advance.Given as goal

abbrev pub invariant-loop-self : goal.invariant-loop-self
invariant-loop-self l = record {
  sound : IsSound l.self;
  waits : (name : List ℕ) → Waits (marks_in l.marks) l.entries name l.initial.self → Waits (marks_in l.marks) l.entries name l.self;
  len : vec_len l.self.rows ≡ vec_len l.initial.self.rows;
  capacity : vec_capacity l.self.rows ≡ vec_capacity l.initial.self.rows;
}

abbrev pub decreases-loop-self : goal.decreases-loop-self
decreases-loop-self l = vec_len l.self.rows - l.self.passed
