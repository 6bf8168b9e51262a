use Rattle.std.proofs.Common.{◌≡◌, ◌≤◌, ◌+◌, List, ℕ, Some, None, take, drop, is_some, vec_capacity}
use Rattle.cw_disk.specs.Disk.{AddsOf}
use Rattle.cw_log.specs.Log.{length_of}
use Rattle.cw_log.specs.Compaction.{IsClosed, IsStaged, bodies_in}
use Rattle.cw_log.proofs.compact.stage_all.Given as goal

-- the bodies so far stand behind the closed first gate
abbrev pub invariant-loop-body : goal.invariant-loop-body
invariant-loop-body g l = record {
  staged : (file : List ℕ) → g.D.Disk.holds l.disk ≡ Some file → IsStaged l.fn.kind l.fn.number (bodies_in (take l.body-index l.bodies)) l.frames file;
  unknown : l.frames.known ≡ None;
  count : l.frames.count ≡ l.body-index;
  low : 16 ≤ l.frames.gate;
  left : l.frames.gate + length_of (bodies_in (drop l.body-index l.bodies)) ≡ 16 + length_of (bodies_in l.bodies);
  closed : (file : List ℕ) → g.D.Disk.holds l.disk ≡ Some file → (image : List ℕ) → g.D.Disk.may_leave l.disk image → IsClosed image;
  told : is_some (g.D.Disk.holds l.disk) ≡ is_some (g.D.Disk.holds l.fn.disk);
  adds : (file : List ℕ) → g.D.Disk.holds l.fn.disk ≡ Some file → AddsOf g.D.Disk.moment g.D.Disk.left_since l.fn.disk l.disk IsClosed;
  reserved : g.D.Disk.reserved l.fn.disk ≤ g.D.Disk.reserved l.disk;
  later : g.D.Disk.count l.fn.disk ≤ g.D.Disk.count l.disk;
  room : vec_capacity l.fn.room ≤ vec_capacity l.room;
}
