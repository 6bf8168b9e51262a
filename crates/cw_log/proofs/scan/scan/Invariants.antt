use Rattle.std.proofs.Common.{◌≡◌, ◌≤◌, ◌+◌, ◌-◌, List, [], ℕ, Some, length}
use Rattle.cw_disk.specs.Told.{ReadsOf}
use Rattle.cw_log.specs.Calls.{IsWindow}
use Rattle.cw_log.specs.Log.{Begins, bodies_at, places_before}
use Rattle.cw_log.proofs.scan.scan.Given as goal

-- the frames so far are whole, only read, and shown
abbrev pub invariant-frames : goal.invariant-frames
invariant-frames g l = record {
  reads : ReadsOf g.D.Disk.holds g.D.Disk.may_leave g.D.Disk.moment g.D.Disk.left_since g.D.Disk.count g.D.Disk.reserved l.fn.disk l.disk;
  window : (file : List ℕ) → g.D.Disk.holds l.fn.disk ≡ Some file → IsWindow file l.window;
  within : l.window.filled ≤ length l.window.bytes.items;
  begins : (file : List ℕ) → g.D.Disk.holds l.fn.disk ≡ Some file → Begins l.at (places_before l.at l.starts.items) file;
  seen : (file : List ℕ) → g.D.Disk.holds l.fn.disk ≡ Some file → g.V.BodyVisitor.has_seen l.fn.visitor [] → g.V.BodyVisitor.has_seen l.visitor (bodies_at (places_before l.at l.starts.items) file);
  counted : l.count ≡ length l.starts.items;
  low : 16 + l.count ≤ l.at;
  high : l.at ≤ l.size;
}

abbrev pub decreases-frames : goal.decreases-frames
decreases-frames g l = l.size - l.at
