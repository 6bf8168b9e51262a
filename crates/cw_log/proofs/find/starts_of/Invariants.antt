use Rattle.std.proofs.Common.{◌≡◌, ◌≤◌, ◌-◌, List, ℕ, Some, length, vec_len}
use Rattle.cw_disk.specs.Told.{ReadsOf}
use Rattle.cw_log.specs.Calls.{IsWindow}
use Rattle.cw_log.specs.Log.{Begins, places_before}
use Rattle.cw_log.proofs.Begun.{Begun}
use Rattle.cw_log.proofs.find.starts_of.Given as goal

-- the first frames are found, and the file is only read
abbrev pub invariant-frames : goal.invariant-frames
invariant-frames g l = record {
  reads : ReadsOf g.D.Disk.holds g.D.Disk.may_leave g.D.Disk.moment g.D.Disk.left_since g.D.Disk.count g.D.Disk.reserved l.fn.disk l.disk;
  window : (file : List ℕ) → g.D.Disk.holds l.fn.disk ≡ Some file → IsWindow file l.window;
  within : l.window.filled ≤ length l.window.bytes.items;
  begun : (file : List ℕ) → g.D.Disk.holds l.fn.disk ≡ Some file → (gate : ℕ) (starts : List ℕ) → Begins gate (places_before gate starts) file → length starts ≡ l.fn.count → Begun gate starts l.starts.items l.at;
}

abbrev pub decreases-frames : goal.decreases-frames
decreases-frames g l = l.fn.count - vec_len l.starts
