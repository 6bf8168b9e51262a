use Rattle.std.proofs.Common.{◌≡◌, ℕ, ◌<◌, get_or}
use Rattle.cw_serve.proofs.turns.note_all.Given as goal

-- those that were written are noted
abbrev pub invariant-loop-moment : goal.invariant-loop-moment
invariant-loop-moment l = (w : ℕ) → w < l.moment-index → get_or l.moments w 0 ≡ l.now
