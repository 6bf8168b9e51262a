use Rattle.std.proofs.Common.{◌≡◌, List, ℕ, ◌++◌, Bool, true, false, if◌then◌else◌}
use Rattle.cw_lines.specs.Lines.{is_line}
use Rattle.cw_lines.proofs.LineLemmas.{is_line-append}
use Rattle.cw_lines.proofs.reading.Reading.hold.Goals as goal

either : (b : Bool) (xs ys : List ℕ) → is_line xs ≡ true → is_line ys ≡ true → is_line (if b then xs ++ ys else xs) ≡ true
either true xs ys front back = is_line-append xs ys front back
either false xs ys front back = front

pub invariant_of-self-clause-unended : goal.invariant_of-self-clause-unended
invariant_of-self-clause-unended c = rw c.extend_from_slice.ensures.items (either _ c.args.self.now.pending.items c.args.tail.now c.args.self.now.unended c.requires.whole)
