use Rattle.std.proofs.Common.{◌≡◌, ◌∙◌, ℕ, List, Option, Some, None, is_some, true, Vec, sym}
use Rattle.std.specs.declared.alloc.Global.{Global}
use Rattle.cw_log.specs.State.{IsFound, IsKnown}
use Rattle.cw_log.proofs.find.find.Goals as goal

found_of : (known : Option (Vec ℕ Global)) (starts : List ℕ) → is_some known ≡ true → IsKnown known starts → IsFound known starts
found_of None starts some is = absurd (cc)
found_of (Some known) starts some is = is

pub returns-then-is_some-clause-known : goal.returns-then-is_some-clause-known
returns-then-is_some-clause-known g c file is = (c.requires.known file is).1

pub returns-then-is_some-clause-found : goal.returns-then-is_some-clause-found
returns-then-is_some-clause-found g c file is = found_of c.args.frames.now.known c.args.frames.now.starts.items (sym c.is_some.ensures ∙ c.if-is_some.true) (c.requires.known file is).1

pub returns-clause-found : goal.returns-clause-found
returns-clause-found g c file is = c.reserve.ensures.items ∙ c.in_ok-starts.ensures.starts file is c.args.frames.now.gate c.args.frames.now.starts.items (c.requires.known file is).0 (sym c.count.ensures)

pub returns-clause-known : goal.returns-clause-known
returns-clause-known g c file is = c.reserve.ensures.items ∙ c.in_ok-starts.ensures.starts file is c.args.frames.now.gate c.args.frames.now.starts.items (c.requires.known file is).0 (sym c.count.ensures)
