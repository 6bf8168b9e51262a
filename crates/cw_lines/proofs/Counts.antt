-- Counts of faults over the parts of a call.
use Rattle.std.proofs.Common.{arith}
use Rattle.cw_lines.specs.Players.{Faults, NoneFell}

pub fell_none : (f : Faults) → NoneFell f f
fell_none f = record { disks = λ disk. omega arith; outlet = omega arith }

pub fell_then : (a b c : Faults) → NoneFell a b → NoneFell b c → NoneFell a c
fell_then a b c one two = record { disks = λ disk. omega (arith, one.disks disk, two.disks disk); outlet = omega (arith, one.outlet, two.outlet) }
