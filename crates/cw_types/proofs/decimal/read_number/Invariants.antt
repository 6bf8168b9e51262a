use Rattle.std.proofs.Common.{◌≡◌, drop}
use Rattle.cw_types.specs.Decimal.{read_on}
use Rattle.cw_types.proofs.decimal.read_number.Given as goal

abbrev pub invariant-loop-byte : goal.invariant-loop-byte
invariant-loop-byte l = read_on l.value (drop l.byte-index l.text) ≡ read_on 0 l.text
