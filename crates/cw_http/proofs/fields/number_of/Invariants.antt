use Rattle.std.proofs.Common.{◌≡◌, ◌≤◌, min, drop}
use Rattle.cw_types.specs.Decimal.{read_on}
use Rattle.cw_http.proofs.fields.number_of.Given as goal

-- the digits that are left, behind the number so far
abbrev pub invariant-loop-digit : goal.invariant-loop-digit
invariant-loop-digit l = record {
  within : l.number ≤ 1048577;
  number : min (read_on l.number (drop l.digit-index l.digits)) 1048577 ≡ min (read_on 0 l.digits) 1048577;
}
