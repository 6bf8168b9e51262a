use Rattle.std.proofs.Common.{◌≡◌, ◌+◌, drop}
use Rattle.std.specs.Option.{option_map}
use Rattle.cw_http.specs.HeadEnd.{head_length}
use Rattle.cw_http.proofs.head_end.head_length.Given as goal

-- the length is that behind the bytes so far, and these
abbrev pub invariant-loop-at : goal.invariant-loop-at
invariant-loop-at l = option_map (λ n. l.at + n) (head_length (drop l.at l.bytes)) ≡ head_length l.bytes
