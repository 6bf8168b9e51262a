use Rattle.std.proofs.Common.{◌≡◌, ◌++◌, map}
use Rattle.cw_reply.proofs.offset.parts_in.Given as goal

abbrev pub invariant-loop-place : goal.invariant-loop-place
invariant-loop-place l = l.parts.items ++ map (λ placed. placed.part) l.place-iterator ≡ map (λ placed. placed.part) l.placed.keys
