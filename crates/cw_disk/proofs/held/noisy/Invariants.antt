use Rattle.std.proofs.Common.{◌≡◌, map, cond, get_or}
use Rattle.std.specs.List.{range_with_len}
use Rattle.cw_disk.specs.Memory.{is_loose}
use Rattle.cw_disk.proofs.held.noisy.Given as goal

-- the image so far
abbrev pub invariant-loop-i : goal.invariant-loop-i
invariant-loop-i l = l.image.items ≡ map (λ i. cond (is_loose l.loose i) 255 (get_or l.bytes i 0)) (range_with_len 0 l.i)
