use Rattle.std.proofs.Common.{◌≡◌, ◌++◌, ◌∷◌, drop, string_bytes}
use Rattle.std.specs.List.{flat_map, join_with_byte}
use Rattle.cw_plugin.proofs.shares.joined.Given as goal

abbrev pub invariant-loop-next : goal.invariant-loop-next
invariant-loop-next l = string_bytes l.text ++ flat_map (λ t. 44 ∷ t) (drop l.next-index l.behind) ≡ join_with_byte 44 l.texts
