use Rattle.std.proofs.Common.{◌≡◌, ◌++◌, take}
use Rattle.std.specs.List.{flat_map}
use Rattle.cw_script.specs.Spelling.{pair_text}
use Rattle.cw_script.proofs.spell.add_pairs.Given as goal

-- the pairs so far stand behind the line
abbrev pub invariant-loop-pair : goal.invariant-loop-pair
invariant-loop-pair l = l.line.items ≡ l.initial.line.items ++ flat_map pair_text (take l.pair-index l.pairs)
