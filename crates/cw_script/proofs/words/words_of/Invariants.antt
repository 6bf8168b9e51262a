use Rattle.std.proofs.Common.{◌≡◌, ◌++◌, map}
use Rattle.cw_script.specs.Words.{words_behind, now_of, left_of}
use Rattle.cw_script.proofs.words.words_of.Given as goal

-- the words so far, and those of what is left, are those of the text
abbrev pub invariant-loop-word : goal.invariant-loop-word
invariant-loop-word l = map (λ word. word.now) l.found.items ++ words_behind (now_of l.left) ≡ words_behind (now_of l.fn.text)

abbrev pub decreases-loop-word : goal.decreases-loop-word
decreases-loop-word l = left_of l.left
