use Rattle.std.proofs.Common.{◌≡◌, ◌++◌, take}
use Rattle.std.specs.List.{flat_map}
use Rattle.cw_run.specs.Answers.{span_words}
use Rattle.cw_cluster.specs.Outcomes.{spaced}
use Rattle.cw_cluster.proofs.wording.write_spans.Given as goal

abbrev pub invariant-loop-span : goal.invariant-loop-span
invariant-loop-span l =
    l.text.items ≡ l.initial.text.items ++ flat_map (λ span. spaced (span_words span)) (take l.span-index l.spans)
