use Rattle.std.proofs.Common.{refl, sym, ◌∙◌}
use Rattle.cw_open.proofs.FenceLemmas.{fence_noted}
use Rattle.cw_open.proofs.fences.note_fence.Goals as goal

pub returns-in_ok-note-in-Some : goal.returns-in_ok-note-in-Some
returns-in_ok-note-in-Some c =
    fence_noted c.args.name.now c.in-Some.generation c.args.mark c.args.table.now _ (sym (c.in-Some.ensures ∙ c.get.ensures.value)) refl c.in_ok-note-in-Some.ensures
