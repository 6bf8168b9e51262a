use Rattle.std.proofs.Common.{ℕ, List, [], ◌++◌, refl, ap, ◌∙◌}
use Rattle.std.specs.List.{flat_map}
use Rattle.cw_keys.specs.Parts.{part_text}
use Rattle.cw_bytes.specs.Frames.{joined}
use Rattle.cw_txn.specs.declared.entry.Entry.{Entry}
use Rattle.cw_audit.specs.Listed.{offsets_line, offsets_lines, parts_in}
use Rattle.cw_audit.proofs.Walks.{owned_in, owned-join, lines-of-frames}
use Rattle.cw_audit.proofs.parts.write_parts.Goals as goal

pub returns : goal.returns
unfolding offsets_lines
returns c = c.in_ok-write.ensures ∙ ap (λ (l : List ℕ). c.args.report.now.items ++ l)
    (lines-of-frames part_text (offsets_line c.args.coordinator.now.entries) owned_in owned-join c.args.frames.now c.loop-frame.frame-index [] c.loop-frame.rows c.loop-frame.invariant
    c.loop-frame-test.false refl
    ∙ ap (λ (l : List Entry). flat_map (offsets_line l) (parts_in (joined c.args.frames.now))) c.requires)
