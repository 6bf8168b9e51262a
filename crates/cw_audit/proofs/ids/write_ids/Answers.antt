use Rattle.std.proofs.Common.{ℕ, List, [], ◌++◌, refl, ap, ◌∙◌}
use Rattle.std.specs.List.{flat_map}
use Rattle.cw_types.specs.Text.{tid_text}
use Rattle.cw_bytes.specs.Frames.{joined}
use Rattle.cw_txn.specs.declared.entry.Entry.{Entry}
use Rattle.cw_audit.specs.Listed.{id_line, id_lines, ids_in}
use Rattle.cw_audit.specs.Rows.{with_ids}
use Rattle.cw_audit.proofs.Walks.{ids_of, ids-join, frame-more, lines-of-frames}
use Rattle.cw_audit.proofs.ids.write_ids.Goals as goal

pub loop-frame-preserved : goal.loop-frame-preserved
loop-frame-preserved c =
    frame-more (tid_text c.args.group.now) (id_line c.args.group.now c.args.coordinator.now.entries) ids_of ids-join c.args.frames.now c.loop-frame.frame-index [] c.loop-frame.rows c.loop-frame.invariant
    c.frame-item.result c.loop-frame-test.true c.frame-item.is c.put_frame.new.rows
    (c.in_ok-put_frame.ensures ∙ ap (λ (l : List Entry). with_ids c.args.group.now c.args.coordinator.now.entries l c.loop-frame.rows) c.as_slice.ensures)

pub returns : goal.returns
unfolding id_lines
returns c = c.in_ok-write.ensures ∙ ap (λ (l : List ℕ). c.args.report.now.items ++ l)
    (lines-of-frames (tid_text c.args.group.now) (id_line c.args.group.now c.args.coordinator.now.entries) ids_of ids-join c.args.frames.now c.loop-frame.frame-index [] c.loop-frame.rows c.loop-frame.invariant
    c.loop-frame-test.false refl
    ∙ ap (λ (l : List Entry). flat_map (id_line c.args.group.now l) (ids_in c.args.group.now (joined c.args.frames.now))) c.requires)
