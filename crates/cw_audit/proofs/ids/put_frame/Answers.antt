use Rattle.cw_types.specs.Text.{tid_text}
use Rattle.cw_audit.specs.Listed.{id_line}
use Rattle.cw_audit.proofs.Walks.{ids_of, ids-join, one-more, all-put}
use Rattle.cw_audit.proofs.ids.put_frame.Goals as goal

pub loop-entry-preserved : goal.loop-entry-preserved
loop-entry-preserved c =
    one-more (tid_text c.args.group.now) (id_line c.args.group.now c.args.coordinator.now.entries) ids_of ids-join c.args.frame.now c.loop-entry.entry-index c.args.rows.now c.loop-entry.rows c.loop-entry.invariant
    c.entry-item.result c.loop-entry-test.true c.entry-item.is c.put_entry.new.rows c.in_ok-put_entry.ensures

pub returns : goal.returns
returns c =
    all-put (tid_text c.args.group.now) (id_line c.args.group.now c.args.coordinator.now.entries) ids_of ids-join c.args.frame.now c.loop-entry.entry-index c.args.rows.now c.loop-entry.rows c.loop-entry.invariant
    c.loop-entry-test.false
