use Rattle.std.proofs.Common.{ℕ, List, [], ◌++◌, ap, ◌∙◌}
use Rattle.std.specs.List.{flat_map}
use Rattle.cw_config.specs.declared.records.ConfigRecord.{ConfigRecord}
use Rattle.cw_audit.specs.Listed.{connectors_in, tasks_line, tasks_lines}
use Rattle.cw_audit.specs.Rows.{lines_in}
use Rattle.cw_audit.proofs.Risen.{lines-risen}
use Rattle.cw_audit.proofs.Walks.{committed_of, committed-join, one-more, all-put}
use Rattle.cw_audit.proofs.connectors.write_connectors.Goals as goal

pub loop-config-preserved : goal.loop-config-preserved
loop-config-preserved c =
    one-more (λ (name : List ℕ). name) (tasks_line c.args.configs.now) committed_of committed-join c.args.records.now c.loop-config.config-index [] c.loop-config.rows c.loop-config.invariant
    c.config-item.result c.loop-config-test.true c.config-item.is c.put_config.new.rows c.in_ok-put_config.ensures

pub returns : goal.returns
unfolding tasks_lines
returns c = c.in_ok-write.ensures ∙ ap (λ (l : List ℕ). c.args.report.now.items ++ l)
    (ap lines_in (all-put (λ (name : List ℕ). name) (tasks_line c.args.configs.now) committed_of committed-join c.args.records.now c.loop-config.config-index [] c.loop-config.rows c.loop-config.invariant c.loop-config-test.false)
    ∙ lines-risen (λ (name : List ℕ). name) (tasks_line c.args.configs.now) (committed_of c.args.records.now)
    ∙ ap (λ (l : List ConfigRecord). flat_map (tasks_line l) (connectors_in c.args.records.now)) c.requires)
