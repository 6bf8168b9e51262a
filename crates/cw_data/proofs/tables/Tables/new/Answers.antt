use Rattle.std.proofs.Common.{rules}
use Rattle.cw_data.specs.Tables.{marks_in}
use Rattle.cw_data.proofs.tables.Tables.new.Goals as goal

pub returns-clause-kept : goal.returns-clause-kept
returns-clause-kept c = record {
  marks = λ tag. search rules;
  unmarked = c.new-2.ensures.kept (marks_in c.new.result);
  topics = λ name. search rules;
}
