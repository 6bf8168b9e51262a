use Rattle.std.proofs.Common.{List, sym, subst}
use Rattle.cw_config.specs.declared.records.ConfigRecord.{ConfigRecord}
use Rattle.cw_config.specs.Tables.{Keeps}
use Rattle.cw_config.proofs.Pushed.{keeps-push}
use Rattle.cw_config.proofs.tables.add.Goals as goal

pub returns-clause-kept : goal.returns-clause-kept
returns-clause-kept c =
    subst (λ (records : List ConfigRecord). Keeps c.put.new.self records) (sym c.and.ensures)
    (keeps-push c.args.tables.now c.put.new.self c.args.records.now.items c.args.added c.requires.kept c.requires.follows c.put.ensures.put)
