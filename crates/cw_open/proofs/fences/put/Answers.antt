use Rattle.std.proofs.Common.{List, [], ◌++◌, ap, sym, subst, ◌∙◌}
use Rattle.std.proofs.lemmas.List.{append-nil}
use Rattle.cw_config.specs.declared.records.ConfigRecord.{ConfigRecord}
use Rattle.cw_laws.proofs.CompactConfigs.{read-cons}
use Rattle.cw_open.specs.Standing.{AreFences}
use Rattle.cw_open.proofs.FenceLemmas.{read_none}
use Rattle.cw_open.proofs.fences.put.Goals as goal

pub returns-in_ok-add-in-Some : goal.returns-in_ok-add-in-Some
returns-in_ok-add-in-Some c = λ records kept.
    subst (λ (l : List ConfigRecord). AreFences c.add.new.table (records ++ l)) (sym (read-cons c.args.applied.now c.in-Some.read [] (sym c.in_ok-read.ensures ∙ c.in-Some.is)))
    (c.in_ok-add-in-Some.ensures records kept)

pub returns-in-None : goal.returns-in-None
returns-in-None c = λ records kept.
    subst (AreFences c.args.table.now) (sym (append-nil records) ∙ ap (λ (l : List ConfigRecord). records ++ l) (sym (read_none c.args.applied.now (sym c.in_ok-read.ensures ∙ c.in-None.is)))) kept
