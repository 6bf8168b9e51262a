use Rattle.std.proofs.Common.{◌++◌, ◌∷◌, [], List, take, ap, sym, subst, ◌∙◌, arith, append_assoc}
use Rattle.std.specs.List.{filter_map}
use Rattle.std.proofs.lemmas.List.{take_all}
use Rattle.std.proofs.lemmas.List.Elements.{filter_map-append}
use Rattle.cw_bytes.specs.declared.applied.Applied.{Applied}
use Rattle.cw_config.specs.declared.records.ConfigRecord.{ConfigRecord}
use Rattle.cw_config.specs.Compaction.{keyed}
use Rattle.cw_compact.specs.Clean.{IsClean}
use Rattle.cw_compact.proofs.Joined.{more, append_none}
use Rattle.cw_compact.proofs.keyed.note_keyed.Goals as goal

pub loop-record-init : goal.loop-record-init
loop-record-init c = λ before clean. subst (IsClean c.args.clean.now) (sym (append_none before)) clean

pub loop-record-preserved : goal.loop-record-preserved
loop-record-preserved c =
    let records : List Applied = c.args.records.now in
    let front : List Applied = take c.loop-record.record-index records in
    λ before clean.
    subst (IsClean c.note_key.new.clean)
    (append_assoc before (filter_map keyed front) (filter_map keyed (c.record-item.result ∷ []))
    ∙ ap (λ (l : List ConfigRecord). before ++ l) (sym (ap (filter_map keyed) (more records c.loop-record.record-index c.record-item.result c.loop-record-test.true c.record-item.is)
    ∙ filter_map-append keyed front (c.record-item.result ∷ []))))
    (c.in_ok-note_key.ensures (before ++ filter_map keyed front) (c.loop-record.invariant before clean))

pub returns : goal.returns
returns c = λ before clean. subst (λ (l : List Applied). IsClean c.loop-record.clean (before ++ filter_map keyed l)) (take_all c.loop-record.record-index c.args.records.now (omega arith)) (c.loop-record.invariant before clean)
