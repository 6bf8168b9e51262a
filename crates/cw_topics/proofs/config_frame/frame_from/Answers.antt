use Rattle.std.proofs.Common.{◌≡◌, ◌∙◌, List, length, sym, ap, subst, arith}
use Rattle.std.specs.List.{AllByRecursion}
use Rattle.cw_config.specs.declared.records.ConfigRecord.{ConfigRecord}
use Rattle.cw_topics.specs.Configs.{IsWritableRecord}
use Rattle.cw_topics.proofs.ConfigFrames.{records-count, records-writable}
use Rattle.cw_topics.proofs.config_frame.frame_from.Goals as goal

pub new-requires-clause-some : goal.new-requires-clause-some
new-requires-clause-some c =
    let count : length c.in_ok-records.records.items ≡ length c.args.values.now =
    ap (λ (l : List ConfigRecord). length l) c.in_ok-records.ensures ∙ records-count c.args.first c.args.stamp c.args.values.now in
    omega (arith, count, c.requires.some)

pub new-requires-clause-few : goal.new-requires-clause-few
new-requires-clause-few c =
    let count : length c.in_ok-records.records.items ≡ length c.args.values.now =
    ap (λ (l : List ConfigRecord). length l) c.in_ok-records.ensures ∙ records-count c.args.first c.args.stamp c.args.values.now in
    omega (arith, count, c.requires.few)

pub new-requires-clause-writable : goal.new-requires-clause-writable
new-requires-clause-writable c = subst (λ (l : List ConfigRecord). AllByRecursion IsWritableRecord l) (sym c.in_ok-records.ensures)
    (records-writable c.args.first c.args.stamp c.args.values.now c.requires.writable)
