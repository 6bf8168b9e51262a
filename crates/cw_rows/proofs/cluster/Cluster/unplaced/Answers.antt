use Rattle.std.proofs.Common.{◌≡◌, ℕ, ◌+◌, List, length, ap, ◌∙◌}
use Rattle.cw_types.specs.declared.logs.LogName.TheVariants.{Config}
use Rattle.cw_config.specs.Acceptance.{end_of}
use Rattle.cw_config.specs.declared.records.ConfigRecord.{ConfigRecord}
use Rattle.cw_txn.specs.Transactions.{Transactions}
use Rattle.cw_model.specs.declared.fault.WorldFault.TheVariants.{Full}
use Rattle.cw_model.specs.Bodies.{config_body}
use Rattle.cw_model.specs.Updates.{stamp_of, stamped}
use Rattle.cw_topics.specs.Configs.{records_from}
use Rattle.cw_rows.specs.Kept.{Kept}
use Rattle.cw_topics.proofs.ConfigFrames.{body-size}
use Rattle.cw_rows.proofs.cluster.Cluster.unplaced.Goals as goal

pub returns-in-Ok : goal.returns-in-Ok
returns-in-Ok c other =
    let s = c.args.self.now.state in
    let stamp : c.length-stamp.result ≡ stamp_of s = c.length-stamp.ensures ∙ ap (λ (t : Transactions). length t.entries) c.coordinator.ensures ∙
    ap (λ (k : Kept). stamp_of k.state) c.self.view_is in
    let size : length c.body.result.now ≡ length (config_body (stamped c.args.values.now s)) =
    ap (λ (bytes : List ℕ). length bytes) c.body.ensures.bytes ∙ ap (λ (l : List ConfigRecord). length (config_body l)) c.in-Ok.ensures ∙
    body-size 0 (end_of s.configs) c.length-stamp.result c.args.values.now ∙
    ap (λ (n : ℕ). length (config_body (records_from (end_of s.configs) n c.args.values.now))) stamp in
    record {
      is = ap (λ (n : ℕ). Full Config c.args.size (n + 5)) size;
      none = c.requires.none;
    }
