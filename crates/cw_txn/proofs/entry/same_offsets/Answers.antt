use Rattle.std.proofs.Common.{sym}
use Rattle.std.proofs.lemmas.Slice.Eq.{slice_eq-Decides}
use Rattle.cw_txn.proofs.Equals.{set-Decides}
use Rattle.cw_txn.proofs.entry.same_offsets.Goals as goal

pub returns : goal.returns
returns c =
    let tells = slice_eq-Decides set-Decides c.args.a.now c.args.b.now c.eq.result c.eq.ensures in
    (λ same. sym (tells.0 same), λ same. tells.1 (sym same))
