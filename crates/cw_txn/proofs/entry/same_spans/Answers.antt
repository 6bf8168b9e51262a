use Rattle.std.proofs.Common.{sym}
use Rattle.std.proofs.lemmas.Slice.Eq.{slice_eq-Decides}
use Rattle.cw_txn.proofs.Equals.{span-Decides}
use Rattle.cw_txn.proofs.entry.same_spans.Goals as goal

pub returns : goal.returns
returns c =
    let tells = slice_eq-Decides span-Decides c.args.a.now c.args.b.now c.eq.result c.eq.ensures in
    (λ same. sym (tells.0 same), λ same. tells.1 (sym same))
