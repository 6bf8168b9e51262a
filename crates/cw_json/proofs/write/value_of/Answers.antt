use Rattle.std.proofs.Common.{◌≡◌, ◌<◌, ◌≤◌, ◌+◌, drop, length, get_or, ap, sym, ◌∙◌, subst}
use Rattle.serde_json.specs.Data.{object}
use Rattle.serde_json.proofs.Views.{view-Object}
use Rattle.cw_json.proofs.Pairs.{puts_done, put_next}
use Rattle.cw_json.proofs.Pairs.{Pairs}
use Rattle.cw_json.proofs.Pairs.{puts}
use Rattle.cw_json.proofs.write.value_of.Goals as goal

pub loop-key-preserved : goal.loop-key-preserved
loop-key-preserved c =
    let same : c.as_slice-key-items.result.now ≡ c.args.props.now = c.as_slice-key-items.ensures.pairs in
    let within : c.loop-key.key-index < length c.args.props.now = subst (λ (ps : Pairs). c.loop-key.key-index < length ps) same c.loop-key-test.true in
    let item : get_or c.args.props.now c.loop-key.key-index c.loop-key-item.result ≡ c.loop-key-item.result =
    ap (λ (ps : Pairs). get_or ps c.loop-key.key-index c.loop-key-item.result) (sym same) ∙ sym c.loop-key-item.is in
    ap (puts (drop (c.loop-key.key-index + 1) c.args.props.now)) c.in_ok-put_text.ensures
    ∙ put_next c.args.props.now c.loop-key.key-index c.loop-key-item.result.0 c.loop-key-item.result.1 _ within c.loop-key-item.result item
    ∙ c.loop-key.invariant

pub returns : goal.returns
returns c =
    let same : c.as_slice-key-items.result.now ≡ c.args.props.now = c.as_slice-key-items.ensures.pairs in
    view-Object c.loop-key.members ∙ ap object (puts_done c.args.props.now c.loop-key.key-index _
    (subst (λ (ps : Pairs). length ps ≤ c.loop-key.key-index) same c.loop-key-test.false) c.as_slice-key-items.ensures.rising c.loop-key.invariant)
