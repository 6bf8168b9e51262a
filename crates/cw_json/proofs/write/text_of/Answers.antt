use Rattle.std.proofs.Common.{Result, Ok, Err, ap, ◌∙◌}
use Rattle.std.specs.Result.{IfOk}
use Rattle.serde_json.specs.Written.{compact_text}
use Rattle.cw_json.proofs.Texts.{reading_text}
use Rattle.cw_json.proofs.Pairs.{no_float_at, shallow_at, reading_at}
use Rattle.cw_json.proofs.write.text_of.Goals as goal

if_ok : {T E : Type 0} (r : Result T E) (P Q R : T → Type 0) → ((x : T) → P x → Q x → R x) → IfOk r P → IfOk r Q → IfOk r R
if_ok (Ok x) P Q R f p q = f x p q
if_ok (Err e) P Q R f p q = p

pub returns-clause-text : goal.returns-clause-text
returns-clause-text c =
    let is = c.in_ok-object.ensures in
    if_ok c.to_vec.result _ _ _ (λ text written utf8. written (no_float_at c.args.props.now _ is) ∙ ap compact_text is) c.to_vec.ensures.text c.to_vec.ensures.utf8

pub returns-clause-again : goal.returns-clause-again
returns-clause-again c =
    let is = c.in_ok-object.ensures in
    if_ok c.to_vec.result _ _ _ (λ text back utf8. reading_at c.args.props.now _ _ is (reading_text text.items utf8 ∙ back (shallow_at c.args.props.now _ is))) c.to_vec.ensures.reads_back c.to_vec.ensures.utf8
