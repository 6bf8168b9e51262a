use Rattle.std.proofs.Common.{◌≡◌, ℕ, Bool, false, true, [], ◌∷◌, ◌++◌, cond, get_or, map, ap, sym, ◌∙◌, arith}
use Rattle.std.specs.List.{range_with_len}
use Rattle.std.proofs.lemmas.List.{get_or_default}
use Rattle.std.proofs.lemmas.List.FromFn.{map-range_with_len_more}
use Rattle.cw_disk.specs.Memory.{is_loose}
use Rattle.cw_disk.proofs.held.noisy.Goals as goal

pub loop-i-preserved : goal.loop-i-preserved
loop-i-preserved c =
    let image : ℕ → ℕ = λ i. cond (is_loose c.args.loose.now i) 255 (get_or c.args.bytes.now i 0) in
    let more = map-range_with_len_more image 0 c.loop-i.i c.loop-i.i (omega arith) in
    let byte : c.noise_byte.result ≡ image c.loop-i.i = c.noise_byte.ensures ∙ ap (λ (b : Bool). cond b 255 (get_or c.args.bytes.now c.loop-i.i 0)) (get_or_default c.args.loose.now c.loop-i.i false true c.loop-i-test.true) in
    c.in_ok-push.ensures.items ∙ ap (λ l. l ++ c.noise_byte.result ∷ []) c.loop-i.invariant ∙ ap (λ (b : ℕ). map image (range_with_len 0 c.loop-i.i) ++ b ∷ []) byte ∙ sym more
