use Rattle.std.proofs.Common.{◌≡◌, ℕ, suc, ◌+◌, ◌-◌, ◌<◌, List, ◌∷◌, ◌++◌, length, get_or, nat_eq, true, take, drop, sym, ap, ◌∙◌, arith, length-drop, add-one}
use Rattle.std.proofs.lemmas.List.{take_all}
use Rattle.cw_lines.proofs.LineLemmas.{is_line-none, is_line-take, cut_at}
use Rattle.cw_lines.proofs.lines.cut_line.Goals as goal

-- the same, as the code's slices have it
cut_slices : (xs : List ℕ) (k : ℕ) → k < length xs → nat_eq (get_or xs k 0) 10 ≡ true → xs ≡ take k xs ++ 10 ∷ take (length xs - (k + 1)) (drop (k + 1) xs)
cut_slices xs k within here =
    cut_at xs k within here
    ∙ ap (λ l. take k xs ++ 10 ∷ l) (sym (rw add-one (take_all (length xs - suc k) (drop (suc k) xs) (omega (arith, length-drop (suc k) xs)))))

pub returns-in_err-at : goal.returns-in_err-at
returns-in_err-at c = record { parts = rw c.from_residual.ensures (is_line-none c.args.bytes.now c.in_err-at.ensures) }

pub returns : goal.returns
returns c =
    let within : c.in_ok-at.at < length c.args.bytes.now = c.in_ok-at.ensures.0.high in
    record { parts = (cut_slices c.args.bytes.now c.in_ok-at.at within c.in_ok-at.ensures.1, is_line-take c.args.bytes.now c.in_ok-at.at (omega arith) c.in_ok-at.ensures.0.before) }
