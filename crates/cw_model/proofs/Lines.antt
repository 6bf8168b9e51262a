-- Lines that are joined and cut again are the lines.
use Rattle.std.proofs.Common.{◌≡◌, ◌≢◌, ℕ, ◌-◌, List, [], ◌∷◌, ◌++◌, length, take, ◌==◌, refl, ap, ◌∙◌, sym, subst, arith, length-append}
use Rattle.std.specs.List.{All, slice_split, onto_first}
use Rattle.std.proofs.lemmas.Bool.{ne_eqb}
use Rattle.std.proofs.lemmas.List.{take_all, take-append-le}
use Rattle.std.proofs.lemmas.List.Elements.{All-head, All-tail}
use Rattle.cw_types.specs.declared.ids.PartKey.{PartKey}
use Rattle.cw_types.specs.declared.ids.PartKey.TheVariants.{Raw, File, Seq, Sink}
use Rattle.cw_io.specs.Shelf.{Files}
use Rattle.cw_feed.specs.Yield.{IsLine, joined, AreLinesOf, Yield}
use Rattle.cw_model.specs.Tasks.{lines_in, yielded}

split-line : (line rest : List ℕ) → IsLine line → slice_split (λ byte. byte == 10) (line ++ 10 ∷ rest) ≡ line ∷ slice_split (λ byte. byte == 10) rest
split-line [] rest plain = refl
split-line (b ∷ line) rest plain =
    rw (ne_eqb b 10 (All-head (λ byte. byte ≢ 10) b line plain))
    (ap (onto_first b) (split-line line rest (All-tail (λ byte. byte ≢ 10) b line plain)))

split-joined : (lines : List (List ℕ)) → All IsLine lines → slice_split (λ byte. byte == 10) (joined lines) ≡ lines ++ [] ∷ []
unfolding joined
split-joined [] plain = refl
split-joined (line ∷ lines) plain =
    split-line line (joined lines) (All-head IsLine line lines plain)
    ∙ ap (λ pieces. line ∷ pieces) (split-joined lines (All-tail IsLine line lines plain))

-- all but the last of some lines and one more
take-front : (lines : List (List ℕ)) (x : List ℕ) → take (length (lines ++ x ∷ []) - 1) (lines ++ x ∷ []) ≡ lines
take-front lines x =
    let size : length (lines ++ x ∷ []) - 1 ≡ length lines = omega (arith, length-append lines (x ∷ [])) in
    ap (λ n. take n (lines ++ x ∷ [])) size ∙ take-append-le (length lines) lines (x ∷ []) (omega arith) ∙ take_all (length lines) lines (omega arith)

lines_in-joined : (lines : List (List ℕ)) → All IsLine lines → lines_in (joined lines) ≡ lines
lines_in-joined lines plain = rw (split-joined lines plain) (take-front lines [])

-- what a part yields is what is yielded
pub Yield-yielded : (feeds : Files) (part : PartKey) (from to : ℕ) (records : List (List ℕ)) → Yield feeds part from to records → Yield feeds part from to (yielded feeds part from to)
Yield-yielded feeds (File connector feed) from to records yields =
    (yields.0, subst (λ bytes. AreLinesOf bytes (lines_in bytes)) (sym yields.1.whole) (rw (lines_in-joined records yields.1.each) record { whole = refl; each = yields.1.each }))
Yield-yielded feeds (Seq connector index) from to records yields = (yields.0, refl)
Yield-yielded feeds (Raw n) from to records yields = absurd yields
Yield-yielded feeds (Sink connector topic) from to records yields = absurd yields
