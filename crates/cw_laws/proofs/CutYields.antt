-- A cut that doesn't end badly has a yield, which is what a task writes for it, and no value of it has a line end.
use Rattle.std.proofs.Common.{◌≡◌, ◌≢◌, ℕ, zero, suc, ◌+◌, ◌-◌, ◌<◌, ◌^◌, ◌==◌, ◌++◌, ◌∷◌, [], Bool, true, false, not, cond, nat_lt, List, length, map, codes, decimal, slice_index, refl, arith}
use Rattle.std.specs.Char.{is_ascii_digit}
use Rattle.std.specs.List.{AllByRecursion, list_all, range_with_len}
use Rattle.std.proofs.lemmas.Bool.{ltb-false, eqb-true, and_parts}
use Rattle.std.proofs.lemmas.Bool.Decides.{nat_tests}
use Rattle.std.proofs.lemmas.Fmt.{digits_decimal}
use Rattle.std.proofs.lemmas.List.Elements.{All-append, All-from_recursion, recursion_from_All}
use Rattle.cw_types.specs.declared.ids.PartKey.{PartKey}
use Rattle.cw_types.specs.declared.ids.PartKey.TheVariants.{Raw, File, Seq, Sink}
use Rattle.cw_types.proofs.Decimals.{own}
use Rattle.cw_bytes.specs.Spelling.{IsPart}
use Rattle.cw_io.specs.Shelf.{Files}
use Rattle.cw_feed.specs.Feeds.{feed_of}
use Rattle.cw_feed.specs.Yield.{IsLine, EndsLine, Yield, between, record_text}
use Rattle.cw_feed.proofs.YieldLaws.{Lines, feed_yields}
use Rattle.cw_model.specs.EventsSources.{ends_badly}
use Rattle.cw_model.specs.Tasks.{yielded}
use Rattle.cw_model.proofs.Lines.{Yield-yielded}

not-bad : (b rest : Bool) → cond b true (not rest) ≡ false → (b ≡ false) × (rest ≡ true)
not-bad true rest well = cc
not-bad false true well = (refl, refl)
not-bad false false well = cc

feed-ends : (bytes : List ℕ) (from to : ℕ) → from < to → cond (nat_lt (length bytes) to) true (not (slice_index bytes (to - 1) == 10)) ≡ false → EndsLine bytes from to
feed-ends bytes from to some well =
    let both = not-bad (nat_lt (length bytes) to) (slice_index bytes (to - 1) == 10) well in
    record {
      ordered = omega arith;
      within = λ _. ltb-false (length bytes) to both.0;
      ended = λ _. eqb-true (slice_index bytes (to - 1)) 10 both.1;
    }

pub yields-cut : (feeds : Files) (part : PartKey) (count from to : ℕ) → from < to → ends_badly feeds part count to ≡ false → Yield feeds part from to (yielded feeds part from to)
yields-cut feeds (File connector feed) count from to some well =
    let ends : EndsLine (feed_of feed feeds) from to = feed-ends (feed_of feed feeds) from to some well in
    let found : Lines (between (feed_of feed feeds) from to) = feed_yields (feed_of feed feeds) from to ends in
    Yield-yielded feeds (File connector feed) from to found.lines (ends, found.are)
yields-cut feeds (Seq connector index) count from to some well = (omega arith, refl)
yields-cut feeds (Raw n) count from to some well = cc
yields-cut feeds (Sink connector topic) count from to some well = cc

digit-in_line : (c : ℕ) → is_ascii_digit c ≡ true → c ≢ 10
digit-in_line c digit = λ same. absurd (grind (arith, nat_tests))

digits-in_line : (cs : List ℕ) → list_all is_ascii_digit cs ≡ true → AllByRecursion (λ byte. byte ≢ 10) cs
digits-in_line [] all = tt
digits-in_line (c ∷ cs) all = let both = and_parts (is_ascii_digit c) (list_all is_ascii_digit cs) all in (digit-in_line c both.0, digits-in_line cs both.1)

decimal-line : (n : ℕ) → n < 2 ^ 64 → IsLine (decimal n)
decimal-line n small = All-from_recursion (λ byte. byte ≢ 10) (decimal n) (digits-in_line (decimal n) (digits_decimal own n small))

dash-line : IsLine (codes "-")
dash-line = All-from_recursion (λ byte. byte ≢ 10) (codes "-") ((λ same. absurd (omega arith)), tt)

record-line : (index k : ℕ) → index < 2 ^ 64 → k < 2 ^ 64 → IsLine (record_text index k)
record-line index k small low = All-append (λ byte. byte ≢ 10) (decimal index ++ codes "-") (decimal k)
    (All-append (λ byte. byte ≢ 10) (decimal index) (codes "-") (decimal-line index small) dash-line) (decimal-line k low)

records-lines : (index from n : ℕ) → index < 2 ^ 64 → from + n < 2 ^ 64 → AllByRecursion IsLine (map (record_text index) (range_with_len from n))
records-lines index from zero small low = tt
records-lines index from (suc n) small low = (record-line index from small (omega arith), records-lines index (from + 1) n small (omega arith))

pub lines-cut : (feeds : Files) (part : PartKey) (from to : ℕ) → IsPart part → from < to → to < 2 ^ 64 → Yield feeds part from to (yielded feeds part from to) →
    AllByRecursion IsLine (yielded feeds part from to)
lines-cut feeds (File connector feed) from to named some fits yields = recursion_from_All IsLine (yielded feeds (File connector feed) from to) yields.1.each
lines-cut feeds (Seq connector index) from to named some fits yields = records-lines index from (to - from) (omega (arith, named.1)) (omega arith)
lines-cut feeds (Raw n) from to named some fits yields = absurd yields
lines-cut feeds (Sink connector topic) from to named some fits yields = absurd yields
