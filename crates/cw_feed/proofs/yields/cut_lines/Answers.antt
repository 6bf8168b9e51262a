use Rattle.std.proofs.Common.{◌≡◌, ℕ, ◌+◌, ◌-◌, ◌<◌, ◌≤◌, List, [], ◌∷◌, ◌++◌, length, get_or, take, drop, map, Vec, Global, nat_eq, true, refl, sym, ap, subst, ◌∙◌, arith}
use Rattle.std.proofs.lemmas.List.{take_rest, map_push, length-drop, take_all}
use Rattle.memchr.specs.Find.{is_byte, NoneBefore, Passes}
use Rattle.cw_feed.specs.Yield.{AreLinesOf}
use Rattle.cw_feed.proofs.Joined.{no_lines, one_line_more, at_the_end}
use Rattle.cw_feed.proofs.yields.cut_lines.Goals as goal

pub loop-line-init : goal.loop-line-init
loop-line-init c = record {
  within = omega arith;
  so_far = subst (λ (lines : List (Vec ℕ Global)). AreLinesOf [] (map (λ line. line.items) lines)) (sym c.new-lines.ensures.items) (no_lines [] refl);
}

-- one text more
pushed : (bytes : List ℕ) (at line : ℕ) (old new : List (Vec ℕ Global)) (text : Vec ℕ Global) → new ≡ old ++ text ∷ [] → text.items ≡ take (at + line - at) (drop at bytes)
    → map (λ line. line.items) new ≡ map (λ line. line.items) old ++ take line (drop at bytes) ∷ []
pushed bytes at line old new text added read =
    let size : at + line - at ≡ line = omega arith in
    ap (map (λ line. line.items)) added
    ∙ map_push (λ line. line.items) old text
    ∙ ap (λ xs. map (λ line. line.items) old ++ xs ∷ []) (read ∙ ap (λ n. take n (drop at bytes)) size)

pub loop-line-preserved : goal.loop-line-preserved
loop-line-preserved c =
    let rest = take_rest c.args.bytes.now c.loop-line.at in
    let found : NoneBefore (Passes (is_byte 10) (drop c.loop-line.at c.args.bytes.now)) 0 (length (drop c.loop-line.at c.args.bytes.now)) c.in-Some.line × Passes (is_byte 10) (drop c.loop-line.at c.args.bytes.now) c.in-Some.line =
    subst (λ (xs : List ℕ). NoneBefore (Passes (is_byte 10) xs) 0 (length xs) c.in-Some.line × Passes (is_byte 10) xs c.in-Some.line) rest c.in-Some.ensures in
    record {
      within = omega (arith, found.0.high, length-drop c.loop-line.at c.args.bytes.now);
      so_far =
          subst (AreLinesOf (take (c.loop-line.at + (c.in-Some.line + 1)) c.args.bytes.now))
          (sym (pushed c.args.bytes.now c.loop-line.at c.in-Some.line c.loop-line.lines.items c.push.new.self.items c.in_ok-from_slice.field-0 c.in_ok-push.ensures.items c.in_ok-from_slice.ensures.items))
          (one_line_more c.args.bytes.now c.loop-line.at c.in-Some.line found.0.high found.1 (λ j below. found.0.before j (omega arith) below) (map (λ line. line.items) c.loop-line.lines.items) c.loop-line.invariant.so_far);
    }

pub returns : goal.returns
returns c =
    let none : (j : ℕ) → 0 ≤ j → j < length (drop c.loop-line.at c.args.bytes.now) → nat_eq (get_or (drop c.loop-line.at c.args.bytes.now) j 0) 10 ≡ true → ⊥ =
    subst (λ (xs : List ℕ). (j : ℕ) → 0 ≤ j → j < length xs → nat_eq (get_or xs j 0) 10 ≡ true → ⊥) (take_rest c.args.bytes.now c.loop-line.at) c.in_default.ensures in
    let end : c.loop-line.at ≡ length c.args.bytes.now =
    at_the_end c.args.bytes.now c.loop-line.at c.requires c.loop-line.invariant.within (λ j below. none j (omega arith) below) in
    subst (λ (xs : List ℕ). AreLinesOf xs (map (λ line. line.items) c.loop-line.lines.items)) (take_all c.loop-line.at c.args.bytes.now (omega arith)) c.loop-line.invariant.so_far
