-- What stands at the front of all bytes, by what was kept of them.
use Rattle.std.proofs.Common.{◌≡◌, ℕ, ◌+◌, ◌<◌, ◌≤◌, true, false, List, [], ◌++◌, length, take, drop, Option, Some, None, if◌then◌else◌, inl, refl, sym, ap, ◌∙◌, subst, arith, length-append, length-drop, unwrap_or}
use Rattle.std.proofs.lemmas.Bool.Decides.{nat_tests}
use Rattle.std.proofs.lemmas.List.{append-nil, take-append-le, drop-append-le, drop-drop}
use Rattle.std.specs.Prelude.{nat_lt}
use Rattle.cw_io.specs.Told.{with_front, IsAtEnd}
use Rattle.cw_http.specs.declared.request.Request.{Request}
use Rattle.cw_http.specs.declared.outline.Outline.{Outline}
use Rattle.cw_http.specs.HeadEnd.{head_length}
use Rattle.cw_http.specs.Head.{refusal_of_lines}
use Rattle.cw_http.specs.Reading.{Reading, found, unfinished, refused, request_of, with_body, of_length, ReadsHead, ReadsBehind, Reads}
use Rattle.cw_http.specs.Kept.{Moved, IsTold, IsTaken}
use Rattle.cw_http.specs.Outline.{IsOutline, IsTakenBy}
use Rattle.cw_http.proofs.HeadEnds.{head_length-kept}
use Rattle.cw_http.proofs.Moves.{moved_whole}

-- no whole head yet, and nothing follows
pub reads_no_head : (kept : List ℕ) → head_length (take 8192 kept) ≡ None → length kept < 8192 → Reads kept unfinished
reads_no_head kept none less =
    let test : nat_lt (length kept) 8192 ≡ true = grind (arith, nat_tests, less) in
    let Here : Option ℕ → Type 0 = λ o. ReadsBehind kept o unfinished in
    subst Here (sym none) (ap (λ b. if b then unfinished else refused 431) (sym test))

-- no whole head within the limit, whatever follows
pub reads_long_head : (kept rest : List ℕ) → head_length (take 8192 kept) ≡ None → 8192 ≤ length kept → Reads (kept ++ rest) (refused 431)
reads_long_head kept rest none more =
    let front : head_length (take 8192 (kept ++ rest)) ≡ None = ap head_length (take-append-le 8192 kept rest more) ∙ none in
    let test : nat_lt (length (kept ++ rest)) 8192 ≡ false = grind (arith, nat_tests, length-append kept rest, more) in
    let Here : Option ℕ → Type 0 = λ o. ReadsBehind (kept ++ rest) o (refused 431) in
    subst Here (sym front) (ap (λ b. if b then unfinished else refused 431) (sym test))

-- a whole head, by what is kept
pub reads_behind : (kept rest : List ℕ) (n : ℕ) (reading : Reading) → head_length (take 8192 kept) ≡ Some n → n ≤ length kept
    → ReadsHead (take n kept) (drop n kept ++ rest) (refusal_of_lines (take n kept)) reading → Reads (kept ++ rest) reading
reads_behind kept rest n reading front within reads =
    let Here : Option ℕ → Type 0 = λ o. ReadsBehind (kept ++ rest) o reading in
    let Head : List ℕ → Type 0 = λ head. ReadsHead head (drop n (kept ++ rest)) (refusal_of_lines head) reading in
    let Rest : List ℕ → Type 0 = λ behind. ReadsHead (take n kept) behind (refusal_of_lines (take n kept)) reading in
    subst Here (sym (head_length-kept 8192 kept rest n front))
    (subst Head (sym (take-append-le n kept rest within)) (subst Rest (sym (drop-append-le n kept rest within)) reads))

-- a head of which this is the outline, with a whole body behind it, or with less
reads_outline : (bytes rest : List ℕ) (outline : Outline) (o : IsOutline bytes outline) (reading : Reading) → refusal_of_lines bytes ≡ None
    → reading ≡ with_body o.head rest outline.body → ReadsHead bytes rest (refusal_of_lines bytes) reading
reads_outline bytes rest outline o reading lines body =
    let Here : Option ℕ → Type 0 = λ code. ReadsHead bytes rest code reading in
    subst Here (sym lines) (inl (o.head, o.reads, body ∙ ap (of_length o.head rest) (sym o.body)))

pub reads_whole : (bytes rest : List ℕ) (outline : Outline) (o : IsOutline bytes outline) → refusal_of_lines bytes ≡ None → outline.body ≤ length rest
    → ReadsHead bytes rest (refusal_of_lines bytes) (found (request_of o.head (take outline.body rest)) (drop outline.body rest))
reads_whole bytes rest outline o lines enough =
    let test : nat_lt (length rest) outline.body ≡ false = grind (arith, nat_tests, enough) in
    reads_outline bytes rest outline o (found (request_of o.head (take outline.body rest)) (drop outline.body rest)) lines
    (ap (λ b. if b then unfinished else found (request_of o.head (take outline.body rest)) (drop outline.body rest)) (sym test))

pub reads_part : (bytes rest : List ℕ) (outline : Outline) (o : IsOutline bytes outline) → refusal_of_lines bytes ≡ None → length rest < outline.body
    → ReadsHead bytes rest (refusal_of_lines bytes) unfinished
reads_part bytes rest outline o lines less =
    let test : nat_lt (length rest) outline.body ≡ true = grind (arith, nat_tests, less) in
    reads_outline bytes rest outline o unfinished lines
    (ap (λ b. if b then unfinished else found (request_of o.head (take outline.body rest)) (drop outline.body rest)) (sym test))

-- what holds of what is kept with whatever is left behind it, is told of all bytes
told_of : (k : List ℕ) (l : Option (List ℕ)) (reading : Reading) → ((rest : List ℕ) → l ≡ Some rest → Reads (k ++ rest) reading)
    → (bytes : List ℕ) → with_front k l ≡ Some bytes → Reads bytes reading
told_of k None reading reads bytes told = cc
told_of k (Some rest) reading reads bytes told =
    let Here : List ℕ → Type 0 = λ xs. Reads xs reading in
    subst Here (ap (λ o. unwrap_or o []) told) (reads rest refl)

pub told : (k0 k1 : List ℕ) (l0 l1 : Option (List ℕ)) (reading : Reading) → Moved k0 k1 l0 l1 → ((rest : List ℕ) → l1 ≡ Some rest → Reads (k1 ++ rest) reading)
    → IsTold reading (with_front k0 l0)
told k0 k1 l0 l1 reading moved reads bytes whole =
    told_of k1 l1 reading reads bytes (sym (moved_whole k0 k1 l0 l1 moved) ∙ whole)

-- the link's end within a head
pub ended_in_head : (k0 k1 : List ℕ) (l0 l1 : Option (List ℕ)) → Moved k0 k1 l0 l1 → head_length (take 8192 k1) ≡ None → length k1 < 8192 → IsAtEnd l1
    → IsTold unfinished (with_front k0 l0)
ended_in_head k0 k1 l0 l1 moved none less at_end =
    told k0 k1 l0 l1 unfinished moved (λ rest left.
    let Here : List ℕ → Type 0 = λ xs. Reads (k1 ++ xs) unfinished in
    let Whole : List ℕ → Type 0 = λ xs. Reads xs unfinished in
    subst Here (sym (at_end rest left)) (subst Whole (sym (append-nil k1)) (reads_no_head k1 none less)))

-- a head that is too long
pub long_head : (k0 k1 : List ℕ) (l0 l1 : Option (List ℕ)) → Moved k0 k1 l0 l1 → head_length (take 8192 k1) ≡ None → 8192 ≤ length k1
    → IsTold (refused 431) (with_front k0 l0)
long_head k0 k1 l0 l1 moved none more = told k0 k1 l0 l1 (refused 431) moved (λ rest left. reads_long_head k1 rest none more)

-- a head that is refused
pub refused_head : (k0 k1 : List ℕ) (l0 l1 : Option (List ℕ)) (n code : ℕ) → Moved k0 k1 l0 l1 → head_length (take 8192 k1) ≡ Some n → n ≤ length k1
    → ((rest : List ℕ) → ReadsHead (take n k1) rest (refusal_of_lines (take n k1)) (refused code)) → IsTold (refused code) (with_front k0 l0)
refused_head k0 k1 l0 l1 n code moved front within reads =
    told k0 k1 l0 l1 (refused code) moved (λ rest left. reads_behind k1 rest n (refused code) front within (reads (drop n k1 ++ rest)))

-- a head stays at the front of what is kept
module _ (k1 k2 : List ℕ) (n : ℕ) (outline : Outline) (front : head_length (take 8192 k1) ≡ Some n) (within : n ≤ length k1)
    (lines : refusal_of_lines (take n k1) ≡ None) (o : IsOutline (take n k1) outline) (piece : List ℕ) (behind : k2 ≡ k1 ++ piece) where
  front_on : head_length (take 8192 k2) ≡ Some n
  front_on = ap (λ k. head_length (take 8192 k)) behind ∙ head_length-kept 8192 k1 piece n front

  within_on : n ≤ length k2
  within_on = omega (arith, ap length behind, length-append k1 piece)

  pub same_head : take n k2 ≡ take n k1
  same_head = ap (take n) behind ∙ take-append-le n k1 piece within

  lines_on : refusal_of_lines (take n k2) ≡ None
  lines_on = ap refusal_of_lines same_head ∙ lines

  outline_on : IsOutline (take n k2) outline
  outline_on = let Here : List ℕ → Type 0 = λ bytes. IsOutline bytes outline in subst Here (sym same_head) o

  -- the link's end within a body
  pub ended_in_body : (k0 : List ℕ) (l0 l2 : Option (List ℕ)) → Moved k0 k2 l0 l2 → length k2 < n + outline.body → IsAtEnd l2 → IsTold unfinished (with_front k0 l0)
  ended_in_body k0 l0 l2 moved less at_end =
      told k0 k2 l0 l2 unfinished moved (λ rest left.
      let Here : List ℕ → Type 0 = λ xs. Reads (k2 ++ xs) unfinished in
      let none : length (drop n k2 ++ []) < outline.body = omega (arith, length-append (drop n k2) [], length-drop n k2, within_on) in
      subst Here (sym (at_end rest left))
      (reads_behind k2 [] n unfinished front_on within_on (reads_part (take n k2) (drop n k2 ++ []) outline outline_on lines_on none)))

  -- the request that was taken
  request_is : (rest : List ℕ) (request : Request) → IsTakenBy k2 n outline request → n + outline.body ≤ length k2
      → request ≡ request_of outline_on.head (take outline.body (drop n k2 ++ rest))
  request_is rest request t enough =
      let part : take outline.body (drop n k2) ≡ take outline.body (drop n k2 ++ rest) = sym (take-append-le outline.body (drop n k2) rest (omega (arith, length-drop n k2))) in
      λ i. record {
        method = (t.method ∙ outline_on.method) i;
        target = (t.target ∙ outline_on.target) i;
        body = (t.body ∙ part) i;
        close = (t.close ∙ outline_on.close) i;
      }

  reads_taken : (rest : List ℕ) (request : Request) → IsTakenBy k2 n outline request → n + outline.body ≤ length k2
      → Reads (k2 ++ rest) (found request (drop (n + outline.body) k2 ++ rest))
  reads_taken rest request t enough =
      let some : outline.body ≤ length (drop n k2 ++ rest) = omega (arith, length-append (drop n k2) rest, length-drop n k2) in
      let behind_it : drop outline.body (drop n k2 ++ rest) ≡ drop (n + outline.body) k2 ++ rest =
      drop-append-le outline.body (drop n k2) rest (omega (arith, length-drop n k2)) ∙ ap (λ xs. xs ++ rest) (drop-drop outline.body n k2) in
      let Here : Reading → Type 0 = λ r. Reads (k2 ++ rest) r in
      subst Here (λ i. found (sym (request_is rest request t enough) i) (behind_it i))
      (reads_behind k2 rest n (found (request_of outline_on.head (take outline.body (drop n k2 ++ rest))) (drop outline.body (drop n k2 ++ rest))) front_on within_on
      (reads_whole (take n k2) (drop n k2 ++ rest) outline outline_on lines_on some))

  taken_of : (l2 : Option (List ℕ)) (k3 : List ℕ) (request : Request) → IsTakenBy k2 n outline request → n + outline.body ≤ length k2 → k3 ≡ drop (n + outline.body) k2
      → (bytes : List ℕ) → with_front k2 l2 ≡ Some bytes → (rest : List ℕ) × (with_front k3 l2 ≡ Some rest) × Reads bytes (found request rest)
  taken_of None k3 request t enough left bytes whole = cc
  taken_of (Some rest) k3 request t enough left bytes whole =
      let Here : List ℕ → Type 0 = λ xs. Reads xs (found request (drop (n + outline.body) k2 ++ rest)) in
      (drop (n + outline.body) k2 ++ rest, ap (λ k. Some (k ++ rest)) left, subst Here (ap (λ o. unwrap_or o []) whole) (reads_taken rest request t enough))

  pub request_taken : (k0 : List ℕ) (l0 l2 : Option (List ℕ)) (k3 : List ℕ) (request : Request) → Moved k0 k2 l0 l2 → IsTakenBy k2 n outline request
      → n + outline.body ≤ length k2 → k3 ≡ drop (n + outline.body) k2 → IsTaken request (with_front k0 l0) (with_front k3 l2)
  request_taken k0 l0 l2 k3 request moved t enough left bytes whole =
      taken_of l2 k3 request t enough left bytes (sym (moved_whole k0 k2 l0 l2 moved) ∙ whole)
