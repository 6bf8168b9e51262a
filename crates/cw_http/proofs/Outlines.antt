-- Heads of the grammar have no more fields than lines.
use Rattle.std.proofs.Common.{◌≡◌, if◌then◌else◌, ℕ, ◌+◌, ◌≤◌, ◌==◌, List, [], ◌∷◌, ◌++◌, length, refl, ap, ◌∙◌, arith}
use Rattle.std.proofs.lemmas.List.{append-nil}
use Rattle.std.proofs.lemmas.List.Sums.{sum_by-append}
use Rattle.std.specs.Prelude.{count_by}
use Rattle.std.specs.List.{flat_map}
use Rattle.httparse.specs.Ascii.{space}
use Rattle.httparse.specs.Grammar.{RequestHead, ReadsRequest, Field, LineEnd, crlf, lf, print_field, print_end, print_blank, print_version, print_request, print_section}
use Rattle.cw_http.specs.Head.{lines_between}

line_ends : List ℕ → ℕ
line_ends bytes = count_by (λ c. c == 10) bytes

line_ends-append : (xs ys : List ℕ) → line_ends (xs ++ ys) ≡ line_ends xs + line_ends ys
unfolding line_ends
line_ends-append xs ys = sum_by-append (λ c. if c == 10 then 1 else 0) xs ys

one_end : (end : LineEnd) → line_ends (print_end end) ≡ 1
unfolding line_ends
one_end crlf = refl
one_end lf = refl

enough_ends : (fields : List Field) → length fields ≤ line_ends (flat_map print_field fields)
enough_ends [] = omega arith
enough_ends (f ∷ fs) =
    let rest = enough_ends fs in
    let all = line_ends-append (print_field f) (flat_map print_field fs) in
    let one = line_ends-append (f.name ++ 58 ∷ f.raw) (print_end f.end) in
    omega (arith, rest, all, one, one_end f.end)

printed_ends : (head : RequestHead) → length head.fields + 2 ≤ line_ends (print_request head)
unfolding print_request
printed_ends head =
    let front = print_blank head.blank ++ head.method ++ space ∷ head.target ++ space ∷ print_version head.minor in
    let all = line_ends-append (front ++ print_end head.line_end) (print_section head.fields head.last) in
    let first = line_ends-append front (print_end head.line_end) in
    let section = line_ends-append (flat_map print_field head.fields) (print_end head.last) in
    omega (arith, all, first, section, one_end head.line_end, one_end head.last, enough_ends head.fields)

-- a head of the grammar has at most as many fields as lines between its first line and its empty line
pub few_fields : (bytes : List ℕ) (head : RequestHead) → ReadsRequest bytes head [] → length head.fields ≤ lines_between bytes
unfolding line_ends
few_fields bytes head reads = omega (arith, printed_ends head, ap line_ends (reads.1 ∙ append-nil (print_request head)))
