-- There is one thing that stands at the front of bytes.
use Rattle.std.proofs.Common.{◌≡◌, ℕ, List, [], take, drop, Option, Some, None, inl, inr, refl, sym, ap, ◌∙◌}
use Rattle.httparse.proofs.GrammarLemmas.{request_unique}
use Rattle.cw_http.specs.declared.request.Request.{Request}
use Rattle.cw_http.specs.HeadEnd.{head_length}
use Rattle.cw_http.specs.Head.{refusal_of_lines}
use Rattle.cw_http.specs.Reading.{Reading, found, unfinished, refused, reading_of, ReadsHead, ReadsBehind, Reads}
use Rattle.cw_http.specs.Kept.{IsTold, IsTaken}

head_one : (bytes rest : List ℕ) (code : Option ℕ) (a b : Reading) → ReadsHead bytes rest code a → ReadsHead bytes rest code b → a ≡ b
head_one bytes rest (Some code) a b x y = x ∙ sym y
head_one bytes rest None a b (inl x) (inl y) =
    x.2 ∙ ap (λ head. reading_of head rest) (request_unique bytes x.0 y.0 [] [] x.1 y.1).0 ∙ sym y.2
head_one bytes rest None a b (inl x) (inr y) = absurd (y.0 x.0 x.1)
head_one bytes rest None a b (inr x) (inl y) = absurd (x.0 y.0 y.1)
head_one bytes rest None a b (inr x) (inr y) = x.1 ∙ sym y.1

behind_one : (bytes : List ℕ) (size : Option ℕ) (a b : Reading) → ReadsBehind bytes size a → ReadsBehind bytes size b → a ≡ b
behind_one bytes None a b x y = x ∙ sym y
behind_one bytes (Some n) a b x y = head_one (take n bytes) (drop n bytes) (refusal_of_lines (take n bytes)) a b x y

pub reads_one : (bytes : List ℕ) (a b : Reading) → Reads bytes a → Reads bytes b → a ≡ b
reads_one bytes a b x y = behind_one bytes (head_length (take 8192 bytes)) a b x y

request_in : Request → Reading → Request
request_in other (found request rest) = request
request_in other unfinished = other
request_in other (refused code) = other

rest_in : Reading → List ℕ
rest_in (found request rest) = rest
rest_in unfinished = []
rest_in (refused code) = []

code_in : Reading → ℕ
code_in (found request rest) = 0
code_in unfinished = 0
code_in (refused code) = code

pub taken_one : (bytes : List ℕ) (first second : Request) (left other : Option (List ℕ))
    → IsTaken first (Some bytes) left → IsTaken second (Some bytes) other → (first ≡ second) × (left ≡ other)
unfolding request_in rest_in
taken_one bytes first second left other x y =
    let this = x bytes refl in
    let that = y bytes refl in
    let same : found first this.0 ≡ found second that.0 = reads_one bytes (found first this.0) (found second that.0) this.2 that.2 in
    (ap (request_in first) same, this.1 ∙ ap (λ reading. Some (rest_in reading)) same ∙ sym that.1)

pub refused_one : (bytes : List ℕ) (first second : ℕ) → IsTold (refused first) (Some bytes) → IsTold (refused second) (Some bytes) → first ≡ second
unfolding code_in
refused_one bytes first second x y = ap code_in (reads_one bytes (refused first) (refused second) (x bytes refl) (y bytes refl))

pub taken_or_refused : (bytes : List ℕ) (request : Request) (left : Option (List ℕ)) (code : ℕ)
    → IsTaken request (Some bytes) left → IsTold (refused code) (Some bytes) → ⊥
taken_or_refused bytes request left code x y =
    let this = x bytes refl in
    let same : found request this.0 ≡ refused code = reads_one bytes (found request this.0) (refused code) this.2 (y bytes refl) in
    cc

pub taken_or_unfinished : (bytes : List ℕ) (request : Request) (left : Option (List ℕ))
    → IsTaken request (Some bytes) left → IsTold unfinished (Some bytes) → ⊥
taken_or_unfinished bytes request left x y =
    let this = x bytes refl in
    let same : found request this.0 ≡ unfinished = reads_one bytes (found request this.0) unfinished this.2 (y bytes refl) in
    cc

pub refused_or_unfinished : (bytes : List ℕ) (code : ℕ) → IsTold (refused code) (Some bytes) → IsTold unfinished (Some bytes) → ⊥
refused_or_unfinished bytes code x y =
    let same : refused code ≡ unfinished = reads_one bytes (refused code) unfinished (x bytes refl) (y bytes refl) in
    cc
