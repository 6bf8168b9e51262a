-- The parts of a reply, one behind the other.
use Rattle.std.proofs.Common.{◌≡◌, ℕ, ◌==◌, Bool, false, if◌then◌else◌, List, [], ◌++◌, length, codes, decimal, sym, ap, ◌∙◌, arith, append_assoc}
use Rattle.std.proofs.lemmas.Bool.Decides.{nat_tests}
use Rattle.cw_route.specs.declared.reply.Reply.{Reply}
use Rattle.cw_http.specs.Replies.{phrase, line_end, status_line, close_line, length_line, type_line, reply_text}

-- the first two lines
pub status_is : (code : ℕ) (close : Bool) (digits said closing : List ℕ) → digits ≡ decimal code → said ≡ phrase code → closing ≡ close_line close
    → (((codes "HTTP/1.1 " ++ digits) ++ codes " ") ++ said) ++ line_end ++ closing ≡ status_line code ++ close_line close
status_is code close digits said closing d s c = λ i. (((codes "HTTP/1.1 " ++ d i) ++ codes " ") ++ s i) ++ line_end ++ c i

-- the line of the length
pub length_is : (code size : ℕ) (front digits : List ℕ) → (code ≡ 204 → ⊥) → digits ≡ decimal size
    → ((front ++ codes "Content-Length: ") ++ digits) ++ line_end ≡ front ++ length_line code size
length_is code size front digits other d =
    let test : (code == 204) ≡ false = grind (arith, nat_tests, other) in
    let name : List ℕ = codes "Content-Length: " in
    let line : List ℕ = name ++ decimal size ++ line_end in
    (λ i. ((front ++ name) ++ d i) ++ line_end) ∙ ap (λ xs. xs ++ line_end) (append_assoc front name (decimal size))
    ∙ append_assoc front (name ++ decimal size) line_end ∙ ap (λ b. front ++ (if b then [] else line)) (sym test)

-- all of it
pub reply_is : (reply : Reply) (close : Bool) (kind body : List ℕ) → body ≡ reply.body → kind ≡ type_line reply.code (length body)
    → (((status_line reply.code ++ close_line close ++ length_line reply.code (length body)) ++ kind) ++ line_end) ++ body ≡ reply_text reply close
reply_is reply close kind body same k =
    let typed : kind ≡ type_line reply.code (length reply.body) = k ∙ ap (λ xs. type_line reply.code (length xs)) same in
    λ i. (((status_line reply.code ++ close_line close ++ length_line reply.code (length (same i))) ++ typed i) ++ line_end) ++ same i
