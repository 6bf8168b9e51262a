-- Texts that are written one behind the other.
use Rattle.std.proofs.Common.{◌≡◌, ℕ, ◌+◌, List, [], ◌∷◌, ◌++◌, length, codes, Option, Some, None, refl, sym, ap, ◌∙◌, arith, append_assoc}
use Rattle.std.proofs.lemmas.List.{append-nil}
use Rattle.std.specs.Fmt.{digits}
use Rattle.json.specs.Print.{escape_byte}
use Rattle.cw_io.specs.Told.{with_front, with_back}
use Rattle.cw_http.specs.Replies.{phrase, reply_text}
use Rattle.cw_conn.specs.Exchanges.{Exchange, shuts, reply_texts}
use Rattle.cw_conn.specs.Ends.{memory_text}

pub with_front-nil : (left : Option (List ℕ)) → with_front [] left ≡ left
with_front-nil None = refl
with_front-nil (Some xs) = refl

pub with_back-nil : (held : Option (List ℕ)) → with_back [] held ≡ held
with_back-nil None = refl
with_back-nil (Some xs) = ap Some (append-nil xs)

pub with_back-append : (xs ys : List ℕ) (held : Option (List ℕ)) → with_back ys (with_back xs held) ≡ with_back (xs ++ ys) held
with_back-append xs ys None = refl
with_back-append xs ys (Some zs) = ap Some (append_assoc zs xs ys)

-- the replies of more exchanges stand behind those of the first
pub reply_texts-append : (xs ys : List Exchange) (number : ℕ) → reply_texts number (xs ++ ys) ≡ reply_texts number xs ++ reply_texts (number + length xs) ys
reply_texts-append [] ys number =
    let same : number ≡ number + length {A = Exchange} [] = omega arith in
    ap (λ n. reply_texts n ys) same
reply_texts-append (x ∷ xs) ys number =
    let first : List ℕ = reply_text x.entry.reply (shuts number x.request) in
    let rest : List ℕ = reply_texts (number + 1) xs in
    let same : (number + 1) + length xs ≡ number + length (x ∷ xs) = omega arith in
    ap (λ texts. first ++ texts) (reply_texts-append xs ys (number + 1))
    ∙ sym (append_assoc first rest (reply_texts ((number + 1) + length xs) ys))
    ∙ ap (λ n. (first ++ rest) ++ reply_texts n ys) same

-- the reply that tells want of memory
pub memory_text_is : codes "HTTP/1.1 503 Service Unavailable\r\nConnection: close\r\nContent-Length: 44\r\nContent-Type: application/json\r\n\r\n{\"error_code\":503,\"message\":\"Out of memory\"}" ≡ memory_text
unfolding phrase digits escape_byte
memory_text_is = refl
