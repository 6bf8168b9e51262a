-- The text of a reply (RFC 9112, 4), and the reply of a refusal. This project's own rule where the two leave a choice.
use Rattle.std.specs.Prelude.{ℕ, ◌==◌, Bool, nat_lt, List, [], ◌++◌, length, codes, decimal, unwrap_or, if◌then◌else◌}
use Rattle.http.specs.StatusCode.{reason_phrase}
use Rattle.cw_route.specs.declared.reply.Reply.{Reply}

-- the end of a line
abbrev pub line_end : List ℕ
line_end = codes "\r\n"

-- the phrase of a code of three digits, if it has one
unfoldable pub phrase : ℕ → List ℕ
phrase code = if nat_lt code 100 then [] else if nat_lt 999 code then [] else unwrap_or (reason_phrase code) []

-- the first line
abbrev pub status_line : ℕ → List ℕ
status_line code = codes "HTTP/1.1 " ++ decimal code ++ codes " " ++ phrase code ++ line_end

-- the line that says that the connection closes
abbrev pub close_line : Bool → List ℕ
close_line close = if close then codes "Connection: close\r\n" else []

-- the line that tells the length of a body
abbrev pub length_line : ℕ → ℕ → List ℕ
length_line code size = if code == 204 then [] else codes "Content-Length: " ++ decimal size ++ line_end

-- the line that tells the type of a body that is there
abbrev pub type_line : ℕ → ℕ → List ℕ
type_line code size =
    if code == 204 then [] else
    if size == 0 then [] else codes "Content-Type: application/json\r\n"

-- the text of a reply, behind which the connection closes or not
abbrev pub reply_text : Reply → Bool → List ℕ
reply_text reply close =
    status_line reply.code ++ close_line close
    ++ length_line reply.code (length reply.body) ++ type_line reply.code (length reply.body)
    ++ line_end ++ reply.body

-- the body of a refusal
abbrev pub refusal_text : ℕ → List ℕ
refusal_text code =
    codes "{\"error_code\":" ++ decimal code ++ codes ",\"message\":\"HTTP " ++ decimal code ++ codes "\"}"

-- the reply of a refusal
abbrev pub refusal_of : ℕ → Reply
refusal_of code = record { code = code; body = refusal_text code }
