-- What stands at the front of bytes that a peer sent: a whole request of HTTP/1.0 or HTTP/1.1 (RFC 9112) within this
-- project's limits, the beginning of one, or a refusal. It looks at all bytes at once, however they came.
use Rattle.std.specs.Prelude.{◌≡◌, ◌⊎◌, ℕ, nat_lt, List, [], length, take, drop, map, Option, Some, None, Result, Ok}
use Rattle.std.specs.Prelude.{Err, if◌then◌else◌}
use Rattle.httparse.specs.Grammar.{RequestHead, ReadsRequest}
use Rattle.httparse.specs.Spans.{name_and_value}
use Rattle.cw_http.specs.declared.request.Request.{Request}
use Rattle.cw_http.specs.HeadEnd.{head_length}
use Rattle.cw_http.specs.Head.{refusal_of_lines}
use Rattle.cw_http.specs.Fields.{Fields, body_length, closes}

-- a request with the bytes behind it, a request of which bytes are missing, or the code of a refusal
pub data Reading : Type 0 where
  found : Request → List ℕ → Reading
  unfinished : Reading
  refused : ℕ → Reading

-- the fields of a head
abbrev pub fields_of : RequestHead → Fields
fields_of head = map name_and_value head.fields

-- the request of a head and a body
abbrev pub request_of : RequestHead → List ℕ → Request
request_of head body = record {
  method = head.method;
  target = head.target;
  body = body;
  close = closes head.minor (fields_of head);
}

-- a body of this length behind a head, where all of it is there
abbrev pub with_body : RequestHead → List ℕ → ℕ → Reading
with_body head rest n =
    if nat_lt (length rest) n then unfinished else found (request_of head (take n rest)) (drop n rest)

-- what a head of the grammar is with the bytes behind it
abbrev pub of_length : RequestHead → List ℕ → Result ℕ ℕ → Reading
of_length head rest (Ok n) = with_body head rest n
of_length head rest (Err code) = refused code

abbrev pub reading_of : RequestHead → List ℕ → Reading
reading_of head rest = of_length head rest (body_length (fields_of head))

-- no head of the grammar is these bytes
abbrev pub IsNoHead : List ℕ → Type 0
IsNoHead bytes = (head : RequestHead) → ReadsRequest bytes head [] → ⊥

-- the bytes of a head by the grammar, and those behind it
abbrev pub ReadsHead : List ℕ → List ℕ → Option ℕ → Reading → Type 0
ReadsHead bytes rest (Some code) reading = reading ≡ refused code
ReadsHead bytes rest None reading =
    ((head : RequestHead) × ReadsRequest bytes head [] × (reading ≡ reading_of head rest))
    ⊎ (IsNoHead bytes × (reading ≡ refused 400))

-- bytes that have a head of this length at their front, or none within the limit of 8,192 bytes
abbrev pub ReadsBehind : List ℕ → Option ℕ → Reading → Type 0
ReadsBehind bytes None reading = reading ≡ (if nat_lt (length bytes) 8192 then unfinished else refused 431)
ReadsBehind bytes (Some n) reading = ReadsHead (take n bytes) (drop n bytes) (refusal_of_lines (take n bytes)) reading

-- what stands at the front of bytes
abbrev pub Reads : List ℕ → Reading → Type 0
Reads bytes reading = ReadsBehind bytes (head_length (take 8192 bytes)) reading
