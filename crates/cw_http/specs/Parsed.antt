-- What the parser found of a head.
use Rattle.std.specs.Prelude.{◌≡◌, ℕ, List, [], map, take}
use Rattle.httparse.specs.declared.spans.HeaderSpan.{HeaderSpan}
use Rattle.httparse.specs.declared.spans.RequestSpans.{RequestSpans}
use Rattle.httparse.specs.Grammar.{RequestHead, ReadsRequest}
use Rattle.httparse.specs.Spans.{span_bytes, header_bytes}
use Rattle.cw_http.specs.Reading.{fields_of}

-- the bytes are a head of the grammar, and the spans cover its parts
pub record IsHeadAt (bytes : List ℕ) (spans : List HeaderSpan) (found : RequestSpans) : Type 0 where
  pub head : RequestHead
  pub reads : ReadsRequest bytes head []
  pub method : span_bytes bytes found.method ≡ head.method
  pub target : span_bytes bytes found.path ≡ head.target
  pub version : found.version ≡ head.minor
  pub fields : map (header_bytes bytes) (take found.headers spans) ≡ fields_of head
