-- What a reader keeps of a head: where its method and its target stand, how long its body is, and whether it closes.
use Rattle.std.specs.Prelude.{◌≡◌, ℕ, ◌≤◌, List, [], take, drop, Ok}
use Rattle.httparse.specs.Grammar.{RequestHead, ReadsRequest}
use Rattle.httparse.specs.Spans.{IsWithin, span_bytes}
use Rattle.cw_http.specs.declared.outline.Outline.{Outline}
use Rattle.cw_http.specs.declared.request.Request.{Request}
use Rattle.cw_http.specs.Fields.{body_length, closes}
use Rattle.cw_http.specs.Reading.{fields_of}

-- the outline is that of the head that these bytes are
pub record IsOutline (bytes : List ℕ) (outline : Outline) : Type 0 where
  pub head : RequestHead
  pub reads : ReadsRequest bytes head []
  pub method : span_bytes bytes outline.method ≡ head.method
  pub target : span_bytes bytes outline.target ≡ head.target
  pub body : body_length (fields_of head) ≡ Ok outline.body
  pub close : outline.close ≡ closes head.minor (fields_of head)

-- its places lie in these bytes
pub record FitsHead (size : ℕ) (outline : Outline) : Type 0 where
  pub method : IsWithin size outline.method
  pub target : IsWithin size outline.target
  pub body : outline.body ≤ 1048576

-- the request that an outline takes from bytes, of which the first are its head
pub record IsTakenBy (bytes : List ℕ) (length_of_head : ℕ) (outline : Outline) (request : Request) : Type 0 where
  pub method : request.method ≡ span_bytes (take length_of_head bytes) outline.method
  pub target : request.target ≡ span_bytes (take length_of_head bytes) outline.target
  pub body : request.body ≡ take outline.body (drop length_of_head bytes)
  pub close : request.close ≡ outline.close
