use Rattle.std.proofs.Common.{◌≡◌, map, drop}
use Rattle.std.specs.Prelude.{codes}
use Rattle.std.specs.List.{list_any}
use Rattle.httparse.specs.Spans.{header_bytes}
use Rattle.cw_http.specs.Fields.{values_of, is_close}
use Rattle.cw_http.proofs.fields.asks_to_close.Given as goal

-- the fields so far don't close
abbrev pub invariant-loop-field : goal.invariant-loop-field
invariant-loop-field l =
    list_any is_close (values_of (codes "connection") (map (header_bytes l.head) (drop l.field-index l.fields)))
    ≡ list_any is_close (values_of (codes "connection") (map (header_bytes l.head) l.fields))
