use Rattle.std.proofs.Common.{◌≡◌, map, drop}
use Rattle.httparse.specs.Spans.{header_bytes}
use Rattle.cw_http.specs.Fields.{values_of}
use Rattle.cw_http.proofs.fields.first_value.Given as goal

-- the fields so far have other names
abbrev pub invariant-loop-at : goal.invariant-loop-at
invariant-loop-at l =
    values_of l.name (map (header_bytes l.head) (drop l.at l.fields)) ≡ values_of l.name (map (header_bytes l.head) l.fields)
