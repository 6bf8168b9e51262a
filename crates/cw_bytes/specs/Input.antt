-- The reader's input as unread bytes. Internal: no public contract cites this.
use Rattle.cw_bytes.specs.declared.input.Input.{Input}
use Rattle.cw_bytes.specs.Unread.{Unread}

-- an input without where its bytes lie in memory
abbrev pub unread : Input → Unread
unread from = record { place = from.place; rest = from.rest.now }
