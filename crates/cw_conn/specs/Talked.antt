-- A whole connection: which requests were read, which entries the desk answered, and what was written.
use Rattle.std.specs.Prelude.{◌≡◌, ℕ, List, ◌++◌, Option}
use Rattle.cw_model.specs.declared.journal.JournalEntry.{JournalEntry}
use Rattle.cw_http.specs.declared.request.Request.{Request}
use Rattle.cw_conn.specs.declared.ends.ConnEnd.{ConnEnd}
use Rattle.cw_conn.specs.Exchanges.{Exchange, requests_of, entries_of, AreAnswered, Stand}
use Rattle.cw_conn.specs.Ends.{Ends}

-- the peer's bytes of which no request was read yet, what was written to the link, and the desk's entries
pub record Moment : Type 0 where
  pub left : Option (List ℕ)
  pub held : Option (List ℕ)
  pub entries : List JournalEntry

abbrev pub moment : Option (List ℕ) → Option (List ℕ) → List JournalEntry → Moment
moment left held entries = record { left = left; held = held; entries = entries }

-- behind so many exchanges there were some more, and then the connection ended: the requests that were read stand in
-- order at the front of the peer's bytes, all or all but the last were answered by one entry each, and nothing else was
pub record Talked (number : ℕ) (end : ConnEnd) (s t : Moment) : Type 0 where
  pub exchanges : List Exchange
  pub unanswered : List Request
  pub read : Stand (requests_of exchanges ++ unanswered) s.left t.left
  pub calls : AreAnswered exchanges
  pub grew : t.entries ≡ s.entries ++ entries_of exchanges
  pub ends : Ends end (record {
    number = number;
    exchanges = exchanges;
    unanswered = unanswered;
    left = t.left;
    held = s.held;
    held_now = t.held;
  })
