-- One exchange of a connection, step by step.
use Rattle.std.specs.Prelude.{◌≡◌, ℕ, List, [], ◌∷◌, ◌++◌}
use Rattle.cw_io.specs.Told.{with_back}
use Rattle.cw_http.specs.Kept.{IsTaken}
use Rattle.cw_http.specs.Replies.{reply_text}
use Rattle.cw_conn.specs.Exchanges.{Exchange, requests_of, entries_of, AreAnswered, Stand, shuts, reply_texts}
use Rattle.cw_conn.specs.Exchanges.{asked_call, GoesOn}
use Rattle.cw_conn.specs.Talked.{Moment}

-- behind so many exchanges, a request was read, the desk answered it by an entry, and the reply was written
pub record Exchanged (number : ℕ) (x : Exchange) (s t : Moment) : Type 0 where
  pub taken : IsTaken x.request s.left t.left
  pub call : x.entry.call ≡ asked_call x.request
  pub grew : t.entries ≡ s.entries ++ x.entry ∷ []
  pub wrote : t.held ≡ with_back (reply_text x.entry.reply (shuts number x.request)) s.held

-- so many exchanges, behind which the connection goes on
pub record Went (exchanges : List Exchange) (s t : Moment) : Type 0 where
  pub read : Stand (requests_of exchanges) s.left t.left
  pub calls : AreAnswered exchanges
  pub grew : t.entries ≡ s.entries ++ entries_of exchanges
  pub wrote : t.held ≡ with_back (reply_texts 0 exchanges) s.held
  pub goes_on : GoesOn 0 exchanges
