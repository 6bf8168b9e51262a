-- What is said on a connection (RFC 9112, 9.3): the peer's requests stand one behind the other, each is answered by an
-- entry of the journal, and the entry's reply is written before the next request is read. That a connection closes
-- behind its 100th reply is this project's own rule.
use Rattle.std.specs.Prelude.{◌≡◌, ℕ, ◌+◌, ◌<◌, ◌==◌, ◌||◌, Bool, false, List, [], ◌∷◌, ◌++◌, length, map, Option}
use Rattle.std.specs.Prelude.{Result, Ok, Err}
use Rattle.std.specs.List.{AllByRecursion}
use Rattle.cw_route.specs.Calls.{call_of}
use Rattle.cw_route.specs.declared.call.Call.{Call}
use Rattle.cw_route.specs.declared.call.Call.TheVariants.{Refused}
use Rattle.cw_route.specs.declared.call.RouteFault.{RouteFault}
use Rattle.cw_model.specs.declared.journal.JournalEntry.{JournalEntry}
use Rattle.cw_http.specs.declared.request.Request.{Request}
use Rattle.cw_http.specs.Kept.{IsTaken}
use Rattle.cw_http.specs.Replies.{reply_text}

-- the call that a request asks for; one that is no call asks to be refused
abbrev pub or_refused : Result Call RouteFault → Call
or_refused (Ok call) = call
or_refused (Err fault) = Refused fault

abbrev pub asked_call : Request → Call
asked_call request = or_refused (call_of request.method request.target request.body)

-- a request, and the entry that it was answered with
pub record Exchange : Type 0 where
  pub request : Request
  pub entry : JournalEntry

abbrev pub requests_of : List Exchange → List Request
requests_of exchanges = map (λ x. x.request) exchanges

abbrev pub entries_of : List Exchange → List JournalEntry
entries_of exchanges = map (λ x. x.entry) exchanges

-- each entry is of the call that its request asks for
abbrev pub AreAnswered : List Exchange → Type 0
AreAnswered exchanges = AllByRecursion (λ x. x.entry.call ≡ asked_call x.request) exchanges

-- requests stand one behind the other at the front of bytes, where these are told, and the rest behind them
abbrev pub Stand : List Request → Option (List ℕ) → Option (List ℕ) → Type 0
Stand [] bytes rest = rest ≡ bytes
Stand (request ∷ requests) bytes rest =
    (behind : Option (List ℕ)) × IsTaken request bytes behind × Stand requests behind rest

-- whether the connection closes behind the reply to a request, by how many were answered before it
abbrev pub shuts : ℕ → Request → Bool
shuts number request = request.close || (number == 99)

-- the texts of replies, one behind the other, by how many there were before them
abbrev pub reply_texts : ℕ → List Exchange → List ℕ
reply_texts number [] = []
reply_texts number (x ∷ xs) = reply_text x.entry.reply (shuts number x.request) ++ reply_texts (number + 1) xs

-- exchanges behind which the connection goes on: fewer than 100 with those before them, and no request closes
pub record GoesOn (number : ℕ) (exchanges : List Exchange) : Type 0 where
  pub few : number + length exchanges < 100
  pub stays : AllByRecursion (λ x. x.request.close ≡ false) exchanges

-- exchanges of which the last may be that behind which the connection closes
pub record HasLast (number : ℕ) (exchanges : List Exchange) : Type 0 where
  pub before : List Exchange
  pub last : Exchange
  pub split : exchanges ≡ before ++ last ∷ []
  pub goes_on : GoesOn number before
