-- How connections end: where the peer's bytes or the link end, behind a request that closes (RFC 9112, 9.6), where
-- bytes are no request, behind the 100th reply, and where memory is wanting. Of these the last two are this project's
-- own.
use Rattle.std.specs.Prelude.{◌≡◌, ◌⊎◌, ℕ, ◌+◌, ◌≤◌, Bool, true, false, List, [], ◌++◌, length, Option}
use Rattle.cw_io.specs.Told.{with_back}
use Rattle.cw_io.specs.Written.{IsWrittenInPart}
use Rattle.cw_rest.specs.Messages.{memory_reply}
use Rattle.cw_http.specs.declared.request.Request.{Request}
use Rattle.cw_http.specs.Reading.{Reading, unfinished, refused}
use Rattle.cw_http.specs.Kept.{IsTold}
use Rattle.cw_http.specs.Replies.{reply_text, refusal_of}
use Rattle.cw_conn.specs.declared.ends.ConnEnd.{ConnEnd}
use Rattle.cw_conn.specs.declared.ends.ConnEnd.TheVariants.{Ended, Closed, Many, Bad, LinkFault, Memory}
use Rattle.cw_conn.specs.Exchanges.{Exchange, reply_texts, shuts, GoesOn, HasLast}

-- the text of the refusal of bytes that are no request, and of one for want of memory
abbrev pub bad_text : ℕ → List ℕ
bad_text code = reply_text (refusal_of code) true

abbrev pub memory_text : List ℕ
memory_text = reply_text memory_reply true

-- what a connection came to: how many exchanges there were before, those that there were, the request that was read
-- last where it wasn't answered, the peer's bytes behind, and what the link held before and holds now
pub record Outcome : Type 0 where
  pub number : ℕ
  pub exchanges : List Exchange
  pub unanswered : List Request
  pub left : Option (List ℕ)
  pub held : Option (List ℕ)
  pub held_now : Option (List ℕ)

-- the replies and then this text were written
abbrev pub Wrote : Outcome → List ℕ → Type 0
Wrote o text = o.held_now ≡ with_back (reply_texts o.number o.exchanges ++ text) o.held

-- all requests were answered and none closes, and the peer's bytes behind them are no request, which a text tells
pub record StopsAt (reading : Reading) (text : List ℕ) (o : Outcome) : Type 0 where
  pub goes_on : GoesOn o.number o.exchanges
  pub answered : o.unanswered ≡ []
  pub found : IsTold reading o.left
  pub wrote : Wrote o text

-- memory is wanting for the request that was read last, or for reading one
pub record Wants (o : Outcome) : Type 0 where
  pub goes_on : GoesOn o.number o.exchanges
  pub unanswered : length o.unanswered ≤ 1
  pub wrote : Wrote o memory_text

-- the connection closes behind the last reply; its request asks for that or not
pub record Shuts (asks : Bool) (o : Outcome) : Type 0 where
  pub last : HasLast o.number o.exchanges
  pub last_asks : last.last.request.close ≡ asks
  pub answered : o.unanswered ≡ []
  pub wrote : Wrote o []

-- the refusal of the bytes that are left, which are no request
pub record IsBad (text : List ℕ) (unanswered : List Request) (left : Option (List ℕ)) : Type 0 where
  pub code : ℕ
  pub is : text ≡ bad_text code
  pub answered : unanswered ≡ []
  pub found : IsTold (refused code) left

-- the refusal that is due behind the replies where a link fails: none, one for want of memory, or that of bytes that
-- are no request
abbrev pub IsDue : List ℕ → List Request → Option (List ℕ) → Type 0
IsDue text unanswered left =
    ((text ≡ []) × (unanswered ≡ []))
    ⊎ (((text ≡ memory_text) × (length unanswered ≤ 1)) ⊎ IsBad text unanswered left)

-- the link failed with all replies written, as it was read or in a refusal
pub record FailsBehind (o : Outcome) : Type 0 where
  pub goes_on : GoesOn o.number o.exchanges
  pub text : List ℕ
  pub due : IsDue text o.unanswered o.left
  pub wrote : IsWrittenInPart text (with_back (reply_texts o.number o.exchanges) o.held) o.held_now

-- the link failed in the last reply, all those before it written
pub record FailsIn (o : Outcome) : Type 0 where
  pub last : HasLast o.number o.exchanges
  pub answered : o.unanswered ≡ []
  pub wrote : IsWrittenInPart
      (reply_text last.last.entry.reply (shuts (o.number + length last.before) last.last.request))
      (with_back (reply_texts o.number last.before) o.held) o.held_now

-- the outcome of a connection that ends so
abbrev pub Ends : ConnEnd → Outcome → Type 0
Ends Ended o = StopsAt unfinished [] o
Ends (Bad code) o = StopsAt (refused code) (bad_text code) o
Ends Memory o = Wants o
Ends Closed o = Shuts true o
Ends Many o = Shuts false o × (o.number + length o.exchanges ≡ 100)
Ends LinkFault o = FailsBehind o ⊎ FailsIn o
