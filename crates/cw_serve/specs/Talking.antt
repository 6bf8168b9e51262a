-- What is said on the links that a server accepts: over each link there is one connection, and the entries of all
-- connections together are those of the receipts (RFC 9112, 9.3). That links are numbered is this project's own rule.
use Rattle.std.specs.Prelude.{◌≡◌, List, [], ◌++◌, map}
use Rattle.std.specs.List.{AllByRecursion, AllPairs, flat_map}
use Rattle.std.specs.List.Sorted.{IsPermutation}
use Rattle.cw_conn.specs.Talked.{Moment, moment, Talked}
use Rattle.cw_conn.specs.declared.ends.ConnEnd.{ConnEnd}
use Rattle.cw_io.specs.declared.link.Link as link
use Rattle.cw_line.specs.declared.rule.Ticket.{Ticket}
use Rattle.cw_line.specs.Numbers.{IsEachOnce}
use Rattle.cw_model.specs.declared.journal.JournalEntry.{JournalEntry}
use Rattle.cw_net.specs.declared.listener.Listener as listener
use Rattle.cw_world.specs.Receipts.{ReceiptState}
use Rattle.cw_serve.specs.Following.{GoesOnFrom}

-- the entries of receipts
abbrev pub entries_in : List ReceiptState → List JournalEntry
entries_in receipts = map (λ r. r.entry) receipts

-- a connection: its link with its number, as it was accepted, how it ended, and behind it the peer's bytes, what was
-- written and the entries that it was answered with
pub record Talk (L : Type 0) : Type 0 where
  pub ticket : Ticket L
  pub end : ConnEnd
  pub behind : Moment

module _ {L : Type 0} (I : link.Ghosts L) where
  -- before the first request: the peer's bytes, and what was written
  abbrev pub first_moment : Ticket L → Moment
  first_moment ticket = moment (I.left ticket.link) (I.held ticket.link) []

  -- its requests stand in order at the front of the bytes that the peer sent when the link was accepted, each is
  -- answered by one entry, and what is written are these entries' replies and at most one refusal; no entry that was
  -- read from the board goes back behind an earlier one
  pub record IsTalk (talk : Talk L) : Type 0 where
    pub talked : Talked 0 talk.end (first_moment talk.ticket) talk.behind
    pub follow : AllPairs GoesOnFrom talk.behind.entries

  -- connections over these links, answered by these entries
  pub record AreTalks (tickets : List (Ticket L)) (entries : List JournalEntry) : Type 0 where
    pub talks : List (Talk L)
    pub each : AllByRecursion IsTalk talks
    pub tickets_are : map (λ t. t.ticket) talks ≡ tickets
    pub entries_are : flat_map (λ t. t.behind.entries) talks ≡ entries

  -- a connection over this link added its entries
  pub record Serves (ticket : Ticket L) (before behind : List JournalEntry) : Type 0 where
    pub talk : Talk L
    pub is : IsTalk talk
    pub ticket_is : talk.ticket ≡ ticket
    pub grew : behind ≡ before ++ talk.behind.entries

-- the listener gave these links, over each of them, as it was then, there was one connection, and where the receipts
-- were found to be the journal the entries of the connections are theirs, each once
pub record HaveTalked {N L : Type 0} (K : listener.Ghosts N L) (I : link.Ghosts L) (agreed : Type 0) (old new : N)
    (receipts : List ReceiptState) : Type 0 where
  pub links : List L
  pub tickets : List (Ticket L)
  pub entries : List JournalEntry
  pub given : K.given new ≡ K.given old ++ links
  pub once : IsEachOnce links tickets
  pub talks : AreTalks I tickets entries
  pub answered : agreed → IsPermutation entries (entries_in receipts)
