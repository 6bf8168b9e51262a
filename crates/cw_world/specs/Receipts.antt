-- What is kept of the journal outside of a world: receipts, and the whole journal once the world is given back. This
-- project's own, as is the journal.
use Rattle.std.specs.Prelude.{ℕ, List, Option, Result, Ok, Err}
use Rattle.logbook.specs.Pages.{Book}
use Rattle.cw_model.specs.declared.fault.WorldFault.{WorldFault}
use Rattle.cw_model.specs.declared.journal.JournalEntry.{JournalEntry}

-- an entry, its place in the journal, and the world that has it
pub record ReceiptState : Type 0 where
  pub number : ℕ
  pub entry : JournalEntry
  pub name : Book

-- the entries of a journal, and the world that had them
pub record JournalState : Type 0 where
  pub entries : List JournalEntry
  pub name : Option Book

-- the number that an answer has
abbrev pub numbered : Result ReceiptState WorldFault → Result ℕ WorldFault
numbered (Ok receipt) = Ok receipt.number
numbered (Err fault) = Err fault
