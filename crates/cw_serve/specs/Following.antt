-- How the calls that one connection handler answers follow each other: one that is answered from the board saw no less
-- of the config log than those before it that read, and more than those before it that wrote found. This project's own.
use Rattle.std.specs.Prelude.{◌≡◌, ◌<◌, ◌≤◌, ℕ, true}
use Rattle.cw_model.specs.declared.journal.JournalEntry.{JournalEntry}
use Rattle.cw_model.specs.Journal.{WroteConfigs}
use Rattle.cw_rest.specs.Calls.{deed_of, is_reading}
use Rattle.cw_world.specs.Receipts.{ReceiptState}

-- so many records of the config log are no fewer than a call saw that read, and more than one found that wrote
pub record Covers (count : ℕ) (e : JournalEntry) : Type 0 where
  pub read : is_reading (deed_of e.call) ≡ true → e.prefix ≤ count
  pub wrote : WroteConfigs e → e.prefix < count

-- an entry that was read from the board doesn't go back behind an earlier one
abbrev pub GoesOnFrom : JournalEntry → JournalEntry → Type 0
GoesOnFrom earlier later = later.board ≡ true → Covers later.prefix earlier

-- nor does the entry of a receipt
abbrev pub Follows : ReceiptState → ReceiptState → Type 0
Follows earlier later = GoesOnFrom earlier.entry later.entry
