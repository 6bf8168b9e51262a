-- The receipts that were kept beside a journal: when they are it, and what shows that they aren't. This project's own.
use Rattle.std.specs.Prelude.{◌≡◌, ◌≢◌, ℕ, ◌+◌, ◌<◌, List, [], ◌∷◌, ◌++◌, length, map, Option, Some, None, slice_get}
use Rattle.std.specs.List.{range_with_len}
use Rattle.std.specs.List.Sorted.{IsPermutation}
use Rattle.cw_model.specs.declared.journal.JournalEntry.{JournalEntry}
use Rattle.cw_world.specs.Receipts.{ReceiptState}
use Rattle.cw_desk.specs.declared.comparing.Member.{Member}
use Rattle.cw_desk.specs.declared.comparing.Member.TheVariants as member
use Rattle.cw_desk.specs.declared.comparing.Disagree.{Disagree}

-- receipts are a journal: its entries, each once at its number
pub record AreTheJournal (journal : List JournalEntry) (receipts : List ReceiptState) : Type 0 where
  pub entries : map (λ r. r.entry) receipts ≡ journal
  pub numbers : map (λ r. r.number) receipts ≡ range_with_len 0 (length journal)

-- what is found in place of a receipt's entry: another receipt of its number, another entry there, or none
abbrev pub IsFound : List JournalEntry → ReceiptState → Option Member → Type 0
IsFound journal kept (Some (member.Receipt other)) = other.number ≡ kept.number
IsFound journal kept (Some member.Entry) =
    (e : JournalEntry) × (slice_get journal kept.number ≡ Some e) × (e ≢ kept.entry)
IsFound journal kept None = slice_get journal kept.number ≡ None

-- the receipt that was found, if it is one
abbrev pub receipts_in : Option Member → List ReceiptState
receipts_in (Some (member.Receipt other)) = other ∷ []
receipts_in (Some member.Entry) = []
receipts_in None = []

-- a receipt isn't the journal's entry of its number, or it is one of two receipts of that number
pub record Disagrees (journal : List JournalEntry) (receipts : List ReceiptState) (d : Disagree) : Type 0 where
  pub at : d.at ≡ d.kept.number
  pub found : IsFound journal d.kept d.found
  pub rest : List ReceiptState
  pub among : IsPermutation receipts (d.kept ∷ receipts_in d.found ++ rest)

-- ---- receipts in the order of their numbers

-- no two neighbours below a place have one number
abbrev pub NoneTwice : List ReceiptState → ℕ → Type 0
NoneTwice receipts n = (k : ℕ) (r s : ReceiptState) → k + 1 < n → slice_get receipts k ≡ Some r →
    slice_get receipts (k + 1) ≡ Some s → r.number ≢ s.number

-- each entry below a place is the journal's at its number
abbrev pub NoneElsewhere : List JournalEntry → List ReceiptState → ℕ → Type 0
NoneElsewhere journal receipts n = (k : ℕ) (r : ReceiptState) → k < n → slice_get receipts k ≡ Some r →
    slice_get journal r.number ≡ Some r.entry
