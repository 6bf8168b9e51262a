-- Entries of the transaction list for whose writing memory was taken, the next one first.
use Rattle.std.specs.Prelude.{◌≡◌, ℕ, List, [], ◌∷◌, ◌++◌, drop}
use Rattle.cw_txn.specs.declared.entry.Entry.{Entry}
use Rattle.cw_txn.specs.Transactions.{Transactions}
use Rattle.cw_txn.specs.Body.{entries_bytes}

-- a frame's entries, the list of the one frame that they are, and its bytes
pub record IsEntryFrame (entries : List Entry) (list : List (List Entry)) (body : List ℕ) : Type 0 where
  pub list_is : list ≡ entries ∷ []
  pub body_is : body ≡ entries_bytes entries

-- memory was taken for this entry first
abbrev pub IsReadied : Entry → Transactions → Type 0
IsReadied entry t = t.reserved ≡ entry ∷ drop 1 t.reserved

-- an entry is put in, by the memory that was taken for it first
abbrev pub with_readied : Entry → Transactions → Transactions
with_readied entry t = record { entries = t.entries ++ entry ∷ []; reserved = drop 1 t.reserved }

-- entries with one more, with no memory taken for others
abbrev pub with_entry : Entry → List Entry → Transactions
with_entry entry entries = record { entries = entries ++ entry ∷ []; reserved = [] }
