-- An entry that was read from a published view is kept in the journal: what is known behind it.
use Rattle.std.proofs.Common.{◌≡◌, inr, [], ◌∷◌, ◌++◌, ℕ, length, true, Result, Ok, Err, IfOk, OnErr, sym, ap, subst}
use Rattle.std.specs.declared.alloc.AllocError.{AllocError}
use Rattle.cw_disk.specs.declared.device.Disk.{Ghosts}
use Rattle.cw_laws.proofs.Calls.{grows-journal}
use Rattle.cw_laws.proofs.Grows.{grows-same}
use Rattle.cw_model.specs.declared.journal.JournalEntry.{JournalEntry}
use Rattle.cw_model.specs.Grows.{Grows}
use Rattle.cw_model.specs.Journal.{MayJournal, IsTrueEntry}
use Rattle.cw_model.specs.Lookups.{row_of}
use Rattle.cw_world.specs.Receipts.{ReceiptState}
use Rattle.cw_world.specs.World.{WorldState}
use Rattle.cw_desk.specs.Turns.{Keeps}
use Rattle.cw_turns.specs.Going.{Start, GoesOn}
use Rattle.cw_turns.proofs.Submitted.{keeps-on}

module _ {D : Type 0} (G : Ghosts D) (entry : JournalEntry) (old new : WorldState D) where
  -- it may be kept
  pub seen-may : entry.board ≡ true → IsTrueEntry old.setting old.state old.state.journal entry → MayJournal old.setting entry old.state
  seen-may board holds = inr (inr board, holds)

  pub seen-on : (r : Result ReceiptState AllocError) → MayJournal old.setting entry old.state → Keeps entry old new r
      → (start : Start) → GoesOn G start old → GoesOn G start new
  seen-on r may keeps start goes = keeps-on G start old new entry r goes may keeps

  pub seen-asked : (r : Result ReceiptState AllocError) → Keeps entry old new r → IfOk r (λ receipt. receipt.entry ≡ entry)
  seen-asked (Ok receipt) keeps = ap (λ (x : ReceiptState). x.entry) keeps.0
  seen-asked (Err wants) keeps = tt

  pub seen-shows : (r : Result ReceiptState AllocError) → Keeps entry old new r
      → IfOk r (λ receipt. (receipt.number ≡ length old.state.journal) × (receipt.name ≡ old.name))
  seen-shows (Ok receipt) keeps = (ap (λ (x : ReceiptState). x.number) keeps.0, ap (λ (x : ReceiptState). x.name) keeps.0)
  seen-shows (Err wants) keeps = tt

  pub seen-kept : (r : Result ReceiptState AllocError) → Keeps entry old new r
      → IfOk r (λ receipt. new.state.journal ≡ old.state.journal ++ receipt.entry ∷ [])
  seen-kept (Ok receipt) keeps =
      let is : new.state.journal ≡ old.state.journal ++ entry ∷ [] = ap (λ (x : WorldState D). x.state.journal) keeps.1 in
      subst (λ (e : JournalEntry). new.state.journal ≡ old.state.journal ++ e ∷ []) (sym (ap (λ (x : ReceiptState). x.entry) keeps.0)) is
  seen-kept (Err wants) keeps = tt

  pub seen-unkept : (r : Result ReceiptState AllocError) → Keeps entry old new r → OnErr r (new.state.journal ≡ old.state.journal)
  seen-unkept (Ok receipt) keeps = tt
  seen-unkept (Err wants) keeps = ap (λ (x : WorldState D). x.state.journal) keeps

  pub seen-grows : (r : Result ReceiptState AllocError) → Keeps entry old new r → Grows old.state new.state
  seen-grows (Ok receipt) keeps = subst (λ (x : WorldState D). Grows old.state x.state) (sym keeps.1) (grows-journal entry old.state)
  seen-grows (Err wants) keeps = subst (λ (x : WorldState D). Grows old.state x.state) (sym keeps) (grows-same old.state)

  pub seen-live : (r : Result ReceiptState AllocError) → Keeps entry old new r → (v : ℕ) → (row_of v new.state).live ≡ (row_of v old.state).live
  seen-live (Ok receipt) keeps v = ap (λ (x : WorldState D). (row_of v x.state).live) keeps.1
  seen-live (Err wants) keeps v = ap (λ (x : WorldState D). (row_of v x.state).live) keeps

  pub seen-same : (r : Result ReceiptState AllocError) → Keeps entry old new r → (new.setting ≡ old.setting) × (new.name ≡ old.name)
  seen-same (Ok receipt) keeps = (ap (λ (x : WorldState D). x.setting) keeps.1, ap (λ (x : WorldState D). x.name) keeps.1)
  seen-same (Err wants) keeps = (ap (λ (x : WorldState D). x.setting) keeps, ap (λ (x : WorldState D). x.name) keeps)
