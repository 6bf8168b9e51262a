-- How one more call follows those that a handler answered before.
use Rattle.std.proofs.Common.{◌≡◌, ◌⊎◌, inl, inr, ℕ, ◌<◌, ◌≤◌, true, false, List, [], ◌∷◌, ◌++◌, Result, Ok, Err, IfOk, IfErr, sym, ap, ◌∙◌, subst, arith}
use Rattle.std.specs.Prelude.{All}
use Rattle.std.specs.List.{AllPairs}
use Rattle.std.specs.declared.alloc.AllocError.{AllocError}
use Rattle.std.proofs.lemmas.List.Elements.{All-push, All-weaker}
use Rattle.std.proofs.lemmas.List.Quantifiers.{all_pairs_push}
use Rattle.cw_bytes.specs.Frames.{EachFrom}
use Rattle.cw_desk.specs.Turns.{IsTurn, Keeps}
use Rattle.cw_disk.specs.declared.device.Disk.{Ghosts}
use Rattle.cw_laws.proofs.Allowed.{each_from-rest}
use Rattle.cw_model.specs.declared.journal.JournalEntry.{JournalEntry}
use Rattle.cw_model.specs.Journal.{IsTrueEntry, IsTrueJournal}
use Rattle.cw_model.specs.Lookups.{row_of}
use Rattle.cw_model.specs.State.{Setting, Cluster}
use Rattle.cw_rest.specs.Calls.{reads_configs, writes_configs, deed_of}
use Rattle.cw_route.specs.declared.call.Call.{Call}
use Rattle.cw_world.specs.Receipts.{ReceiptState}
use Rattle.cw_world.specs.World.{WorldState}
use Rattle.cw_serve.specs.Following.{Covers, Follows}

-- ---- what a number of records covers

pub covers-more : (m n : ℕ) (e : JournalEntry) → m ≤ n → Covers m e → Covers n e
covers-more m n e le covers = record {
  read = λ reads. let low = covers.read reads in omega (arith, le, low);
  wrote = λ wrote. let low = covers.wrote wrote in omega (arith, le, low);
}

-- an entry that is true is covered by what its worker has read
covers-true : (setting : Setting) (s : Cluster) (before : List JournalEntry) (e : JournalEntry) (w : ℕ) → IsTrueEntry setting s before e → e.worker ≡ w
    → Covers (row_of w s).prefix e
covers-true setting s before e w holds is = record {
  read = λ reads. subst (λ (v : ℕ). e.prefix ≤ (row_of v s).prefix) is (holds.reader reads);
  wrote = λ wrote. subst (λ (v : ℕ). e.prefix < (row_of v s).prefix) is (holds.reread wrote);
}

-- the last entry of a journal is true
last-true : (setting : Setting) (s : Cluster) (before : List JournalEntry) (e : JournalEntry) → IsTrueJournal setting s → s.journal ≡ before ++ e ∷ []
    → IsTrueEntry setting s before e
last-true setting s before e journal is =
    (each_from-rest (IsTrueEntry setting s) [] before (e ∷ []) (subst (λ (l : List JournalEntry). EachFrom (IsTrueEntry setting s) [] l) is journal)).0

pub covers-last : (setting : Setting) (s : Cluster) (before : List JournalEntry) (e : JournalEntry) (w : ℕ) → IsTrueJournal setting s → s.journal ≡ before ++ e ∷ []
    → e.worker ≡ w → Covers (row_of w s).prefix e
covers-last setting s before e w journal is worker = covers-true setting s before e w (last-true setting s before e journal is) worker

-- an entry of a call that reads configs is covered by what it saw
pub covers-itself : (e : JournalEntry) → deed_of e.call ≡ reads_configs → Covers e.prefix e
covers-itself e reads = record {
  read = λ _. omega arith;
  wrote = λ wrote. absurd (let no : reads_configs ≡ writes_configs = sym reads ∙ wrote.deed in cc);
}

-- ---- one more call

module _ (before kept now : List ReceiptState) (r : ReceiptState) (same : kept ≡ before) (behind : now ≡ kept ++ r ∷ []) where
  whole : now ≡ before ++ r ∷ []
  whole = behind ∙ ap (λ (rs : List ReceiptState). rs ++ r ∷ []) same

  pub all-covered : (m n : ℕ) → All (λ x. Covers m x.entry) before → m ≤ n → Covers n r.entry → All (λ x. Covers n x.entry) now
  all-covered m n all le covers =
      let P : ReceiptState → Type 0 = λ x. Covers m x.entry in
      let Q : ReceiptState → Type 0 = λ x. Covers n x.entry in
      subst (λ (l : List ReceiptState). All Q l) (sym whole) (All-push Q before r (All-weaker P Q (λ x. covers-more m n x.entry le) before all) covers)

  pub all-follow : AllPairs Follows before → (r.entry.board ≡ true → All (λ x. Covers r.entry.prefix x.entry) before) → AllPairs Follows now
  all-follow pairs all = subst (λ (l : List ReceiptState). AllPairs Follows l) (sym whole)
      (all_pairs_push Follows before r pairs (λ k d low board. all board k d low))

  -- one that wasn't answered from the board
  pub locked-follows : AllPairs Follows before → r.entry.board ≡ false → AllPairs Follows now
  locked-follows pairs locked = all-follow pairs (λ board. absurd (let no : true ≡ false = sym board ∙ locked in cc))

  -- one that was
  pub seen-follows : (least : ℕ) → AllPairs Follows before → All (λ x. Covers least x.entry) before → least ≤ r.entry.prefix → AllPairs Follows now
  seen-follows least pairs all le =
      let P : ReceiptState → Type 0 = λ x. Covers least x.entry in
      let Q : ReceiptState → Type 0 = λ x. Covers r.entry.prefix x.entry in
      all-follow pairs (λ _. All-weaker P Q (λ x. covers-more least r.entry.prefix x.entry le) before all)

-- a turn under the lock keeps an entry that wasn't answered from the board
pub if-locked : {D : Type 0} (G : Ghosts D) (w : ℕ) (call : Call) (old new : WorldState D) (result : Result ReceiptState AllocError) → IsTurn G w call old new result
    → IfOk result (λ receipt. receipt.entry.board ≡ false)
if-locked G w call old new (Ok receipt) turn = ap (λ (r : ReceiptState). r.entry.board) turn.keeps.0
if-locked G w call old new (Err wanting) turn = tt

-- a turn was taken, or memory was wanting before it and nothing is kept
pub turned : {T D : Type 0} (Kept Last : ReceiptState → Type 0) (G : Ghosts D) (w : ℕ) (call : Call) (entry : JournalEntry) (old new : WorldState D) (result : Result T AllocError)
    → IfOk result (λ _. (r : ReceiptState) × Kept r × IsTurn G w call old new (Ok r) × Last r)
    → IfErr result (λ wanting. (new ≡ old) ⊎ IsTurn G w call old new (Err wanting))
    → (answer : Result ReceiptState AllocError) × (IsTurn G w call old new answer ⊎ Keeps entry old new answer)
turned Kept Last G w call entry old new (Ok done) ok err = (Ok ok.0, inl ok.2)
turned Kept Last G w call entry old new (Err wanting) ok (inl same) = (Err wanting, inr same)
turned Kept Last G w call entry old new (Err wanting) ok (inr turn) = (Err wanting, inl turn)
