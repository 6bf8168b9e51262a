-- The tables behind one entry more.
use Rattle.std.proofs.Common.{◌≡◌, ℕ, ◌+◌, Bool, true, false, ◌||◌, cond, List, [], ◌∷◌, ◌++◌, refl, sym, ap, ◌∙◌, arith}
use Rattle.std.specs.List.{fold}
use Rattle.std.specs.BTreeMap.{BTreeMap}
use Rattle.cw_types.specs.declared.ids.Tid.{Tid}
use Rattle.cw_types.specs.declared.ids.Tag.{Tag}
use Rattle.cw_types.specs.declared.ids.PartKey.{PartKey}
use Rattle.cw_types.specs.declared.ids.Span.{Span}
use Rattle.cw_txn.specs.declared.entry.Entry.{Entry}
use Rattle.cw_txn.specs.declared.entry.Entry.TheVariants.{Bump, Commit}
use Rattle.cw_txn.specs.declared.history.History.{History}
use Rattle.cw_txn.specs.declared.tables.Tables.{Tables}
use Rattle.cw_types.specs.Same.{same_tid, same_tag}
use Rattle.cw_txn.specs.Legal.{is_committed}
use Rattle.cw_txn.specs.History.{after_span}
use Rattle.cw_txn.specs.Tables.{Keeps, SameRows, epoch_at, committed_at, history_at}
use Rattle.cw_txn.proofs.Walks.{epoch_of-push, is_committed-push, history-push}

one_more : (b : Bool) (n : ℕ) → cond b (n + 1) n ≡ n + cond b 1 0
one_more true n = refl
one_more false n = omega arith

found : (a b : Bool) → cond b true a ≡ (a || b)
found true true = refl
found true false = refl
found false true = refl
found false false = refl

or_no : (b : Bool) → (b || false) ≡ b
or_no true = refl
or_no false = refl

module _ (old : Tables) (entries : List Entry) (kept : Keeps old entries) where
  pub keeps_bump : (epochs : BTreeMap Tid ℕ) (tid : Tid) → ((q : Tid) → epoch_at epochs q ≡ cond (same_tid q tid) (epoch_at old.epochs q + 1) (epoch_at old.epochs q))
      → Keeps (record { epochs = epochs; committed = old.committed; parts = old.parts }) (entries ++ Bump tid ∷ [])
  keeps_bump epochs tid raised = record {
    epochs = λ q. raised q ∙ one_more (same_tid q tid) (epoch_at old.epochs q) ∙ ap (λ n. n + cond (same_tid q tid) 1 0) (kept.epochs q) ∙ sym (epoch_of-push q entries (Bump tid));
    committed = λ q. kept.committed q ∙ sym (is_committed-push q entries (Bump tid) ∙ or_no (is_committed q entries));
    parts = λ q. kept.parts q ∙ sym (history-push q entries (Bump tid));
  }

  module _ (committed : BTreeMap Tag Bool) (parts : BTreeMap PartKey History) (tag : Tag) (generation : ℕ) (spans : List Span)
      (set : (q : Tag) → committed_at committed q ≡ cond (same_tag q tag) true (committed_at old.committed q))
      (moved : (part : PartKey) → history_at parts part ≡ fold (after_span part) (history_at old.parts part) spans) where
    pub keeps_commit : Keeps (record { epochs = old.epochs; committed = committed; parts = parts }) (entries ++ Commit tag generation spans ∷ [])
    keeps_commit = record {
      epochs = λ q. kept.epochs q ∙ omega (arith, epoch_of-push q entries (Commit tag generation spans));
      committed = λ q. set q ∙ found (committed_at old.committed q) (same_tag q tag) ∙ ap (λ (b : Bool). b || same_tag q tag) (kept.committed q) ∙ sym (is_committed-push q entries (Commit tag generation spans));
      parts = λ q. moved q ∙ ap (λ (h : History). fold (after_span q) h spans) (kept.parts q) ∙ sym (history-push q entries (Commit tag generation spans));
    }

-- tables that read as before are those of the same list
pub Keeps-same : (old new : Tables) (entries : List Entry) → SameRows old new → Keeps old entries → Keeps new entries
Keeps-same old new entries same kept = record {
  epochs = λ q. same.epochs q ∙ kept.epochs q;
  committed = λ q. same.committed q ∙ kept.committed q;
  parts = λ q. same.parts q ∙ kept.parts q;
}
