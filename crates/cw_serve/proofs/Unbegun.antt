-- What holds of a journal in which nothing is kept, and of a listener that gave no link.
use Rattle.std.proofs.Common.{◌≡◌, List, [], length, sym, ap, subst}
use Rattle.std.specs.List.{range_with_len}
use Rattle.std.specs.List.Sorted.{IsPermutation}
use Rattle.std.proofs.lemmas.List.{append-nil}
use Rattle.std.proofs.lemmas.List.Sorted.{IsPermutation-refl}
use Rattle.cw_desk.specs.Comparing.{AreTheJournal}
use Rattle.cw_io.specs.declared.link.Link as link
use Rattle.cw_model.specs.declared.journal.JournalEntry.{JournalEntry}
use Rattle.cw_net.specs.declared.listener.Listener as listener
use Rattle.cw_world.specs.Receipts.{ReceiptState}
use Rattle.cw_serve.specs.Talking.{HaveTalked, entries_in}
use Rattle.cw_serve.proofs.Talking.{no_talks}

-- no receipts are it
pub none_are : (journal : List JournalEntry) → journal ≡ [] → AreTheJournal journal []
none_are journal is = record { entries = sym is; numbers = ap (λ j. range_with_len 0 (length j)) (sym is) }

-- there was no connection
pub none_talked : {N L : Type 0} (K : listener.Ghosts N L) (I : link.Ghosts L) (agreed : Type 0) (net : N) (receipts : List ReceiptState) → receipts ≡ [] → HaveTalked K I agreed net net receipts
none_talked K I agreed net receipts none = record {
  links = [];
  tickets = [];
  entries = [];
  given = sym (append-nil (K.given net));
  once = IsPermutation-refl [];
  talks = no_talks I;
  answered = λ is. subst (λ (l : List ReceiptState). IsPermutation [] (entries_in l)) (sym none) (IsPermutation-refl []);
}
