-- What a turn keeps of what is known of the world under the lock.
use Rattle.std.proofs.Common.{◌≡◌, ◌≤◌, ◌+◌, ◌&&◌, ℕ, List, [], ◌∷◌, ◌++◌, length, Bool, true, false, not, Option, None, Some, refl, ap, ◌∙◌, subst, sym}
use Rattle.std.specs.Prelude.{All, is_some}
use Rattle.std.proofs.lemmas.List.{length-append}
use Rattle.std.proofs.lemmas.List.Elements.{All-push}
use Rattle.logbook.specs.Pages.{Book}
use Rattle.cw_disk.specs.declared.device.Disk.{Ghosts}
use Rattle.cw_desk.specs.Keeping.{KeepsJournal}
use Rattle.cw_model.specs.declared.journal.JournalEntry.{JournalEntry}
use Rattle.cw_model.specs.Facts.{AreFacts}
use Rattle.cw_model.specs.Grows.{Grows}
use Rattle.cw_model.specs.State.{Setting}
use Rattle.cw_model.specs.Lookups.{row_of}
use Rattle.cw_world.specs.Receipts.{ReceiptState}
use Rattle.cw_world.specs.World.{WorldState}
use Rattle.cw_run.specs.Reaches.{HaveNames}
use Rattle.cw_run.proofs.Reaching.{reached-grows}
use Rattle.cw_turns.specs.Going.{Start, GoesOn, start_of}
use Rattle.cw_turns.proofs.Begun.{begins}
use Rattle.cw_board.specs.Sides.{Writing}
use Rattle.cw_serve.specs.Boarding.{IsBoarded}
use Rattle.cw_serve.specs.Sharing.{SharedState, goes_on, IsShared, HasRoom}
use Rattle.cw_serve.proofs.Boarding.{stays-boarded}

-- nothing goes on once a disk failed
none-failed : {A B : Type 0} (ended : Bool) (stop : Option A) (closed : Option B) → (not ended && not (is_some stop) && not (is_some closed)) ≡ true → closed ≡ None
none-failed false None None on = refl
none-failed false None (Some fault) on = absurd (let no : false ≡ true = on in cc)
none-failed false (Some why) closed on = absurd (let no : false ≡ true = on in cc)
none-failed true stop closed on = absurd (let no : false ≡ true = on in cc)

pub alive-on : {D : Type 0} (s : SharedState D) → goes_on s ≡ true → s.world.state.closed ≡ None
alive-on s on = none-failed s.ended s.stop s.world.state.closed on

-- what a turn that goes on from everywhere leaves has grown
pub grows-on : {D : Type 0} {G : Ghosts D} {start : Start} {old new : WorldState D} → GoesOn G start old → old.state.closed ≡ None → AreFacts old.setting old.state
    → ((from : Start) → GoesOn G from old → GoesOn G from new) → Grows old.state new.state
grows-on {G = G} {old = old} {new = new} goes alive f on =
    let names : HaveNames old.setting = subst (λ (x : Setting). HaveNames x) (sym goes.setting) goes.names in
    let here : GoesOn G (start_of G old) old = begins G old (record { alive = alive; kinds = goes.kinds }) names in
    reached-grows old.setting old.state new.state (on (start_of G old) here).reached f

module _ {D : Type 0} {G : Ghosts D} {start : Start} {workers total : ℕ} {old new : WorldState D} where
  pub keeps_shared : IsShared G start workers total old → (GoesOn G start old → GoesOn G start new) → KeepsJournal old.state new.state
      → IsShared G start workers total new
  keeps_shared has goes keeps = record {
    goes_on = goes has.goes_on;
    live = λ w lt. keeps.live w ∙ has.live w lt;
    counted = ap length keeps.journal ∙ has.counted;
  }

  -- a turn that answers no call
  pub stays_shared : {used capacity : ℕ} {board : Writing} {given : List ℕ} {lacks : Bool}
      → IsShared G start workers total old × HasRoom old.state used capacity × IsBoarded workers board given lacks old.state
      → old.state.closed ≡ None → AreFacts old.setting old.state
      → ((from : Start) → GoesOn G from old → GoesOn G from new) → KeepsJournal old.state new.state
      → IsShared G start workers total new × HasRoom new.state used capacity × IsBoarded workers board given lacks new.state
  stays_shared {capacity = capacity} has alive f on keeps = (
    keeps_shared has.0 (on start) keeps,
    record {
      unused = has.1.unused;
      room = subst (λ journal. length journal ≤ capacity) (sym keeps.journal) has.1.room;
    },
    stays-boarded has.2 (grows-on has.0.goes_on alive f on),
  )

  -- a call that was answered
  pub counts_one : (entry : JournalEntry) → IsShared G start workers total old → (GoesOn G start old → GoesOn G start new)
      → ((w : ℕ) → (row_of w new.state).live ≡ (row_of w old.state).live) → new.state.journal ≡ old.state.journal ++ entry ∷ []
      → IsShared G start workers (total + 1) new
  counts_one entry has goes live is = record {
    goes_on = goes has.goes_on;
    live = λ w lt. live w ∙ has.live w lt;
    counted = ap length is ∙ (length-append old.state.journal (entry ∷ []) ∙ ap (λ n. n + 1) has.counted);
  }

-- one more receipt of this world
pub all_behind : (name : Book) (before kept now : List ReceiptState) (receipt : ReceiptState) → All (λ r. r.name ≡ name) before → receipt.name ≡ name
    → kept ≡ before → now ≡ kept ++ receipt ∷ [] → All (λ r. r.name ≡ name) now
all_behind name before kept now receipt all is same behind =
    subst (All (λ r. r.name ≡ name)) (sym (behind ∙ ap (λ rs. rs ++ receipt ∷ []) same))
    (All-push (λ (r : ReceiptState). r.name ≡ name) before receipt all is)
