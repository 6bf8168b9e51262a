-- An event that writes to a log does what its row says, and leaves a world with all facts, by its law.
use Rattle.std.proofs.Common.{◌≡◌, ◌≢◌, ◌⊎◌, ◌++◌, ◌∷◌, [], inl, inr, ⊎_elim, ℕ, Bool, true, false, List, Some, Result, Ok, Err, refl, sym, ◌∙◌, ap, subst}
use Rattle.logbook.specs.Pages.{Book}
use Rattle.cw_types.specs.declared.logs.LogName.{LogName}
use Rattle.cw_disk.specs.declared.device.Disk.{Ghosts}
use Rattle.cw_model.specs.declared.fault.WorldFault.{WorldFault}
use Rattle.cw_model.specs.declared.fault.WorldFault.TheVariants.{Fenced, StaleGeneration, PendingFence, BadCut, Gone, Full, StoreFault, Closed, Dead, Group, TooMany, Memory}
use Rattle.cw_model.specs.State.{Setting, Cluster}
use Rattle.cw_model.specs.Answers.{Answer}
use Rattle.cw_model.specs.Bodies.{frame_of, has_room}
use Rattle.cw_model.specs.Facts.{AreFacts}
use Rattle.cw_model.specs.Reopening.{stored_of, closed_by}
use Rattle.cw_model.specs.StandsFor.{Stored}
use Rattle.cw_laws.specs.Laws.{Keeps}
use Rattle.cw_laws.proofs.Clock.{closes-keeps}
use Rattle.cw_rows.specs.Kept.{Kept}
use Rattle.cw_rows.specs.Writes.{Readies, Refuses, Puts, bytes_in, with_body}
use Rattle.cw_world.specs.Logs.{LogsState, LogView, IsOpenLog, HoldAll, AreSides, HaveSameOthers, HasSameBodies, AddsTo, LeavesNow, IsApart, view_in, list_in, faults_in}
use Rattle.cw_world.specs.Write.{IsWrite, IsFull}
use Rattle.cw_world.specs.World.{WorldState, IsWorld, Writes}
use Rattle.cw_world.proofs.Sides.{keep-sides, sides-with}
use Rattle.cw_world.proofs.Keeping.{keeps-same}
use Rattle.cw_world.proofs.Holding.{same-others, lists-apart, body-others, hold-behind, holds-same, holds-more, list-with, bytes-are, stored-same, nothing-added, less-added, less-left}

-- the world of a cluster and its logs
abbrev pub world : {D : Type 0} → Book → Kept → LogsState D → WorldState D
world name kept logs = record { setting = kept.setting; state = kept.state; logs = logs; name = name }

-- what an event and its world come to, whichever world it is
abbrev pub Comes : {D A : Type 0} → Ghosts D → LogName → (Cluster → Answer A) → Kept → LogsState D → Kept → LogsState D → Result A WorldFault → Type 0
Comes G name event old old_logs new new_logs result =
    ((called : Book) → Writes G name event (world called old old_logs) (world called new new_logs) result) × IsWorld G new.setting new.state new_logs

pub same-view : (view : LogView) → HasSameBodies view view
same-view view = record { number = refl; bodies = refl; size = refl; bytes = refl; limit = refl }

pub is-memory : (fault : WorldFault) → (fault ≡ Memory) ⊎ (fault ≢ Memory)
is-memory (Fenced own current) = inr (λ e. cc)
is-memory (StaleGeneration own current) = inr (λ e. cc)
is-memory PendingFence = inr (λ e. cc)
is-memory (BadCut from to) = inr (λ e. cc)
is-memory (Gone i) = inr (λ e. cc)
is-memory (Full log size frame) = inr (λ e. cc)
is-memory (StoreFault disk count) = inr (λ e. cc)
is-memory (Closed disk count) = inr (λ e. cc)
is-memory (Dead w) = inr (λ e. cc)
is-memory (Group fault) = inr (λ e. cc)
is-memory TooMany = inr (λ e. cc)
is-memory Memory = inl refl

-- the frame's bytes, as they are written
pub by-bytes : {A : Type 0} (name : LogName) (event : Cluster → Answer A) (body bytes : List ℕ) (old mid : Kept) → body ≡ bytes → Readies name event bytes old mid →
    Readies name event body old mid
by-bytes name event body bytes old mid is ready = subst (λ (b : List ℕ). Readies name event b old mid) (sym is) ready

module _ {D : Type 0} (G : Ghosts D) {A : Type 0} (event : Cluster → Answer A) (name : LogName) where
  unmoved : (logs : LogsState D) → HaveSameOthers name logs logs
  unmoved logs = record { config = λ n. refl; offsets = λ n. refl; status = λ n. refl; txn = λ n. refl; batches = λ n. refl }

  -- the log of an event that is due can be written to
  pub open-log : (old mid : Kept) (logs : LogsState D) (body : List ℕ) → IsWorld G old.setting old.state logs → Readies name event body old mid →
      IsOpenLog (bytes_in name mid.state) (view_in G name logs)
  open-log old mid logs body known ready =
      let open_at : IsOpenLog (bytes_in name old.state) (view_in G name logs) =
      let here = ((known.holds ready.due.alive) name).ready in
      record { bytes_are = here.bytes_are ∙ sym (bytes-are name old.state); limit = here.limit; alive = here.alive } in
      subst (λ (s : Cluster). IsOpenLog (bytes_in name s) (view_in G name logs)) (sym ready.state) open_at

  -- a refusal
  pub refuses : (old new : Kept) (logs : LogsState D) (fault : WorldFault) → Keeps old.setting old.state (event old.state) →
      IsWorld G old.setting old.state logs → Refuses event fault old new → Comes G name event old logs new logs (Err fault)
  refuses old new logs fault law known r =
      let facts : AreFacts old.setting new.state = ⊎_elim
      (λ (e : fault ≡ Memory). subst (λ (s : Cluster). AreFacts old.setting s) (sym (r.wants e)) known.facts)
      (λ (e : fault ≢ Memory). subst (λ (a : Answer A). AreFacts old.setting a.1) (r.row e) (law known.facts))
      (is-memory fault) in (
        λ called. record {
          name = refl;
          answers = ⊎_elim
              (λ (e : fault ≡ Memory). inr (inl (record { answer = ap (λ (f : WorldFault). Err f) e; state = r.wants e; same = same-view (view_in G name logs) })))
              (λ (e : fault ≢ Memory). inl (r.row e))
              (is-memory fault);
          setting = r.setting;
          others = unmoved logs;
          leaves = λ told is. nothing-added G name logs _;
          keeps = keeps-same (view_in G name logs) (faults_in G name logs);
        },
        record {
          facts = subst (λ (setting : Setting). AreFacts setting new.state) (sym r.setting) facts;
          holds = λ alive. subst (λ (stored : Stored). HoldAll G stored logs) (sym (stored-same old.state new.state r.logs)) (known.holds (sym r.logs.closed ∙ alive));
          sides = λ alive. subst (λ (stored : Stored). AreSides stored logs) (sym (stored-same old.state new.state r.logs)) (known.sides (sym r.logs.closed ∙ alive));
        },
      )

  -- a body that isn't written, and one that is
  module _ (old mid after : Kept) (old_logs new_logs : LogsState D) (body : List ℕ) (others : HaveSameOthers name old_logs new_logs)
      (known : IsWorld G old.setting old.state old_logs) (ready : Readies name event body old mid) where
    moved-room : (b : Bool) → has_room (bytes_in name mid.state) (frame_of body) ≡ b → has_room (bytes_in name old.state) (frame_of body) ≡ b
    moved-room b room = ap (λ (s : Cluster). has_room (bytes_in name s) (frame_of body)) (sym ready.state) ∙ room

    holds-old : HoldAll G (stored_of old.state) old_logs
    holds-old = known.holds ready.due.alive

    list-behind : has_room (bytes_in name old.state) (frame_of body) ≡ true → list_in name (stored_of old.state) ++ body ∷ [] ≡ list_in name (stored_of (event old.state).1)
    list-behind room = sym (list-with name body (stored_of old.state)) ∙ ap (λ (stored : Stored). list_in name stored) (sym (ready.due.room room).stored)

    -- what a stop leaves of the log
    leaves-of : (told : List (List ℕ)) → (view_in G name old_logs).bodies ≡ Some told →
        AddsTo G name old_logs new_logs (λ left. (left ≡ told) ⊎ ((has_room (bytes_in name mid.state) (frame_of body) ≡ true) × (left ≡ told ++ body ∷ []))) →
        AddsTo G name old_logs new_logs (λ list. (list ≡ list_in name (stored_of old.state)) ⊎ (list ≡ list_in name (stored_of (event old.state).1)))
    leaves-of told is adds =
        let list = list_in name (stored_of old.state) in
        let told-is : told ≡ list = (holds-old name).told told is in
        less-added G name old_logs new_logs
        (λ left. (left ≡ told) ⊎ ((has_room (bytes_in name mid.state) (frame_of body) ≡ true) × (left ≡ told ++ body ∷ [])))
        (λ left. (left ≡ list) ⊎ (left ≡ list_in name (stored_of (event old.state).1))) adds
        (λ left p. ⊎_elim (λ (e : left ≡ told). inl (e ∙ told-is))
        (λ (q : (has_room (bytes_in name mid.state) (frame_of body) ≡ true) × (left ≡ told ++ body ∷ [])).
        inr (q.1 ∙ ap (λ (l : List (List ℕ)). l ++ body ∷ []) told-is ∙ list-behind (moved-room true q.0))) p)

    -- what it leaves now
    left-of : (told : List (List ℕ)) → (view_in G name old_logs).bodies ≡ Some told → has_room (bytes_in name old.state) (frame_of body) ≡ true →
        LeavesNow G name new_logs (λ left. (left ≡ told) ⊎ (left ≡ told ++ body ∷ [])) →
        LeavesNow G name new_logs (λ list. (list ≡ list_in name (stored_of old.state)) ⊎ (list ≡ list_in name (stored_of (event old.state).1)))
    left-of told is room leaves =
        let list = list_in name (stored_of old.state) in
        let told-is : told ≡ list = (holds-old name).told told is in
        less-left G name new_logs (λ left. (left ≡ told) ⊎ (left ≡ told ++ body ∷ []))
        (λ left. (left ≡ list) ⊎ (left ≡ list_in name (stored_of (event old.state).1))) leaves
        (λ left p. ⊎_elim (λ (e : left ≡ told). inl (e ∙ told-is))
        (λ (e : left ≡ told ++ body ∷ []). inr (e ∙ ap (λ (l : List (List ℕ)). l ++ body ∷ []) told-is ∙ list-behind room)) p)

    -- nothing has changed but how far the log is read, or its room
    stays : after ≡ mid → HasSameBodies (view_in G name old_logs) (view_in G name new_logs) → (view_in G name new_logs).shut ≡ (view_in G name old_logs).shut →
        IsWorld G after.setting after.state new_logs
    stays kept same shut =
        let stored = stored_of old.state in
        let all : HoldAll G stored new_logs = hold-behind G stored stored old_logs new_logs name (same-others name stored) others holds-old
        (holds-same name stored (view_in G name old_logs) (view_in G name new_logs) (holds-old name) same shut) in
        let sides : AreSides stored new_logs = keep-sides G stored name old_logs new_logs others same.number (known.sides ready.due.alive) in
        let there : IsWorld G old.setting old.state new_logs = record { facts = known.facts; holds = λ alive. all; sides = λ alive. sides } in
        rw (kept, ready.setting, ready.state) there

    state-is : after ≡ mid → after.state ≡ old.state
    state-is kept = ap (λ (k : Kept). k.state) kept ∙ ready.state

    setting-is : after ≡ mid → after.setting ≡ old.setting
    setting-is kept = ap (λ (k : Kept). k.setting) kept ∙ ready.setting

    is-full : (log : LogName) (size frame : ℕ) → IsFull name body (view_in G name old_logs) (view_in G name new_logs) mid after log size frame →
        event old.state ≡ (Err (Full log size frame), after.state)
    is-full log size frame full =
        let size-is : size ≡ bytes_in name old.state = full.size_is ∙ ap (λ (s : Cluster). bytes_in name s) ready.state in
        rw (full.log_is, size-is, full.frame_is, state-is full.kept) (ready.due.full (moved-room false full.none))

    pub not-written : (fault : WorldFault) → IsWrite name body (view_in G name old_logs) (view_in G name new_logs) (faults_in G name old_logs) (faults_in G name new_logs)
        (AddsTo G name old_logs new_logs) (LeavesNow G name new_logs) mid after (Err fault) → Comes G name event old old_logs after new_logs (Err fault)
    not-written (Full log size frame) w = (
      λ called. record {
        name = refl;
        answers = inl (is-full log size frame w.answer);
        setting = setting-is w.answer.kept;
        others = others;
        leaves = λ told is. leaves-of told is (w.leaves told is);
        keeps = w.keeps;
      },
      stays w.answer.kept w.answer.same w.answer.shut,
    )
    not-written Memory w = (
      λ called. record {
        name = refl;
        answers = inr (inl (record { answer = refl; state = state-is w.answer.kept; same = w.answer.same }));
        setting = setting-is w.answer.kept;
        others = others;
        leaves = λ told is. leaves-of told is (w.leaves told is);
        keeps = w.keeps;
      },
      stays w.answer.kept w.answer.same w.answer.shut,
    )
    not-written (StoreFault disk count) w =
        let here = ready.due.room (moved-room true w.answer.room) in
        let state : after.state ≡ closed_by disk count old.state = w.answer.state ∙ ap (λ (s : Cluster). closed_by disk count s) ready.state in
        let setting : after.setting ≡ old.setting = w.answer.setting ∙ ready.setting in (
          λ called. record {
            name = refl;
            answers = inr (inr (record {
              disk = disk;
              count = count;
              answer = refl;
              meant = here.answer;
              due = here.done;
              state = state;
              fails = w.answer.fails;
              same = w.answer.same;
              left = λ told is. left-of told is (moved-room true w.answer.room) (w.answer.left told is);
              apart = subst (λ (those : Stored). IsApart name (stored_of old.state) those) (sym here.stored)
                  (lists-apart name (stored_of old.state) (with_body name body (stored_of old.state)) (body-others name body (stored_of old.state)));
            }));
            setting = setting;
            others = others;
            leaves = λ told is. leaves-of told is (w.leaves told is);
            keeps = w.keeps;
          },
          rw (setting, state) (record { facts = closes-keeps old.setting disk count old.state known.facts; holds = λ alive. absurd (cc); sides = λ alive. absurd (cc) }),
        )
    not-written (Fenced own current) w = absurd w.answer
    not-written (StaleGeneration own current) w = absurd w.answer
    not-written PendingFence w = absurd w.answer
    not-written (BadCut from to) w = absurd w.answer
    not-written (Gone i) w = absurd w.answer
    not-written (Closed disk count) w = absurd w.answer
    not-written (Dead n) w = absurd w.answer
    not-written (Group fault) w = absurd w.answer
    not-written TooMany w = absurd w.answer

    pub written : (new : Kept) (answer : A) → Keeps old.setting old.state (event old.state) →
        IsWrite name body (view_in G name old_logs) (view_in G name new_logs) (faults_in G name old_logs) (faults_in G name new_logs)
        (AddsTo G name old_logs new_logs) (LeavesNow G name new_logs) mid after (Ok tt) → Puts event answer after new → Comes G name event old old_logs new new_logs (Ok answer)
    written new answer law w put =
        let row : event old.state ≡ (Ok answer, new.state) = ap event (sym (state-is w.answer.kept)) ∙ put.row in
        let setting : new.setting ≡ old.setting = put.setting ∙ setting-is w.answer.kept in
        let stored : stored_of new.state ≡ with_body name body (stored_of old.state) =
        ap (λ (a : Answer A). stored_of a.1) (sym row) ∙ (ready.due.room (moved-room true w.answer.room)).stored in
        let all : HoldAll G (with_body name body (stored_of old.state)) new_logs =
        hold-behind G (stored_of old.state) (with_body name body (stored_of old.state)) old_logs new_logs name (body-others name body (stored_of old.state)) others holds-old
        (holds-more name (stored_of old.state) body (view_in G name old_logs) (view_in G name new_logs) (holds-old name) w.answer.has) in
        let facts : AreFacts old.setting new.state = subst (λ (a : Answer A). AreFacts old.setting a.1) row (law known.facts) in (
          λ called. record {
            name = refl;
            answers = inl row;
            setting = setting;
            others = others;
            leaves = λ told is. leaves-of told is (w.leaves told is);
            keeps = w.keeps;
          },
          record {
            facts = subst (λ (setting : Setting). AreFacts setting new.state) (sym setting) facts;
            holds = λ alive. subst (λ (s : Stored). HoldAll G s new_logs) (sym stored) all;
            sides = λ alive. subst (λ (s : Stored). AreSides s new_logs) (sym stored) (sides-with name body (stored_of old.state) new_logs
                (keep-sides G (stored_of old.state) name old_logs new_logs others w.answer.has.number (known.sides ready.due.alive)));
          },
        )
