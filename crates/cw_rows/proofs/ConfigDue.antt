-- What the row of an event is that writes records to the config log, and the halves of such an event.
use Rattle.std.proofs.Common.{◌≡◌, ◌≢◌, ℕ, ◌==◌, ◌<◌, ◌≤◌, ◌&&◌, Bool, true, false, List, [], ◌∷◌, ◌++◌, map, length, take, slice_index_or, bytes_eq, Option, Some, None, Ok, Err, unwrap_or, if◌then◌else◌, refl, inl, inr, sym, ◌∙◌, ap, subst}
use Rattle.std.proofs.lemmas.Bool.{cases_eq, eqb-true, and_left}
use Rattle.std.proofs.lemmas.List.{length-set, get_or-set_other, take-append-le}
use Rattle.std.proofs.lemmas.Grind.{get_or-set_at}
use Rattle.cw_types.specs.declared.logs.LogName.TheVariants.{Config}
use Rattle.cw_bytes.specs.declared.applied.Applied.{Applied}
use Rattle.cw_bytes.specs.Spelling.{records_bytes}
use Rattle.cw_config.specs.declared.records.ConfigRecord.{ConfigRecord}
use Rattle.cw_config.specs.View.{generation_of, task_count_of}
use Rattle.cw_rest.specs.Seen.{KeyedValues}
use Rattle.cw_model.specs.declared.fault.WorldFault.{WorldFault}
use Rattle.cw_model.specs.declared.fault.WorldFault.TheVariants.{Full, Memory, StaleGeneration}
use Rattle.cw_model.specs.declared.row.Fencing.{Fencing}
use Rattle.cw_model.specs.declared.row.Row.{Row}
use Rattle.cw_model.specs.State.{Cluster, Paired}
use Rattle.cw_model.specs.Answers.{Answer, refused}
use Rattle.cw_model.specs.Bodies.{config_applied, config_body, config_length, frame_of, has_room}
use Rattle.cw_model.specs.EventsLeading.{append_config, append_fence, fence_record, fencing_of, new_fencing, going_on, without_fencing}
use Rattle.cw_model.specs.Lookups.{no_row, row_of, seen}
use Rattle.cw_model.specs.Refusals.{behind_refusal}
use Rattle.cw_model.specs.Reopening.{stored_of}
use Rattle.cw_model.specs.Updates.{stamped, next_config, with_configs, fits_configs, appends_configs, changes_row}
use Rattle.cw_topics.specs.Configs.{have_offsets}
use Rattle.cw_rows.specs.Configs.{IsUnplaced, newest_test, same_test}
use Rattle.cw_rows.specs.Crew.{CrewState, with_row}
use Rattle.cw_topics.specs.Topics.{TopicsState}
use Rattle.cw_rows.specs.Kept.{Kept, IsCluster}
use Rattle.cw_rows.specs.Tests.{leader_test}
use Rattle.cw_rows.specs.Writes.{IsDue, Readies, Refuses, Puts}
use Rattle.cw_topics.proofs.ConfigFrames.{config-bytes}
use Rattle.cw_rows.proofs.Due.{by_test, passes, refuses, open-alive, by-leader, refuses-same, refuses-behind}
use Rattle.cw_rows.proofs.Lists.{if-true}

if-false : {A : Type 0} (b : Bool) (x y : A) → b ≡ false → (if b then x else y) ≡ y
if-false true x y is = absurd (cc)
if-false false x y is = refl

first-holds : (a b : Bool) → a ≡ true → (a && b) ≡ b
first-holds true b is = refl
first-holds false b is = absurd (cc)

bodies-push : (frames : List (List Applied)) (frame : List Applied) →
    map records_bytes (frames ++ frame ∷ []) ≡ map records_bytes frames ++ records_bytes frame ∷ []
bodies-push [] frame = refl
bodies-push (f ∷ frames) frame = ap (λ (l : List (List ℕ)). records_bytes f ∷ l) (bodies-push frames frame)

-- ---- what writes records

module _ {A : Type 0} (event : Cluster → Answer A) (frame : List ConfigRecord) (change : Cluster → Cluster) (answer : A) (s : Cluster)
    (row : event s ≡ appends_configs frame change answer s) where
  -- where a record gets no offset, the log is full
  pub configs-unplaced : have_offsets frame ≡ false → event s ≡ refused (Full Config (config_length s) (frame_of (config_body frame))) s
  configs-unplaced none = row ∙ if-false (fits_configs frame s) _ _ (and_left (have_offsets frame) _ none)

  module _ (places : have_offsets frame ≡ true) where
    -- where there is room, it is done
    pub configs-put : has_room (config_length s) (frame_of (config_body frame)) ≡ true → event s ≡ (Ok answer, change (with_configs frame s))
    configs-put room = row ∙ if-true (fits_configs frame s) _ _ (first-holds (have_offsets frame) _ places ∙ room)

    -- it is to write the frame, where the change touches no log
    pub configs-due : s.closed ≡ None → stored_of (change (with_configs frame s)) ≡ stored_of (with_configs frame s) →
        IsDue Config event (config_body frame) s
    configs-due alive logs = record {
      some = config-bytes frame;
      alive = alive;
      full = λ none. row ∙ if-false (fits_configs frame s) _ _ (first-holds (have_offsets frame) _ places ∙ none);
      room = λ room. record {
        answer = answer;
        done = ap (λ (a : Answer A). a.0) (configs-put room);
        stored = ap (λ (a : Answer A). stored_of a.1) (configs-put room) ∙ logs ∙
            ap (λ (l : List (List ℕ)). record (stored_of s) { config = record { frames = l; side = s.config.side } })
            (bodies-push s.config.frames (map config_applied frame));
      };
    }

-- ---- the halves of an event that writes records

module _ {A : Type 0} (event : Cluster → Answer A) (own : List ConfigRecord) (change : Cluster → Cluster) (answer : A) (old new : Kept)
    (row : event old.state ≡ appends_configs own change answer old.state) (setting : new.setting ≡ old.setting) where
  unplaced : (size : ℕ) (fault : WorldFault) → size ≡ config_length old.state → (fault ≢ Memory → IsUnplaced size own fault) → new.state ≡ old.state →
      Refuses event fault old new
  unplaced size fault is none state = refuses-same event fault old new
      (λ other. configs-unplaced event own change answer old.state row (none other).none ∙
      ap (λ (n : ℕ). refused (Full Config n (frame_of (config_body own))) old.state) (sym is) ∙
      ap (λ (f : WorldFault). refused f old.state) (sym (none other).is)) state setting

  module _ (frame : List ConfigRecord) (same : frame ≡ own) (places : have_offsets frame ≡ true) where
    due-row : event old.state ≡ appends_configs frame change answer old.state
    due-row = subst (λ (f : List ConfigRecord). event old.state ≡ appends_configs f change answer old.state) (sym same) row

    readies : old.state.closed ≡ None → stored_of (change (with_configs frame old.state)) ≡ stored_of (with_configs frame old.state) →
        new.state ≡ old.state → Readies Config event (config_body frame) old new
    readies alive logs state = record {
      due = configs-due event frame change answer old.state due-row places alive logs;
      state = state;
      setting = setting;
    }

    puts : (result : A) → result ≡ answer → has_room (config_length old.state) (frame_of (config_body frame)) ≡ true →
        new.state ≡ change (with_configs frame old.state) → (change (with_configs frame old.state)).closed ≡ old.state.closed →
        Puts event result old new
    puts result told room state closed = record {
      row = configs-put event frame change answer old.state due-row places room ∙
          ap (λ (t : Cluster). (Ok answer, t)) (sym state) ∙ ap (λ (a : A). (Ok a, new.state)) (sym told);
      setting = setting;
      closed = ap (λ (t : Cluster). t.closed) state ∙ closed;
    }

-- the leader writes configs
module _ (w : ℕ) (values : KeyedValues) (old new : Kept) (setting : new.setting ≡ old.setting) where
  abbrev pub config_done : Cluster → Answer ℕ
  config_done s = appends_configs (stamped values s) (λ t. t) (next_config s) s

  pub append_config-row : leader_test w old.state ≡ Ok tt → append_config w values old.state ≡ config_done old.state
  append_config-row passed = passes (leader_test w old.state) (λ fault. refused fault (behind_refusal w fault old.state)) (append_config w values old.state)
      (config_done old.state) (by-leader config_done old.state w) passed

  pub append_config-readies : (frame : List ConfigRecord) → leader_test w old.state ≡ Ok tt → frame ≡ stamped values old.state →
      have_offsets frame ≡ true → new.state ≡ old.state → Readies Config (append_config w values) (config_body frame) old new
  append_config-readies frame passed same places state =
      readies (append_config w values) (stamped values old.state) (λ t. t) (next_config old.state) old new (append_config-row passed) setting
      frame same places (open-alive old.state.closed _ passed) refl state

  pub append_config-refuses : (fault : WorldFault) → leader_test w old.state ≡ Err fault → new.state ≡ behind_refusal w fault old.state →
      Refuses (append_config w values) fault old new
  append_config-refuses fault failed state = refuses-behind (append_config w values) w fault old new
      (refuses (leader_test w old.state) (λ fault. refused fault (behind_refusal w fault old.state)) (append_config w values old.state)
      (config_done old.state) fault (by-leader config_done old.state w) failed) state setting

  pub append_config-unplaced : (size : ℕ) (fault : WorldFault) → leader_test w old.state ≡ Ok tt →
      (old.state.closed ≡ None → size ≡ config_length old.state) →
      (fault ≢ Memory → IsUnplaced size (stamped values old.state) fault) → new.state ≡ old.state → Refuses (append_config w values) fault old new
  append_config-unplaced size fault passed is none state =
      unplaced (append_config w values) (stamped values old.state) (λ t. t) (next_config old.state) old new (append_config-row passed) setting
      size fault (is (open-alive old.state.closed _ passed)) none state

  pub append_config-puts : (frame : List ConfigRecord) (result : ℕ) → leader_test w old.state ≡ Ok tt → frame ≡ stamped values old.state →
      have_offsets frame ≡ true → result ≡ next_config old.state → has_room (config_length old.state) (frame_of (config_body frame)) ≡ true →
      new.state ≡ with_configs frame old.state → Puts (append_config w values) result old new
  append_config-puts frame result passed same places told room state =
      puts (append_config w values) (stamped values old.state) (λ t. t) (next_config old.state) old new (append_config-row passed) setting
      frame same places result told room state refl

-- the leader writes that older tasks are fenced
module _ (w : ℕ) (name : List ℕ) (old new : Kept) (setting : new.setting ≡ old.setting) where
  abbrev pub fence_of : Cluster → List ConfigRecord
  fence_of s = stamped (fence_record name (task_count_of name (seen w s))) s

  abbrev pub fence_put : Cluster → Answer ℕ
  fence_put s = appends_configs (fence_of s) (changes_row w without_fencing) (next_config s) s

  abbrev fence_fault : Cluster → WorldFault
  fence_fault s = StaleGeneration (fencing_of w name s).generation (unwrap_or (generation_of name s.configs) 0)

  abbrev is_newest : Cluster → Bool
  is_newest s = (fencing_of w name s).generation == unwrap_or (generation_of name s.configs) 0

  abbrev fence_whole : Cluster → Answer ℕ
  fence_whole s = if is_newest s then fence_put s else refused (fence_fault s) s

  abbrev fence_done : Cluster → Answer ℕ
  fence_done s = by_test (newest_test w name s) (λ fault. refused fault s) (fence_put s)

  by-choice : (b : Bool) (fault : WorldFault) (done : Answer ℕ) (s : Cluster) →
      (if b then done else refused fault s) ≡ by_test (if b then Ok tt else Err fault) (λ fault. refused fault s) done
  by-choice true fault done s = refl
  by-choice false fault done s = refl

  fence-passed : leader_test w old.state ≡ Ok tt → append_fence w name old.state ≡ fence_done old.state
  fence-passed passed = passes (leader_test w old.state) (λ fault. refused fault (behind_refusal w fault old.state)) (append_fence w name old.state)
      (fence_whole old.state) (by-leader fence_whole old.state w) passed ∙
      by-choice (is_newest old.state) (fence_fault old.state) (fence_put old.state) old.state

  pub append_fence-row : leader_test w old.state ≡ Ok tt → newest_test w name old.state ≡ Ok tt → append_fence w name old.state ≡ fence_put old.state
  append_fence-row passed newest = passes (newest_test w name old.state) (λ fault. refused fault old.state) (append_fence w name old.state)
      (fence_put old.state) (fence-passed passed) newest

  pub append_fence-readies : (frame : List ConfigRecord) → leader_test w old.state ≡ Ok tt → newest_test w name old.state ≡ Ok tt →
      frame ≡ fence_of old.state → have_offsets frame ≡ true → new.state ≡ old.state → Readies Config (append_fence w name) (config_body frame) old new
  append_fence-readies frame passed newest same places state =
      readies (append_fence w name) (fence_of old.state) (changes_row w without_fencing) (next_config old.state) old new
      (append_fence-row passed newest) setting frame same places (open-alive old.state.closed _ passed) refl state

  pub append_fence-refuses : (fault : WorldFault) → leader_test w old.state ≡ Err fault → new.state ≡ behind_refusal w fault old.state →
      Refuses (append_fence w name) fault old new
  append_fence-refuses fault failed state = refuses-behind (append_fence w name) w fault old new
      (refuses (leader_test w old.state) (λ fault. refused fault (behind_refusal w fault old.state)) (append_fence w name old.state)
      (fence_whole old.state) fault (by-leader fence_whole old.state w) failed) state setting

  pub append_fence-stale : (fault : WorldFault) → leader_test w old.state ≡ Ok tt → newest_test w name old.state ≡ Err fault →
      new.state ≡ old.state → Refuses (append_fence w name) fault old new
  append_fence-stale fault passed failed state = refuses-same (append_fence w name) fault old new
      (λ other. refuses (newest_test w name old.state) (λ fault. refused fault old.state) (append_fence w name old.state)
      (fence_put old.state) fault (fence-passed passed) failed) state setting

  pub append_fence-unplaced : (size : ℕ) (fault : WorldFault) → leader_test w old.state ≡ Ok tt → newest_test w name old.state ≡ Ok tt →
      (old.state.closed ≡ None → size ≡ config_length old.state) →
      (fault ≢ Memory → IsUnplaced size (fence_of old.state) fault) → new.state ≡ old.state → Refuses (append_fence w name) fault old new
  append_fence-unplaced size fault passed newest is none state =
      unplaced (append_fence w name) (fence_of old.state) (changes_row w without_fencing) (next_config old.state) old new
      (append_fence-row passed newest) setting size fault (is (open-alive old.state.closed _ passed)) none state

  pub append_fence-puts : (frame : List ConfigRecord) (result : ℕ) → leader_test w old.state ≡ Ok tt → newest_test w name old.state ≡ Ok tt →
      frame ≡ fence_of old.state → have_offsets frame ≡ true → result ≡ next_config old.state →
      has_room (config_length old.state) (frame_of (config_body frame)) ≡ true →
      new.state ≡ changes_row w without_fencing (with_configs frame old.state) → Puts (append_fence w name) result old new
  append_fence-puts frame result passed newest same places told room state =
      puts (append_fence w name) (fence_of old.state) (changes_row w without_fencing) (next_config old.state) old new
      (append_fence-row passed newest) setting frame same places result told room state refl

-- ---- what each worker has read

-- it stays what it has read, with more records behind
pub still-read : (topics : TopicsState) (crew : CrewState) (frame : List ConfigRecord) (config : Paired (List Applied)) → IsCluster topics crew →
    ((w : ℕ) → (slice_index_or crew.rows w no_row).prefix ≤ length topics.configs) →
    IsCluster (record topics { config = config; configs = topics.configs ++ frame; ready_configs = [] }) crew
still-read topics crew frame config known read = record {
  each = known.each;
  reads = λ w there. known.reads w there ∙ sym (take-append-le (slice_index_or crew.rows w no_row).prefix topics.configs frame (read w));
}

-- so does a worker's row that changes otherwise
pub row-changed : (topics : TopicsState) (crew : CrewState) (w : ℕ) (change : Row → Row) → w < length crew.rows →
    ((row : Row) → (change row).prefix ≡ row.prefix) → IsCluster topics crew → IsCluster topics (with_row w change crew)
row-changed topics crew w change there keeps known =
    let row : Row = change (slice_index_or crew.rows w no_row) in
    record {
      each = known.each ∙ sym (length-set crew.rows w row);
      reads = λ v within. known.reads v (subst (λ (n : ℕ). v < n) (length-set crew.rows w row) within) ∙
          ap (λ (n : ℕ). take n topics.configs) (sym (elim (cases_eq v w) [
            | inl same ↦ ap (λ (r : Row). r.prefix) (get_or-set_at crew.rows w v row no_row same there) ∙ keeps (slice_index_or crew.rows w no_row) ∙
                ap (λ (n : ℕ). (slice_index_or crew.rows n no_row).prefix) (sym same)
            | inr other ↦ ap (λ (r : Row). r.prefix) (get_or-set_other crew.rows w v row no_row other)
          ]));
    }

-- ---- whether a fence is of the newest generation

going : (begun : Fencing) (own : Option Fencing) → (going_on begun own).generation ≡ begun.generation
going begun None = refl
going begun (Some own) = pick (bytes_eq own.connector begun.connector) (own.generation == begun.generation) refl where
  pick : (a b : Bool) → (own.generation == begun.generation) ≡ b → (if a && b then own else begun).generation ≡ begun.generation
  pick true true is = eqb-true own.generation begun.generation is
  pick true false is = refl
  pick false b is = refl

pub newest-is : (w : ℕ) (name : List ℕ) (s : Cluster) (own newest : ℕ) → own ≡ unwrap_or (generation_of name (seen w s)) 0 →
    newest ≡ unwrap_or (generation_of name s.configs) 0 → same_test own newest ≡ newest_test w name s
newest-is w name s own newest is now =
    ap (λ (n : ℕ). same_test n newest) (is ∙ sym (going (new_fencing w name s) (row_of w s).fencing)) ∙
    ap (λ (n : ℕ). same_test (fencing_of w name s).generation n) now
