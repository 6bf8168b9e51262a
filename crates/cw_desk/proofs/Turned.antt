-- A call that was answered may be kept in the journal, whatever it was answered.
use Rattle.std.proofs.Common.{◌≡◌, ◌⊎◌, inl, inr, ℕ, ◌==◌, ◌<◌, ◌≤◌, ◌++◌, Bool, true, false, List, length, Option, Some, None, IsSome, unwrap_or, if◌then◌else◌, refl, sym, ◌∙◌, ap, subst, arith, length-append}
use Rattle.std.proofs.Math.Seq.{take-length}
use Rattle.std.proofs.lemmas.Bool.{eqb-true}
use Rattle.std.proofs.lemmas.List.{get_or-set_same}
use Rattle.cw_types.specs.declared.ids.Epoch.{Epoch}
use Rattle.cw_types.specs.declared.ids.Item.{Item}
use Rattle.cw_types.specs.declared.ids.Tid.TheVariants.{Lead}
use Rattle.cw_types.specs.declared.logs.DiskName.{DiskName}
use Rattle.cw_types.specs.declared.logs.LogName.TheVariants.{Config, Txn}
use Rattle.cw_config.specs.View.{fenced_count_of}
use Rattle.cw_config.specs.declared.records.ConfigRecord.{ConfigRecord}
use Rattle.cw_txn.specs.declared.entry.Entry.{Entry}
use Rattle.cw_txn.specs.Body.{entries_bytes}
use Rattle.cw_route.specs.declared.call.Call.{Call}
use Rattle.cw_route.specs.declared.reply.Reply.{Reply}
use Rattle.cw_rest.specs.Calls.{Deed, reads, reads_configs, writes_configs, writes_offsets, restarts, deed_of, is_reading}
use Rattle.cw_rest.specs.Messages.{memory_reply, full_reply, failed_reply, rebalancing}
use Rattle.cw_rest.specs.Operations.{offset_entries}
use Rattle.cw_rest.specs.Replies.{reply_to, values_of, offsets_of, entries_of, connector_set}
use Rattle.cw_rest.specs.Seen.{Seen}
use Rattle.cw_model.specs.declared.fault.WorldFault.TheVariants.{Fenced, Full, StoreFault, Closed, Memory}
use Rattle.cw_model.specs.declared.instance.Instance.{Instance}
use Rattle.cw_model.specs.declared.journal.JournalEntry.{JournalEntry}
use Rattle.cw_model.specs.declared.row.Row.{Row}
use Rattle.cw_model.specs.State.{Setting, Cluster}
use Rattle.cw_model.specs.Answers.{Answer, answered, refused}
use Rattle.cw_model.specs.Bodies.{config_body, config_length, txn_length, frame_of}
use Rattle.cw_model.specs.EventsItems.{read_config}
use Rattle.cw_model.specs.EventsLeading.{append_config, set_offsets}
use Rattle.cw_model.specs.Facts.{AreFacts}
use Rattle.cw_model.specs.FactsRows.{IsSoundRow}
use Rattle.cw_model.specs.Grows.{Grows}
use Rattle.cw_model.specs.Journal.{seen_by, is_success, is_ready, WroteConfigs, WroteOffsets, SeesAsOfNow, IsReplyOfNow, FindsConfigsFull, FindsOffsetsFull, MayJournal}
use Rattle.cw_model.specs.Lookups.{row_of, no_row, last_epoch}
use Rattle.cw_model.specs.Ready.{ready}
use Rattle.cw_model.specs.Reopening.{closed_by}
use Rattle.cw_model.specs.Updates.{as_leader, epoch_in, changes_row, without_lead, with_configs, with_entries, fits_configs, fits_entries, stamped, next_config, appends_configs, appends_entries}
use Rattle.cw_laws.specs.KeptCalls.{HasWritten, HasSet}
use Rattle.cw_laws.proofs.Grows.{grows-same, grows-trans, grows-frame, grows-row, grows-configs, grows-entries}
use Rattle.cw_laws.proofs.Growth.{closes-grows}
use Rattle.cw_laws.proofs.KeptCalls.{configs-true, offsets-true}
use Rattle.cw_laws.proofs.Proposed.{ready-leads}
use Rattle.cw_laws.proofs.Sync.{live-within}
use Rattle.cw_laws.proofs.Workers.{sound_at}
use Rattle.cw_edges.specs.Requests.{seen_now, reply_now, would_succeed, behind_write, item_of, restarted, answers}
use Rattle.cw_desk.specs.Keeping.{KeepsJournal}
use Rattle.cw_desk.specs.Turns.{entry_in, entry_of}
use Rattle.cw_herder.proofs.Asking.{by-deed, closed-answers, configs-unled, configs-fail, configs-written, offsets-unled, offsets-fail, offsets-written, sees-all, at-work}
use Rattle.cw_desk.proofs.Leaders.{leader-lives, ready-by, unready-by, ready-same, unready-after}
use Rattle.cw_desk.proofs.Quiet.{keeps-same, keeps-trans, keeps-row, keeps-configs, keeps-entries, keeps-instances, closes-quiet}
use Rattle.cw_desk.proofs.Unready.{unready-fails, unready-waits, some-values}

-- what comes of a call: its entry may be kept behind it; none was kept before, and nothing was taken back
pub record IsKept (setting : Setting) (w : ℕ) (call : Call) (s : Cluster) (done : Answer Reply) : Type 0 where
  pub may : MayJournal setting (entry_of w call done.0 s done.1) done.1
  pub keeps : KeepsJournal s done.1
  pub grows : Grows s done.1

-- a reply that isn't a success, where the call writes
record IsNoWrite (call : Call) (reply : Reply) : Type 0 where
  configs : deed_of call ≡ writes_configs → is_success reply ≡ false
  offsets : deed_of call ≡ writes_offsets → is_success reply ≡ false

no-success : (call : Call) (reply : Reply) → is_success reply ≡ false → IsNoWrite call reply
no-success call reply fails = record { configs = λ _. fails; offsets = λ _. fails }

chosen : {A : Type 0} (b : Bool) (done other : A) → b ≡ true → (if b then done else other) ≡ done
chosen true done other is = refl
chosen false done other is = absurd (cc)

module _ (setting : Setting) (w : ℕ) (call : Call) where
  -- an entry sees what its call sees now
  sees : (reply : Reply) (t : Cluster) → seen_by setting t (entry_in w call reply t) ≡ seen_now setting w call t
  sees reply t = rw (take-length t.statuses, take-length t.entries)

  sees-now : (reply : Reply) (t : Cluster) → SeesAsOfNow t (entry_in w call reply t)
  sees-now reply t = record { locked = refl; prefix = refl; statuses = refl; entries = refl }

  by-now : (reply : Reply) (t : Cluster) → IsNoWrite call reply →
      IsReplyOfNow setting t (entry_in w call reply t) ⊎ (FindsConfigsFull t (entry_in w call reply t) ⊎
      (FindsOffsetsFull setting t (entry_in w call reply t) ⊎ ((reply ≡ memory_reply) ⊎ (IsSome t.closed × (reply ≡ failed_reply))))) →
      MayJournal setting (entry_in w call reply t) t
  by-now reply t none is = inl record {
    sees = sees-now reply t;
    no_configs = λ wrote. let fails = none.configs wrote.deed in let ok = wrote.success in absurd (cc);
    no_offsets = λ wrote. let fails = none.offsets wrote.deed in let ok = wrote.success in absurd (cc);
    reply = is;
  }

  -- the right reply of now
  right : (reply : Reply) (t : Cluster) → reply ≡ reply_to (is_ready w t) (seen_now setting w call t) call →
      IsReplyOfNow setting t (entry_in w call reply t)
  right reply t is = is ∙ ap (λ (seen : Seen). reply_to (is_ready w t) seen call) (sym (sees reply t))

  -- ---- faults

  -- memory ran out
  pub memory-kept : (s t : Cluster) → KeepsJournal s t → Grows s t → IsKept setting w call s (refused Memory t)
  memory-kept s t same grows = record {
    may = by-now memory_reply t (no-success call memory_reply refl) (inr (inr (inr (inl refl))));
    keeps = same;
    grows = grows;
  }

  -- a disk failed now, or before
  pub failed-kept : (s : Cluster) (disk : DiskName) (count : ℕ) → IsKept setting w call s (refused (StoreFault disk count) (closed_by disk count s))
  failed-kept s disk count = record {
    may = by-now failed_reply (closed_by disk count s) (no-success call failed_reply refl) (inr (inr (inr (inr (refl, refl)))));
    keeps = closes-quiet disk count s;
    grows = closes-grows disk count s;
  }

  closed-kept : (s : Cluster) (disk : DiskName) (count : ℕ) → IsSome s.closed → IsKept setting w call s (refused (Closed disk count) s)
  closed-kept s disk count closed = record {
    may = by-now failed_reply s (no-success call failed_reply refl) (inr (inr (inr (inr (closed, refl)))));
    keeps = keeps-same s;
    grows = grows-same s;
  }

  module _ (s : Cluster) (f : AreFacts setting s) (alive : s.closed ≡ None) (live : (row_of w s).live ≡ true) where
    abbrev now : Reply
    now = reply_now setting w call s

    -- ---- calls that change nothing that is seen

    unmoved : IsNoWrite call now → IsKept setting w call s (answered now s)
    unmoved none = record { may = by-now now s none (inl (right now s refl)); keeps = keeps-same s; grows = grows-same s }

    of-deed : (deed : Deed) → deed_of call ≡ deed → (deed ≡ writes_configs → ⊥) → (deed ≡ writes_offsets → ⊥) → (reply : Reply) → IsNoWrite call reply
    of-deed deed is configs offsets reply =
        record { configs = λ other. absurd (configs (sym is ∙ other)); offsets = λ other. absurd (offsets (sym is ∙ other)) }

    -- instances that ended
    instances-kept : (instances : List Instance) → IsNoWrite call now → IsKept setting w call s (answered now (record s { instances = instances }))
    instances-kept instances none = record {
      may = by-now now (record s { instances = instances }) none (inl (right now (record s { instances = instances })
          (ap (λ (b : Bool). reply_to b (seen_now setting w call s) call) (sym (ready-same w s instances)))));
      keeps = keeps-instances instances s;
      grows = grows-frame s (record s { instances = instances }) (λ v. omega arith);
    }

    restart-kept : deed_of call ≡ restarts → (o : Option Item) → IsKept setting w call s (answered now (restarted w o s))
    restart-kept deed None = unmoved (of-deed restarts deed (λ e. absurd (cc)) (λ e. absurd (cc)) now)
    restart-kept deed (Some item) = subst (λ (a : Answer (Unit {0})). IsKept setting w call s (answered now a.1)) (sym (at-work w s _ alive live))
        (instances-kept _ (of-deed restarts deed (λ e. absurd (cc)) (λ e. absurd (cc)) now))

    if-kept : deed_of call ≡ restarts → (b : Bool) → IsKept setting w call s (answered now (if b then restarted w (item_of call) s else s))
    if-kept deed true = restart-kept deed (item_of call)
    if-kept deed false = unmoved (of-deed restarts deed (λ e. absurd (cc)) (λ e. absurd (cc)) now)

    -- ---- calls that write

    module _ (writing : is_reading (deed_of call) ≡ false) where
      -- the worker isn't ready, or the call is refused
      unled : ready w s ≡ None → IsKept setting w call s (answered now s)
      unled none = unmoved (no-success call now (ap (λ (b : Bool). is_success (reply_to b (seen_now setting w call s) call)) (unready-by w s none) ∙
          unready-fails (seen_now setting w call s) call writing))

      refused-by : (b : Bool) → is_ready w s ≡ b → would_succeed setting w call s ≡ false → is_success now ≡ false
      refused-by true is fails = ap (λ (b : Bool). is_success (reply_to b (seen_now setting w call s) call)) is ∙ fails
      refused-by false is fails = ap (λ (b : Bool). is_success (reply_to b (seen_now setting w call s) call)) is ∙
          unready-fails (seen_now setting w call s) call writing

      fails-kept : would_succeed setting w call s ≡ false → IsKept setting w call s (answered now s)
      fails-kept fails = unmoved (no-success call now (refused-by (is_ready w s) refl fails))

      module _ (leader : ℕ) (through : ready w s ≡ Some leader) (succeeds : would_succeed setting w call s ≡ true) where
        abbrev own : Bool
        own = epoch_in (row_of leader s).lead == last_epoch Lead s

        -- a later leader was found: this one gives its lead up
        abbrev outrun : Cluster
        outrun = changes_row leader without_lead s

        outrun-entry : entry_in w call rebalancing s ≡ entry_in w call rebalancing outrun
        outrun-entry = rw writing refl

        outrun-seen : seen_now setting w call outrun ≡ seen_now setting w call s
        outrun-seen = rw writing refl

        outrun-kept : IsKept setting w call s (answered rebalancing outrun)
        outrun-kept = record {
          may = subst (λ (e : JournalEntry). MayJournal setting e outrun) (sym outrun-entry) (by-now rebalancing outrun (no-success call rebalancing refl)
              (inl (right rebalancing outrun (sym (ap (λ (b : Bool). reply_to b (seen_now setting w call outrun) call) (unready-after w leader s through) ∙
              ap (λ (seen : Seen). reply_to false seen call) outrun-seen ∙
              unready-waits (seen_now setting w call s) call writing succeeds)))));
          keeps = keeps-row leader without_lead s refl;
          grows = grows-row leader without_lead s (omega arith);
        }

        -- its own is the last: the call succeeds
        module _ (last : own ≡ true) where
          success : is_success now ≡ true
          success = ap (λ (b : Bool). is_success (reply_to b (seen_now setting w call s) call)) (ready-by w leader s through ∙ last) ∙ succeeds

          -- it has written, and its worker reads
          module _ (u : Cluster) (same : u.rows ≡ s.rows) (unclosed : u.closed ≡ None) where
            abbrev read : Cluster
            read = changes_row w (λ row. record row { prefix = length u.configs }) u

            read-is : (read_config w u).1 ≡ read
            read-is = ap (λ (a : Answer (Unit {0})). a.1)
                (at-work w u (answered tt read) unclosed (ap (λ (rows : List Row). (row_of w (record u { rows = rows })).live) same ∙ live))

            read-there : w < length u.rows
            read-there = subst (λ (rows : List Row). w < length rows) (sym same) (live-within w s live)

            read-all : (row_of w read).prefix ≡ length u.configs
            read-all = ap (λ (r : Row). r.prefix) (get_or-set_same u.rows w (record (row_of w u) { prefix = length u.configs }) no_row read-there)

            read-quiet : KeepsJournal s u → KeepsJournal s read
            read-quiet before = keeps-trans s u read before (keeps-row w (λ row. record row { prefix = length u.configs }) u refl)

            read-grows : length s.configs ≤ length u.configs → Grows u read
            read-grows more =
                let sound : IsSoundRow s (row_of w s) = sound_at s f.rows w in
                let row : (row_of w u).prefix ≡ (row_of w s).prefix = ap (λ (rows : List Row). (row_of w (record u { rows = rows })).prefix) same in
                grows-row w (λ row. record row { prefix = length u.configs }) u (omega (arith, sound.prefix, more, row))

        -- ---- configs

        module _ (deed : deed_of call ≡ writes_configs) where
          abbrev records : List ConfigRecord
          records = stamped (values_of call) s

          abbrev with_records : Cluster
          with_records = with_configs records s

          configs-done : own ≡ true → IsKept setting w call s (answered now (read_config w with_records).1)
          configs-done last =
              let t : Cluster = read last with_records refl alive in
              let wrote : WroteConfigs (entry_in w call now s) = record { deed = deed; success = success last } in
              let more : length s.configs ≤ length with_records.configs = omega (arith, length-append s.configs records) in
              let grows : Grows s t = grows-trans s with_records t (grows-configs records s) (read-grows last with_records refl alive more) in
              let has : HasWritten setting s t (entry_in w call now s) = record {
                wrote = wrote;
                sees = sees-now now s;
                reply = right now s refl;
                some = some-values (is_ready w s) (seen_now setting w call s) call deed (success last);
                configs = refl;
                read = read-all last with_records refl alive;
                grows = grows;
                journal = refl;
              } in
              subst (λ (x : Cluster). IsKept setting w call s (answered now x)) (sym (read-is last with_records refl alive))
              (record { may = inr (inl (inl wrote), configs-true setting s t (entry_in w call now s) f has); keeps = read-quiet last with_records refl alive (keeps-configs records s); grows = grows })

          configs-full : fits_configs records s ≡ false → IsKept setting w call s (answered (full_reply Config) s)
          configs-full full = record {
            may = by-now (full_reply Config) s (no-success call (full_reply Config) refl) (inr (inl (record { deed = deed; full = full; reply = refl })));
            keeps = keeps-same s;
            grows = grows-same s;
          }

          configs-fit : (b : Bool) → fits_configs records s ≡ b → own ≡ true → (length frame : ℕ) →
              IsKept setting w call s (behind_write setting w call s (if b then answered (next_config s) with_records else refused (Full Config length frame) s).0
              (if b then answered (next_config s) with_records else refused (Full Config length frame) s).1)
          configs-fit true fits last length frame = configs-done last
          configs-fit false full last length frame = configs-full full

          configs-led : (b : Bool) → own ≡ b → (current : ℕ) → (epoch length frame : ℕ) → (a : Answer ℕ) →
              a ≡ (if b then (if fits_configs records s then answered (next_config s) with_records else refused (Full Config length frame) s)
              else refused (Fenced epoch current) outrun) →
              IsKept setting w call s (behind_write setting w call s a.0 a.1)
          configs-led true last current epoch length frame a is =
              subst (λ (a : Answer ℕ). IsKept setting w call s (behind_write setting w call s a.0 a.1)) (sym is)
              (configs-fit (fits_configs records s) refl last length frame)
          configs-led false lost current epoch length frame a is =
              subst (λ (a : Answer ℕ). IsKept setting w call s (behind_write setting w call s a.0 a.1)) (sym is) outrun-kept

          pub configs-kept : IsKept setting w call s (answers setting w call s)
          configs-kept = subst (IsKept setting w call s) (sym (configs-written setting w call s alive live deed leader through succeeds))
              (configs-led own refl (last_epoch Lead s) (epoch_in (row_of leader s).lead) (config_length s) (frame_of (config_body records))
              (append_config leader (values_of call) s) (at-work leader s (as_leader leader (appends_configs records (λ t. t) (next_config s) s) s) alive
              (leader-lives s leader w through)))

        -- ---- offsets

        module _ (deed : deed_of call ≡ writes_offsets) where
          abbrev name : List ℕ
          name = connector_set call

          abbrev frame_at : Option Epoch → List Entry
          frame_at lead = offset_entries name (fenced_count_of name s.configs) (unwrap_or lead (record { 0 = 0 })) (offsets_of (seen_now setting w call s) call)

          abbrev frame : List Entry
          frame = frame_at (row_of leader s).lead

          abbrev with_frame : Cluster
          with_frame = with_entries frame s

          -- it is written under the last epoch
          epoch-is : (o : Option Epoch) → IsSome o → (epoch_in o == last_epoch Lead s) ≡ true → unwrap_or o (record { 0 = 0 }) ≡ record { 0 = last_epoch Lead s }
          epoch-is None some last = absurd (let no : false ≡ true = some in cc)
          epoch-is (Some epoch) some last = ap (λ (n : ℕ). record { 0 = n }) (eqb-true epoch.0 (last_epoch Lead s) last)

          frame-now : own ≡ true → frame ≡ entries_of (seen_now setting w call s) call
          frame-now last =
              ap (λ (epoch : Epoch). offset_entries name (fenced_count_of name s.configs) epoch (offsets_of (seen_now setting w call s) call))
              (epoch-is (row_of leader s).lead (ready-leads w leader s through) last) ∙
              ap (λ (l : List ConfigRecord). offset_entries name (fenced_count_of name l) (record { 0 = last_epoch Lead s }) (offsets_of (seen_now setting w call s) call))
              (sym (sees-all setting w call s alive live writing))

          frame-is : own ≡ true → (reply : Reply) → frame ≡ entries_of (seen_by setting s (entry_in w call reply s)) call
          frame-is last reply = frame-now last ∙ ap (λ (seen : Seen). entries_of seen call) (sym (sees reply s))

          offsets-done : own ≡ true → IsKept setting w call s (answered now (read_config w with_frame).1)
          offsets-done last =
              let t : Cluster = read last with_frame refl alive in
              let wrote : WroteOffsets (entry_in w call now s) = record { deed = deed; success = success last } in
              let grows : Grows s t = grows-trans s with_frame t (grows-entries frame s) (read-grows last with_frame refl alive (omega arith)) in
              let has : HasSet setting s t (entry_in w call now s) = record {
                wrote = wrote;
                sees = sees-now now s;
                reply = right now s refl;
                entries = ap (λ (l : List Entry). s.entries ++ l) (frame-is last now);
                grows = grows;
                journal = refl;
              } in
              subst (λ (x : Cluster). IsKept setting w call s (answered now x)) (sym (read-is last with_frame refl alive))
              (record { may = inr (inl (inr wrote), offsets-true setting s t (entry_in w call now s) f has); keeps = read-quiet last with_frame refl alive (keeps-entries frame s); grows = grows })

          offsets-full : own ≡ true → fits_entries frame s ≡ false → IsKept setting w call s (answered (full_reply Txn) s)
          offsets-full last full = record {
            may = by-now (full_reply Txn) s (no-success call (full_reply Txn) refl) (inr (inr (inl (record {
              deed = deed;
              full = subst (λ (l : List Entry). fits_entries l s ≡ false) (frame-is last (full_reply Txn)) full;
              reply = refl;
            }))));
            keeps = keeps-same s;
            grows = grows-same s;
          }

          offsets-fit : (b : Bool) → fits_entries frame s ≡ b → own ≡ true → (length bytes : ℕ) → (done : Answer (Unit {0})) →
              done ≡ (if b then answered tt with_frame else refused (Full Txn length bytes) s) →
              IsKept setting w call s (behind_write setting w call s done.0 done.1)
          offsets-fit true fits last length bytes done is =
              subst (λ (a : Answer (Unit {0})). IsKept setting w call s (behind_write setting w call s a.0 a.1)) (sym is) (offsets-done last)
          offsets-fit false full last length bytes done is =
              subst (λ (a : Answer (Unit {0})). IsKept setting w call s (behind_write setting w call s a.0 a.1)) (sym is) (offsets-full last full)

          offsets-led : (b : Bool) → own ≡ b → (current epoch length bytes : ℕ) → (a : Answer (Unit {0})) →
              a ≡ (if b then (if fits_entries frame s then answered tt with_frame else refused (Full Txn length bytes) s)
              else refused (Fenced epoch current) outrun) →
              IsKept setting w call s (behind_write setting w call s a.0 a.1)
          offsets-led true last current epoch length bytes a is = offsets-fit (fits_entries frame s) refl last length bytes a is
          offsets-led false lost current epoch length bytes a is =
              subst (λ (a : Answer (Unit {0})). IsKept setting w call s (behind_write setting w call s a.0 a.1)) (sym is) outrun-kept

          pub offsets-kept : IsKept setting w call s (answers setting w call s)
          offsets-kept = subst (IsKept setting w call s) (sym (offsets-written setting w call s alive live deed leader through succeeds))
              (offsets-led own refl (last_epoch Lead s) (epoch_in (row_of leader s).lead) (txn_length s) (frame_of (entries_bytes frame))
              (set_offsets leader name (offsets_of (seen_now setting w call s) call) s)
              (at-work leader s (as_leader leader (appends_entries frame (λ t. t) tt s) s) alive (leader-lives s leader w through)))

    -- ---- the table

    writes-of : (deed : Deed) → deed_of call ≡ deed → is_reading deed ≡ false → is_reading (deed_of call) ≡ false
    writes-of deed is writing = ap is_reading is ∙ writing

    configs-by : deed_of call ≡ writes_configs → (o : Option ℕ) → ready w s ≡ o → (b : Bool) → would_succeed setting w call s ≡ b →
        IsKept setting w call s (answers setting w call s)
    configs-by deed None none b is = subst (IsKept setting w call s) (sym (configs-unled setting w call s alive live deed none))
        (unled (writes-of writes_configs deed refl) none)
    configs-by deed (Some leader) through true is = configs-kept (writes-of writes_configs deed refl) leader through is deed
    configs-by deed (Some leader) through false is = subst (IsKept setting w call s) (sym (configs-fail setting w call s alive live deed leader through is))
        (fails-kept (writes-of writes_configs deed refl) is)

    offsets-by : deed_of call ≡ writes_offsets → (o : Option ℕ) → ready w s ≡ o → (b : Bool) → would_succeed setting w call s ≡ b →
        IsKept setting w call s (answers setting w call s)
    offsets-by deed None none b is = subst (IsKept setting w call s) (sym (offsets-unled setting w call s alive live deed none))
        (unled (writes-of writes_offsets deed refl) none)
    offsets-by deed (Some leader) through true is = offsets-kept (writes-of writes_offsets deed refl) leader through is deed
    offsets-by deed (Some leader) through false is = subst (IsKept setting w call s) (sym (offsets-fail setting w call s alive live deed leader through is))
        (fails-kept (writes-of writes_offsets deed refl) is)

    by-table : (deed : Deed) → deed_of call ≡ deed → IsKept setting w call s (answers setting w call s)
    by-table reads is = subst (IsKept setting w call s) (sym (by-deed setting w call s alive live reads is))
        (unmoved (of-deed reads is (λ e. absurd (cc)) (λ e. absurd (cc)) now))
    by-table reads_configs is = subst (IsKept setting w call s) (sym (by-deed setting w call s alive live reads_configs is))
        (unmoved (of-deed reads_configs is (λ e. absurd (cc)) (λ e. absurd (cc)) now))
    by-table writes_configs is = configs-by is (ready w s) refl (would_succeed setting w call s) refl
    by-table writes_offsets is = offsets-by is (ready w s) refl (would_succeed setting w call s) refl
    by-table restarts is = subst (IsKept setting w call s) (sym (by-deed setting w call s alive live restarts is))
        (if-kept is (is_success now))

  -- whatever a worker that lives answers
  pub answers-kept : (s : Cluster) → AreFacts setting s → (row_of w s).live ≡ true → IsKept setting w call s (answers setting w call s)
  answers-kept s f live = at s.closed refl where
    at : (o : Option (DiskName × ℕ)) → s.closed ≡ o → IsKept setting w call s (answers setting w call s)
    at None is = by-table s f is live (deed_of call) refl
    at (Some fault) is = subst (IsKept setting w call s) (sym (closed-answers setting w call s fault is))
        (closed-kept s fault.0 fault.1 (subst (λ (o : Option (DiskName × ℕ)). IsSome o) (sym is) refl))
