-- A call that is kept in the journal keeps all facts: what it saw and did is true.
use Rattle.std.proofs.Common.{◌≡◌, inl, inr, ℕ, ◌≤◌, ◌++◌, ◌∷◌, [], Bool, true, false, List, length, if◌then◌else◌, refl, ap, ◌∙◌, arith}
use Rattle.cw_rest.specs.Calls.{deed_of, is_reading}
use Rattle.cw_model.specs.declared.journal.JournalEntry.{JournalEntry}
use Rattle.cw_model.specs.State.{Setting, Cluster}
use Rattle.cw_model.specs.Lookups.{row_of, instance_of}
use Rattle.cw_model.specs.Journal.{journal, MayJournal, IsAnsweredNow, IsTrueEntry, IsTrueReply, GoesOnBehind, is_ready}
use Rattle.cw_model.specs.Facts.{AreFacts}
use Rattle.cw_model.specs.FactsRows.{IsSoundRow, IsSoundInstance}
use Rattle.cw_model.specs.Grows.{Grows}
use Rattle.cw_laws.proofs.Lists.{each-weaker, each_from-each, each_from-push, each_from-weaker}
use Rattle.cw_laws.proofs.Grows.{goes_on-same, goes_on-more, true-stays}
use Rattle.cw_laws.proofs.Frames.{logs-frame, exact-frame, backed-frame}
use Rattle.cw_laws.proofs.Rows.{same_member, group-stays}
use Rattle.cw_laws.proofs.Fading.{fades-same, producers-fade}
use Rattle.cw_laws.proofs.Sound.{HasMore, sound_row-grows, sound_instance-grows}
use Rattle.cw_laws.proofs.Workers.{sound_at}

-- what a call sees of the config log is as much as its worker has read, or more
prefix-cases : (b : Bool) (read whole : ℕ) → read ≤ whole → (read ≤ (if b then read else whole)) × ((if b then read else whole) ≤ whole)
prefix-cases true read whole within = (omega arith, within)
prefix-cases false read whole within = (within, omega arith)

module _ (setting : Setting) (e : JournalEntry) (s : Cluster) (f : AreFacts setting s) (now : IsAnsweredNow setting s e) where
  row : IsSoundRow s (row_of e.worker s)
  row = sound_at s f.rows e.worker

  sees : ((row_of e.worker s).prefix ≤ e.prefix) × (e.prefix ≤ length s.configs)
  sees =
      let parts = prefix-cases (is_reading (deed_of e.call)) (row_of e.worker s).prefix (length s.configs) row.prefix in
      (omega (arith, parts.0, now.sees.prefix), omega (arith, parts.1, now.sees.prefix))

  reads : is_reading (deed_of e.call) ≡ true → e.prefix ≡ (row_of e.worker s).prefix
  reads reading = now.sees.prefix ∙ rw reading refl

  answered-reply : IsTrueReply setting s e
  answered-reply = elim now.reply [
    | inl right ↦ inl record { ready = is_ready e.worker s; is = right }
    | inr other ↦ elim other [
      | inl full ↦ inr (inr (inl full.reply))
      | inr other ↦ elim other [
        | inl full ↦ inr (inr (inr (inl full.reply)))
        | inr other ↦ elim other [
          | inl memory ↦ inr (inl memory)
          | inr failed ↦ inr (inr (inr (inr failed)))
        ]
      ]
    ]
  ]

  goes-on : (before : List JournalEntry) (b : JournalEntry) → IsTrueEntry setting s before b → b.worker ≡ e.worker → GoesOnBehind e b
  goes-on before b true-b same =
      let read : (row_of b.worker s).prefix ≡ (row_of e.worker s).prefix = ap (λ w. (row_of w s).prefix) same in
      record {
        prefix = λ was is. omega (arith, true-b.reader was.deed, reads is.deed, read);
        statuses = λ was is. omega (arith, true-b.statuses, now.sees.statuses);
        entries = λ was is. omega (arith, true-b.entries, now.sees.entries);
        configs = λ wrote locked. omega (arith, true-b.reread wrote, read, sees.0);
        offsets = λ wrote locked. omega (arith, true-b.relisted wrote, now.sees.entries);
      }

  -- what is answered by what is now is true
  pub answered-true : IsTrueEntry setting s s.journal e
  answered-true = record {
    reply = answered-reply;
    prefix = sees.1;
    statuses = omega (arith, now.sees.statuses);
    entries = omega (arith, now.sees.entries);
    reader = λ reading. omega (arith, reads reading);
    board = λ board. let locked : e.board ≡ false = now.sees.locked in absurd (cc);
    values = λ wrote. absurd (now.no_configs wrote);
    offsets = λ wrote. absurd (now.no_offsets wrote);
    reread = λ wrote. absurd (now.no_configs wrote);
    relisted = λ wrote. absurd (now.no_offsets wrote);
    behind = each_from-each (IsTrueEntry setting s) (λ b. b.worker ≡ e.worker → GoesOnBehind e b) [] s.journal goes-on f.journal;
  }

entry-true : (setting : Setting) (e : JournalEntry) (s : Cluster) → AreFacts setting s → MayJournal setting e s → IsTrueEntry setting s s.journal e
entry-true setting e s f (inl now) = answered-true setting e s f now
entry-true setting e s f (inr kept) = kept.1

pub grows-journal : (e : JournalEntry) (s : Cluster) → Grows s (journal e s).1
grows-journal e s = record {
  configs = goes_on-same s.configs;
  statuses = goes_on-same s.statuses;
  entries = goes_on-same s.entries;
  journal = goes_on-more s.journal (e ∷ []);
  read = λ w. omega arith;
  closed = λ closed. closed;
}

pub journal-keeps : (setting : Setting) (e : JournalEntry) (s : Cluster) → MayJournal setting e s → AreFacts setting s → AreFacts setting (journal e s).1
journal-keeps setting e s may f =
    let t : Cluster = record s { journal = s.journal ++ e ∷ [] } in
    let more : HasMore s t = record { rows = omega arith; epochs = omega arith; entries = omega arith } in
    record {
      safe = record { disjoint = f.safe.disjoint; fenced = f.safe.fenced; exact = exact-frame setting s t f.safe.exact; backed = backed-frame s t f.safe.backed };
      group = group-stays s t record { rows = λ w. same_member (row_of w s); held = λ w x holds. holds } f.group;
      logs = logs-frame setting s t f.logs;
      rows = record {
        few = f.rows.few;
        rows = each-weaker (IsSoundRow s) (IsSoundRow t) s.rows (sound_row-grows s t more) f.rows.rows;
        instances = each-weaker (IsSoundInstance s) (IsSoundInstance t) s.instances (sound_instance-grows s t more) f.rows.instances;
      };
      producers = producers-fade setting s t record { count = refl; fencing = λ w lead fencing a b. (a, b) } (λ n. fades-same (instance_of n s)) f.producers;
      journal = each_from-weaker (IsTrueEntry setting s) (IsTrueEntry setting t) [] (s.journal ++ e ∷ []) (true-stays setting s t (grows-journal e s))
          (each_from-push (IsTrueEntry setting s) [] s.journal e f.journal (entry-true setting e s f may));
    }
