-- A call that wrote, and one that was read from a published view, may be kept in the journal: what it tells is true.
use Rattle.std.proofs.Common.{◌≡◌, inl, ℕ, ◌+◌, ◌<◌, ◌≤◌, ◌∷◌, ◌++◌, [], true, false, List, length, map, take, refl, sym, subst, ap, ◌∙◌, arith, length-append}
use Rattle.std.specs.List.{AllByRecursion, enumerate_from}
use Rattle.std.proofs.Math.Seq.{take-length, drop-append_seam}
use Rattle.std.proofs.lemmas.List.{length-map, map-append}
use Rattle.cw_types.specs.declared.ids.Tid.TheVariants.{Lead}
use Rattle.cw_route.specs.declared.call.Call.{Call}
use Rattle.cw_config.specs.View.{fenced_count_of}
use Rattle.cw_txn.specs.Legal.{epoch_of}
use Rattle.cw_txn.specs.declared.entry.Entry.TheVariants.{Set}
use Rattle.cw_rest.specs.Calls.{reads_configs, writes_configs, writes_offsets, deed_of, is_reading}
use Rattle.cw_rest.specs.Replies.{values_of, entries_of, connector_set, offsets_of}
use Rattle.cw_rest.specs.Operations.{bumps_of}
use Rattle.cw_rest.specs.Seen.{Seen, KeyedValues}
use Rattle.cw_model.specs.declared.journal.JournalEntry.{JournalEntry}
use Rattle.cw_model.specs.State.{Setting, Cluster}
use Rattle.cw_model.specs.Lookups.{row_of, list_end}
use Rattle.cw_model.specs.Facts.{AreFacts}
use Rattle.cw_model.specs.FactsRows.{IsSoundRow}
use Rattle.cw_model.specs.Grows.{Grows}
use Rattle.cw_model.specs.Journal.{seen_by, StandsFrom, IsTrueEntry, IsTrueReply, GoesOnBehind, WroteConfigs, WroteOffsets, OnlyRead, SeesAsOfNow, IsReplyOfNow, is_ready}
use Rattle.cw_model.specs.Updates.{stamped, stamp_of}
use Rattle.cw_laws.specs.KeptCalls.{HasWritten, HasSet, IsOfView}
use Rattle.cw_laws.proofs.Grows.{keyed, length-goes_on, reply-stays, seen-same}
use Rattle.cw_laws.proofs.Lists.{each_from-each}
use Rattle.cw_laws.proofs.ValuesStand.{recorded}
use Rattle.cw_laws.proofs.Workers.{sound_at}

-- the records of some values have these keys and values
keyed-values : (stamp n : ℕ) (values : KeyedValues) → map keyed (map (recorded stamp) (enumerate_from n values)) ≡ values
keyed-values stamp n [] = refl
keyed-values stamp n (kv ∷ values) = ap (λ l. kv ∷ l) (keyed-values stamp (n + 1) values)

-- what is appended stands from where the list ended
appended-stands : {A : Type 0} (xs part : List A) → StandsFrom (length xs) part (xs ++ part)
appended-stands xs part = ap (take (length part)) (drop-append_seam xs part) ∙ take-length part

module _ (setting : Setting) (s t : Cluster) (e : JournalEntry) (f : AreFacts setting s) (g : Grows s t) (sees : SeesAsOfNow s e) (right : IsReplyOfNow setting s e)
    (writes : is_reading (deed_of e.call) ≡ false) where
  whole : e.prefix ≡ length s.configs
  whole = sees.prefix ∙ rw writes refl

  seen : seen_by setting t e ≡ seen_by setting s e
  seen = seen-same setting s t g e (omega (arith, whole)) (omega (arith, sees.statuses)) (omega (arith, sees.entries))

  reply : IsTrueReply setting t e
  reply = reply-stays setting s t g e seen (inl record { ready = is_ready e.worker s; is = right })

  no-read : {A : Type 0} → OnlyRead e → A
  no-read only = let is : is_reading (deed_of e.call) ≡ true = only.deed in absurd (cc)

  -- whoever wrote before is behind
  goes-on : AllByRecursion (λ b. b.worker ≡ e.worker → GoesOnBehind e b) s.journal
  goes-on = each_from-each (IsTrueEntry setting s) (λ b. b.worker ≡ e.worker → GoesOnBehind e b) [] s.journal (λ before b true-b same.
      let row : IsSoundRow s (row_of b.worker s) = sound_at s f.rows b.worker in
      record {
        prefix = λ was is. no-read is;
        statuses = λ was is. no-read is;
        entries = λ was is. no-read is;
        configs = λ wrote locked. omega (arith, true-b.reread wrote, row.prefix, whole);
        offsets = λ wrote locked. omega (arith, true-b.relisted wrote, sees.entries);
      }) f.journal

  -- what both kinds of writing have
  entry : t.journal ≡ s.journal → (WroteConfigs e → StandsFrom e.prefix (values_of e.call) (map keyed t.configs) × (e.prefix < (row_of e.worker t).prefix)) →
      (WroteOffsets e → StandsFrom e.entries (entries_of (seen_by setting t e) e.call) t.entries × (e.entries < list_end t.entries)) → IsTrueEntry setting t t.journal e
  entry same configs offsets = record {
    reply = reply;
    prefix = omega (arith, whole, length-goes_on s.configs t.configs g.configs);
    statuses = omega (arith, sees.statuses, length-goes_on s.statuses t.statuses g.statuses);
    entries = omega (arith, sees.entries, length-goes_on s.entries t.entries g.entries);
    reader = λ reading. absurd (cc);
    board = λ board. let locked : e.board ≡ false = sees.locked in absurd (cc);
    values = λ wrote. (configs wrote).0;
    offsets = λ wrote. (offsets wrote).0;
    reread = λ wrote. (configs wrote).1;
    relisted = λ wrote. (offsets wrote).1;
    behind = subst (λ l. AllByRecursion (λ b. b.worker ≡ e.worker → GoesOnBehind e b) l) (sym same) goes-on;
  }

pub configs-true : (setting : Setting) (s t : Cluster) (e : JournalEntry) → AreFacts setting s → HasWritten setting s t e → IsTrueEntry setting t t.journal e
configs-true setting s t e f h =
    let deed : deed_of e.call ≡ writes_configs = h.wrote.deed in
    let place : e.prefix ≡ length s.configs = h.sees.prefix ∙ rw deed refl in
    let values : KeyedValues = values_of e.call in
    let keys : map keyed t.configs ≡ map keyed s.configs ++ values =
    ap (map keyed) h.configs ∙ map-append keyed s.configs (stamped values s) ∙ ap (λ l. map keyed s.configs ++ l) (keyed-values (stamp_of s) _ values) in
    let size : length t.configs ≡ length s.configs + length values =
    ap length h.configs ∙ length-append s.configs (stamped values s) ∙ ap (λ n. length s.configs + n) (sym (length-map (stamped values s) keyed) ∙ ap length (keyed-values (stamp_of s) _ values)) in
    entry setting s t e f h.grows h.sees h.reply (rw deed refl) h.journal
    (λ wrote. (
      subst (λ n. StandsFrom n values (map keyed t.configs)) (length-map s.configs keyed ∙ sym place)
          (subst (λ l. StandsFrom (length (map keyed s.configs)) values l) (sym keys) (appended-stands (map keyed s.configs) values)),
      omega (arith, place, size, h.read, h.some),
    ))
    (λ wrote. let other : deed_of e.call ≡ writes_offsets = wrote.deed in absurd (cc))

-- what sets offsets is an entry at least
some-entries : (seen : Seen) (call : Call) → 1 ≤ length (entries_of seen call)
some-entries seen call =
    omega (arith, length-append (bumps_of (connector_set call) (fenced_count_of (connector_set call) seen.configs)) (Set Lead (record { 0 = epoch_of Lead seen.entries }) (offsets_of seen call) ∷ []))

pub offsets-true : (setting : Setting) (s t : Cluster) (e : JournalEntry) → AreFacts setting s → HasSet setting s t e → IsTrueEntry setting t t.journal e
offsets-true setting s t e f h =
    let deed : deed_of e.call ≡ writes_offsets = h.wrote.deed in
    let writes : is_reading (deed_of e.call) ≡ false = rw deed refl in
    entry setting s t e f h.grows h.sees h.reply writes h.journal
    (λ wrote. let other : deed_of e.call ≡ writes_configs = wrote.deed in absurd (cc))
    (λ wrote. (
      subst (λ x. StandsFrom e.entries (entries_of x e.call) t.entries) (sym (seen setting s t e f h.grows h.sees h.reply writes))
          (subst (λ n. StandsFrom n (entries_of (seen_by setting s e) e.call) t.entries) (sym h.sees.entries)
          (subst (λ l. StandsFrom (length s.entries) (entries_of (seen_by setting s e) e.call) l) (sym h.entries) (appended-stands s.entries (entries_of (seen_by setting s e) e.call)))),
      omega (arith, h.sees.entries, ap length h.entries, length-append s.entries (entries_of (seen_by setting s e) e.call), some-entries (seen_by setting s e) e.call),
    ))

-- what is read of a published view
pub view-true : (setting : Setting) (s : Cluster) (e : JournalEntry) → AreFacts setting s → IsOfView setting s e → IsTrueEntry setting s s.journal e
view-true setting s e f h =
    let row : IsSoundRow s (row_of e.worker s) = sound_at s f.rows e.worker in
    record {
      reply = inl h.reply;
      prefix = omega (arith, h.prefix, row.prefix);
      statuses = omega (arith, h.view.statuses);
      entries = omega (arith, h.view.entries);
      reader = λ reading. h.prefix;
      board = λ board. h.view;
      values = λ wrote. let other : deed_of e.call ≡ writes_configs = wrote.deed in let deed : deed_of e.call ≡ reads_configs = h.view.deed in absurd (cc);
      offsets = λ wrote. let other : deed_of e.call ≡ writes_offsets = wrote.deed in let deed : deed_of e.call ≡ reads_configs = h.view.deed in absurd (cc);
      reread = λ wrote. let other : deed_of e.call ≡ writes_configs = wrote.deed in let deed : deed_of e.call ≡ reads_configs = h.view.deed in absurd (cc);
      relisted = λ wrote. let other : deed_of e.call ≡ writes_offsets = wrote.deed in let deed : deed_of e.call ≡ reads_configs = h.view.deed in absurd (cc);
      behind = each_from-each (IsTrueEntry setting s) (λ b. b.worker ≡ e.worker → GoesOnBehind e b) [] s.journal (λ before b true-b same. record {
        prefix = λ was is. let locked : e.board ≡ false = is.locked in let board : e.board ≡ true = h.board in absurd (cc);
        statuses = λ was is. let locked : e.board ≡ false = is.locked in let board : e.board ≡ true = h.board in absurd (cc);
        entries = λ was is. let locked : e.board ≡ false = is.locked in let board : e.board ≡ true = h.board in absurd (cc);
        configs = λ wrote locked. let board : e.board ≡ true = h.board in absurd (cc);
        offsets = λ wrote locked. let board : e.board ≡ true = h.board in absurd (cc);
      }) f.journal;
    }
