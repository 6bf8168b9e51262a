-- What no event takes back, and that a true journal stays true behind what only grows.
use Rattle.std.proofs.Common.{◌≡◌, inl, inr, ℕ, ◌≤◌, ◌++◌, ◌∷◌, [], List, length, map, take, drop, Option, refl, sym, subst, ap, ◌∙◌, arith, append_assoc, length-append, length-take}
use Rattle.std.proofs.lemmas.List.{append-nil, take-append-le, drop-append-le, map-append, length-map}
use Rattle.cw_txn.specs.declared.entry.Entry.{Entry}
use Rattle.cw_keys.specs.declared.config_key.ConfigKey.{ConfigKey}
use Rattle.cw_keys.specs.declared.config_value.ConfigValue.{ConfigValue}
use Rattle.cw_config.specs.declared.records.ConfigRecord.{ConfigRecord}
use Rattle.cw_data.specs.declared.entry.DataEntry.{DataEntry}
use Rattle.cw_offset.specs.declared.body.OffsetEntry.{OffsetEntry}
use Rattle.cw_rest.specs.Replies.{reply_to, values_of, entries_of}
use Rattle.cw_bytes.specs.Frames.{EachFrom}
use Rattle.cw_model.specs.declared.journal.JournalEntry.{JournalEntry}
use Rattle.cw_model.specs.declared.row.Row.{Row}
use Rattle.cw_model.specs.declared.instance.Instance.{Instance}
use Rattle.cw_model.specs.State.{Setting, Cluster, StampedStatus}
use Rattle.cw_model.specs.Lookups.{row_of, no_row, list_end}
use Rattle.cw_model.specs.Grows.{GoesOn, Grows}
use Rattle.cw_model.specs.Journal.{seen_by, IsTrueReply, IsTrueEntry, IsTrueJournal, StandsFrom}
use Rattle.cw_model.specs.Updates.{changes_row, changes_instance, with_configs, with_offset, with_status, with_entries, with_data}
use Rattle.cw_laws.proofs.Lists.{reads-set, each_from-weaker}

-- ---- lists that go on

pub goes_on-same : {A : Type 0} (xs : List A) → GoesOn xs xs
goes_on-same xs = record { more = []; is = sym (append-nil xs) }

pub goes_on-more : {A : Type 0} (xs more : List A) → GoesOn xs (xs ++ more)
goes_on-more xs more = record { more = more; is = refl }

pub goes_on-trans : {A : Type 0} (xs ys zs : List A) → GoesOn xs ys → GoesOn ys zs → GoesOn xs zs
goes_on-trans xs ys zs g h = record { more = g.more ++ h.more; is = h.is ∙ ap (λ l. l ++ h.more) g.is ∙ append_assoc xs g.more h.more }

pub length-goes_on : {A : Type 0} (xs ys : List A) → GoesOn xs ys → length xs ≤ length ys
length-goes_on xs ys g = omega (arith, ap length g.is, length-append xs g.more)

take-goes_on : {A : Type 0} (n : ℕ) (xs ys : List A) → GoesOn xs ys → n ≤ length xs → take n ys ≡ take n xs
take-goes_on n xs ys g within = ap (λ l. take n l) g.is ∙ take-append-le n xs g.more within

-- ---- states that grow

-- t is any state, taken with the session lists, the journal and the closing of s
pub grows-frame : (s t : Cluster) → ((w : ℕ) → (row_of w s).prefix ≤ (row_of w t).prefix) → Grows s (record t {
  configs = s.configs;
  statuses = s.statuses;
  entries = s.entries;
  journal = s.journal;
  closed = s.closed;
})
grows-frame s t read = record {
  configs = goes_on-same s.configs;
  statuses = goes_on-same s.statuses;
  entries = goes_on-same s.entries;
  journal = goes_on-same s.journal;
  read = read;
  closed = λ closed. closed;
}

pub grows-same : (s : Cluster) → Grows s s
grows-same s = grows-frame s s (λ w. omega arith)

pub grows-trans : (s t u : Cluster) → Grows s t → Grows t u → Grows s u
grows-trans s t u g h = record {
  configs = goes_on-trans s.configs t.configs u.configs g.configs h.configs;
  statuses = goes_on-trans s.statuses t.statuses u.statuses g.statuses h.statuses;
  entries = goes_on-trans s.entries t.entries u.entries g.entries h.entries;
  journal = goes_on-trans s.journal t.journal u.journal g.journal h.journal;
  read = λ w. omega (arith, g.read w, h.read w);
  closed = λ closed. h.closed (g.closed closed);
}

pub grows-row : (w : ℕ) (change : Row → Row) (s : Cluster) → (row_of w s).prefix ≤ (change (row_of w s)).prefix → Grows s (changes_row w change s)
grows-row w change s more = grows-frame s (changes_row w change s)
    (reads-set (λ (r q : Row). r.prefix ≤ q.prefix) s.rows w (change (row_of w s)) no_row (λ r. omega arith) more)

pub grows-instance : (i : ℕ) (change : Instance → Instance) (s : Cluster) → Grows s (changes_instance i change s)
grows-instance i change s = grows-frame s (changes_instance i change s) (λ w. omega arith)

pub grows-entries : (frame : List Entry) (s : Cluster) → Grows s (with_entries frame s)
grows-entries frame s = record {
  configs = goes_on-same s.configs;
  statuses = goes_on-same s.statuses;
  entries = goes_on-more s.entries frame;
  journal = goes_on-same s.journal;
  read = λ w. omega arith;
  closed = λ closed. closed;
}

pub grows-configs : (records : List ConfigRecord) (s : Cluster) → Grows s (with_configs records s)
grows-configs records s = record {
  configs = goes_on-more s.configs records;
  statuses = goes_on-same s.statuses;
  entries = goes_on-same s.entries;
  journal = goes_on-same s.journal;
  read = λ w. omega arith;
  closed = λ closed. closed;
}

pub grows-status : (r : StampedStatus) (s : Cluster) → Grows s (with_status r s)
grows-status r s = record {
  configs = goes_on-same s.configs;
  statuses = goes_on-more s.statuses (r ∷ []);
  entries = goes_on-same s.entries;
  journal = goes_on-same s.journal;
  read = λ w. omega arith;
  closed = λ closed. closed;
}

pub grows-offset : (entry : OffsetEntry) (s : Cluster) → Grows s (with_offset entry s)
grows-offset entry s = grows-frame s (with_offset entry s) (λ w. omega arith)

pub grows-data : (entry : DataEntry) (s : Cluster) → Grows s (with_data entry s)
grows-data entry s = grows-frame s (with_data entry s) (λ w. omega arith)

-- ---- the journal

-- what stands from a place on stands there in a longer list
stands-goes_on : {A : Type 0} (place : ℕ) (part xs ys : List A) → GoesOn xs ys → place ≤ length xs → StandsFrom place part xs → StandsFrom place part ys
stands-goes_on place part xs ys g within stands =
    let fits : length part ≤ length (drop place xs) = omega (arith, ap length stands, length-take (length part) (drop place xs)) in
    ap (λ l. take (length part) (drop place l)) g.is
    ∙ ap (take (length part)) (drop-append-le place xs g.more within)
    ∙ take-append-le (length part) (drop place xs) g.more fits
    ∙ stands

map-goes_on : {A B : Type 0} (f : A → B) (xs ys : List A) → GoesOn xs ys → GoesOn (map f xs) (map f ys)
map-goes_on f xs ys g = record { more = map f g.more; is = ap (map f) g.is ∙ map-append f xs g.more }

-- a record's key and value
abbrev pub keyed : ConfigRecord → ConfigKey × Option ConfigValue
keyed r = (r.key, r.value)

module _ (setting : Setting) (s t : Cluster) (g : Grows s t) where
  pub seen-same : (e : JournalEntry) → e.prefix ≤ length s.configs → e.statuses ≤ length s.statuses → e.entries ≤ list_end s.entries →
      seen_by setting t e ≡ seen_by setting s e
  seen-same e configs statuses entries = rw (
    take-goes_on e.prefix s.configs t.configs g.configs configs,
    take-goes_on e.statuses s.statuses t.statuses g.statuses statuses,
    take-goes_on e.entries s.entries t.entries g.entries entries,
  )

  pub reply-stays : (e : JournalEntry) → seen_by setting t e ≡ seen_by setting s e → IsTrueReply setting s e → IsTrueReply setting t e
  reply-stays e same (inl right) = inl record { ready = right.ready; is = right.is ∙ ap (λ seen. reply_to right.ready seen e.call) (sym same) }
  reply-stays e same (inr (inl memory)) = inr (inl memory)
  reply-stays e same (inr (inr (inl full))) = inr (inr (inl full))
  reply-stays e same (inr (inr (inr (inl full)))) = inr (inr (inr (inl full)))
  reply-stays e same (inr (inr (inr (inr failed)))) = inr (inr (inr (inr (g.closed failed.0, failed.1))))

  -- an entry that is true stays true
  pub true-stays : (before : List JournalEntry) (e : JournalEntry) → IsTrueEntry setting s before e → IsTrueEntry setting t before e
  true-stays before e f =
      let same : seen_by setting t e ≡ seen_by setting s e = seen-same e f.prefix f.statuses f.entries in
      let within : e.prefix ≤ length (map keyed s.configs) = rw (length-map s.configs keyed) f.prefix in
      record {
        reply = reply-stays e same f.reply;
        prefix = omega (arith, f.prefix, length-goes_on s.configs t.configs g.configs);
        statuses = omega (arith, f.statuses, length-goes_on s.statuses t.statuses g.statuses);
        entries = omega (arith, f.entries, length-goes_on s.entries t.entries g.entries);
        reader = λ reads. omega (arith, f.reader reads, g.read e.worker);
        board = f.board;
        values = λ wrote. stands-goes_on e.prefix (values_of e.call) (map keyed s.configs) (map keyed t.configs)
            (map-goes_on keyed s.configs t.configs g.configs) within (f.values wrote);
        offsets = λ wrote. subst (λ seen. StandsFrom e.entries (entries_of seen e.call) t.entries) (sym same)
            (stands-goes_on e.entries (entries_of (seen_by setting s e) e.call) s.entries t.entries g.entries f.entries (f.offsets wrote));
        reread = λ wrote. omega (arith, f.reread wrote, g.read e.worker);
        relisted = λ wrote. omega (arith, f.relisted wrote, length-goes_on s.entries t.entries g.entries);
        behind = f.behind;
      }

  -- so a true journal does, where no entry is added: it is `IsTrueJournal setting t` then
  pub journal-stays : IsTrueJournal setting s → EachFrom (IsTrueEntry setting t) [] s.journal
  journal-stays f = each_from-weaker (IsTrueEntry setting s) (IsTrueEntry setting t) [] s.journal true-stays f
