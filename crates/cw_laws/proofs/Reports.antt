-- A worker that reports a state keeps all facts: the status log gets a record that may stand there.
use Rattle.std.proofs.Common.{◌≡◌, inl, inr, ℕ, ◌+◌, ◌≤◌, ◌<◌, ◌^◌, ◌/◌, ◌%◌, ◌==◌, ◌++◌, ◌∷◌, [], zero, suc, not, codes, decimal, nat_lt, if◌then◌else◌, max, Bool, true, false, List, Option, Some, None, IsSome, length, map, option_map, refl, sym, subst, ap, ◌∙◌, arith}
use Rattle.std.proofs.lemmas.Bool.{or_cases}
use Rattle.std.specs.List.{AllByRecursion, filter_map, list_any, list_all}
use Rattle.std.proofs.lemmas.List.{map-append}
use Rattle.std.proofs.lemmas.List.Elements.{filter_map-append}
use Rattle.std.proofs.lemmas.List.Sums.{fold-append}
use Rattle.std.proofs.lemmas.Str.Ascii.{IsAscii-cons}
use borrow.Author.Tests.{ltb-true}
use Rattle.std.specs.Fmt.{digits, digits_onto, digit_glyph}
use Rattle.std.specs.Str.{IsAscii, IsUtf8}
use Rattle.std.proofs.lemmas.Str.{IsUtf8-append, IsUtf8-from_ascii}
use Rattle.std.proofs.lemmas.Bool.Decides.{Decides-eqb}
use Rattle.cw_assign.specs.Items.{same_item}
use Rattle.cw_assign.proofs.ItemLemmas.{same_item-Decides}
use Rattle.cw_keys.specs.Statuses.{IsTrace}
use Rattle.cw_types.specs.declared.ids.Item.{Item}
use Rattle.cw_bytes.specs.declared.applied.Applied.{Applied}
use Rattle.cw_bytes.specs.Spelling.{AreRecords}
use Rattle.cw_keys.specs.declared.status.StatusValue.{StatusValue}
use Rattle.cw_keys.specs.Statuses.{IsItem, IsStatus}
use Rattle.cw_keys.proofs.Values.{status_law}
use Rattle.cw_status.specs.Statuses.{latest, after_record}
use Rattle.cw_status.specs.Compaction.{record_with}
use Rattle.cw_bytes.specs.Frames.{joined, next_behind}
use Rattle.cw_model.specs.State.{Setting, Cluster, StampedStatus}
use Rattle.cw_model.specs.Phases.{is_ended}
use Rattle.cw_model.specs.Lookups.{row_of, is_at, list_end}
use Rattle.cw_model.specs.Bodies.{status_applied, status_in, statuses_in, status_body, frame_of, has_room, status_length}
use Rattle.cw_model.specs.Updates.{with_status, fits_status, is_offset}
use Rattle.cw_model.specs.declared.instance.Instance.{Instance}
use Rattle.cw_model.specs.declared.instance.Trace.{Trace}
use Rattle.cw_model.specs.declared.instance.Trace.TheVariants.{Fenced, LineTooLong}
use Rattle.cw_model.specs.EventsWorkers.{most_workers}
use Rattle.cw_model.specs.EventsReports.{put_status, MayReport, status_of, status_record, instance_at, is_item_at, trace_text}
use Rattle.cw_model.specs.FactsRows.{IsSoundRow, IsSoundInstance}
use Rattle.cw_model.specs.FactsLogs.{LogFacts, StatusFacts, FitsStatus, standing_statuses}
use Rattle.cw_model.specs.Facts.{AreFacts}
use Rattle.cw_laws.proofs.Items.{reports-keep}
use Rattle.cw_laws.proofs.Lists.{each-push, each_from-push}
use Rattle.cw_laws.proofs.Workers.{sound_at}
use Rattle.cw_laws.proofs.Wrappers.{worker-keeps, status-keeps}
use Rattle.cw_laws.proofs.Disks.{status-fits, and-first, and-second}
use Rattle.cw_laws.proofs.Grows.{goes_on-more}
use Rattle.cw_laws.proofs.Relog.{relog}
use Rattle.cw_laws.proofs.Written.{joined-push, records-written, end-fits}

-- ---- a status more

-- a status that can be written is read again
pub status-read : (r : StampedStatus) → IsItem r.status.item → IsStatus r.status.value → status_in (status_applied r) ≡ Some r
status-read r item value = ap (λ read. option_map (λ status. record { stamp = r.stamp; status = status }) (record_with (status_applied r) read)) (status_law r.status.item r.status.value item value)

standing-push : (frames : List (List Applied)) (r : StampedStatus) → status_in (status_applied r) ≡ Some r →
    statuses_in (frames ++ (status_applied r ∷ []) ∷ []) ≡ statuses_in frames ++ r ∷ []
standing-push frames r read =
    ap (filter_map status_in) (joined-push frames (status_applied r ∷ []))
    ∙ filter_map-append status_in (joined frames) (status_applied r ∷ [])
    ∙ ap (λ l. statuses_in frames ++ l) (rw read refl)

abbrev offsets_in : List StampedStatus → List ℕ
offsets_in statuses = map (λ (r : StampedStatus). r.status.offset) statuses

next-push : (statuses : List StampedStatus) (r : StampedStatus) → next_behind (offsets_in (statuses ++ r ∷ [])) ≡ max (next_behind (offsets_in statuses)) (r.status.offset + 1)
next-push statuses r =
    ap next_behind (map-append (λ (r : StampedStatus). r.status.offset) statuses (r ∷ []))
    ∙ fold-append (λ (end offset : ℕ). max end (offset + 1)) 0 (offsets_in statuses) (r.status.offset ∷ [])

latest-push : (item : Item) (statuses : List StampedStatus) (r : StampedStatus) →
    latest item (map (λ (r : StampedStatus). r.status) (statuses ++ r ∷ [])) ≡ after_record item (latest item (map (λ (r : StampedStatus). r.status) statuses)) r.status
latest-push item statuses r =
    ap (latest item) (map-append (λ (r : StampedStatus). r.status) statuses (r ∷ []))
    ∙ fold-append (after_record item) None (map (λ (r : StampedStatus). r.status) statuses) (r.status ∷ [])

statuses-push : (standing whole : List StampedStatus) (r : StampedStatus) → FitsStatus whole r → StatusFacts standing whole → StatusFacts (standing ++ r ∷ []) (whole ++ r ∷ [])
statuses-push standing whole r fits f = record {
  allowed = each_from-push FitsStatus [] whole r f.allowed fits;
  standing_allowed = each_from-push FitsStatus [] standing r f.standing_allowed record { above = rw f.end fits.above; item = fits.item; value = fits.value };
  end = next-push standing r ∙ ap (λ n. max n (r.status.offset + 1)) f.end ∙ sym (next-push whole r);
  latest = λ item. latest-push item standing r ∙ ap (λ last. after_record item last r.status) (f.latest item) ∙ sym (latest-push item whole r);
}

pub logs-status : (setting : Setting) (r : StampedStatus) (s : Cluster) → FitsStatus s.statuses r → r.stamp ≡ list_end s.entries → fits_status r s ≡ true →
    LogFacts setting s → LogFacts setting (with_status r s)
logs-status setting r s fits stamp room f =
    let read : status_in (status_applied r) ≡ Some r = status-read r fits.item fits.value in
    let offset : r.status.offset < 2 ^ 64 =
    ltb-true r.status.offset (2 ^ 64) (and-first (is_offset r.status.offset) (has_room (status_length s) (frame_of (status_body (r ∷ [])))) room) in
    let written : AreRecords (status_applied r ∷ []) = records-written (status_applied r ∷ []) (status_length s) (omega arith)
    (and-second (is_offset r.status.offset) (has_room (status_length s) (frame_of (status_body (r ∷ [])))) room)
    (record { offset = offset; stamp = omega (arith, stamp, end-fits setting s f) }, tt) in
    record {
      configs_read = f.configs_read;
      statuses_read = subst (λ l. AllByRecursion (λ a. IsSome (status_in a)) l) (sym (joined-push s.status.frames (status_applied r ∷ [])))
          (each-push (λ a. IsSome (status_in a)) (joined s.status.frames) (status_applied r) (rw read refl) f.statuses_read);
      configs = f.configs;
      statuses = subst (λ standing. StatusFacts standing (s.statuses ++ r ∷ [])) (sym (standing-push s.status.frames r read))
          (statuses-push (standing_statuses s) s.statuses r fits f.statuses);
      entries = f.entries;
      all_entries = f.all_entries;
      offsets = f.offsets;
      batches = f.batches;
      agree = f.agree;
      short = f.short;
      disks = status-fits r s room f.disks;
      written = record {
        config = f.written.config;
        offsets = f.written.offsets;
        status = each-push AreRecords s.status.frames (status_applied r ∷ []) written f.written.status;
        txn = f.written.txn;
        batches = f.written.batches;
      };
    }

pub status-keeps-facts : (setting : Setting) (r : StampedStatus) (s : Cluster) → FitsStatus s.statuses r → r.stamp ≡ list_end s.entries → fits_status r s ≡ true →
    AreFacts setting s → AreFacts setting (with_status r s)
status-keeps-facts setting r s fits stamp room f =
    relog setting s (with_status r s) (goes_on-more s.statuses (r ∷ [])) (λ closed. closed) (logs-status setting r s fits stamp room f.logs) f

-- ---- what a worker reports

-- a text of a program, byte by byte
literal-ascii : (cs : List ℕ) → list_all (λ c. nat_lt c 128) cs ≡ true → IsAscii cs
literal-ascii [] all = λ i. omega arith
literal-ascii (c ∷ cs) all = IsAscii-cons c cs (ltb-true c 128 (and-first (nat_lt c 128) (list_all (λ c. nat_lt c 128) cs) all))
    (literal-ascii cs (and-second (nat_lt c 128) (list_all (λ c. nat_lt c 128) cs) all))

pub literal-utf8 : (cs : List ℕ) → list_all (λ c. nat_lt c 128) cs ≡ true → IsUtf8 cs
literal-utf8 cs all = IsUtf8-from_ascii cs (literal-ascii cs all)

either-ascii : (b : Bool) (xs ys : List ℕ) → IsAscii xs → IsAscii ys → IsAscii (if b then xs else ys)
either-ascii true xs ys one other = one
either-ascii false xs ys one other = other

glyph-below : (b : Bool) (d : ℕ) → d < 10 → (if b then 48 + d else 87 + d) < 128
glyph-below true d digit = omega arith
glyph-below false d digit = omega arith

-- a number of any size is written in ASCII
digits-ascii : (k n : ℕ) (acc : List ℕ) → IsAscii acc → IsAscii (digits_onto k 10 false n acc)
digits-ascii zero n acc each = each
digits-ascii (suc k) n acc each =
    let digit : n % 10 < 10 = omega arith in
    let more : IsAscii (digit_glyph false (n % 10) ∷ acc) = IsAscii-cons (digit_glyph false (n % 10)) acc (glyph-below (nat_lt (n % 10) 10) (n % 10) digit) each in
    either-ascii (n / 10 == 0) (digit_glyph false (n % 10) ∷ acc) (digits_onto k 10 false (n / 10) (digit_glyph false (n % 10) ∷ acc)) more
    (digits-ascii k (n / 10) (digit_glyph false (n % 10) ∷ acc) more)

pub decimal-utf8 : (n : ℕ) → IsUtf8 (decimal n)
unfolding digits
decimal-utf8 n = IsUtf8-from_ascii (digits_onto 64 10 false n []) (digits-ascii 64 n [] (λ i. omega arith))

text-utf8 : (trace : Trace) → IsUtf8 (trace_text trace)
text-utf8 (Fenced own current) =
    IsUtf8-append ((codes "Fenced: epoch " ++ decimal own) ++ codes ", current ") (decimal current)
    (IsUtf8-append (codes "Fenced: epoch " ++ decimal own) (codes ", current ")
    (IsUtf8-append (codes "Fenced: epoch ") (decimal own) (literal-utf8 (codes "Fenced: epoch ") refl) (decimal-utf8 own)) (literal-utf8 (codes ", current ") refl))
    (decimal-utf8 current)
text-utf8 (LineTooLong at) = IsUtf8-append (codes "Line too long at ") (decimal at) (literal-utf8 (codes "Line too long at ") refl) (decimal-utf8 at)

trace-fits : (trace : Option Trace) → IsTrace (option_map trace_text trace)
trace-fits None = tt
trace-fits (Some trace) = text-utf8 trace

-- one that passes a test has what each has
pub any-holds : {X : Type 0} (P : X → Type 0) (test : X → Bool) (xs : List X) → AllByRecursion P xs → list_any test xs ≡ true → (x : X) × (P x × (test x ≡ true))
any-holds P test [] each any = absurd (let never : false ≡ true = any in cc)
any-holds P test (x ∷ xs) each any = elim (or_cases (test x) (list_any test xs) any) [
  | inl here ↦ (x, (each.0, here))
  | inr there ↦ any-holds P test xs each.1 there
]

-- what a worker may report is an item with a name, and the worker is there
reported : (w : ℕ) (item : Item) (s : Cluster) (i : Instance) → IsSoundInstance s i → is_item_at w item i ≡ true → IsItem item × (w < length s.rows)
reported w item s i sound passes =
    let same : i.item ≡ item = (same_item-Decides i.item item).0 (and-second (is_at w i) (same_item i.item item) passes) in
    let at : i.worker ≡ w = (Decides-eqb i.worker w).0 (and-first (i.worker == w) (not (is_ended i.phase)) (and-first (is_at w i) (same_item i.item item) passes)) in
    (subst IsItem same sound.named, omega (arith, at, sound.at_worker))

pub put_status-keeps : (setting : Setting) (w : ℕ) (item : Item) (s : Cluster) → MayReport w item s → AreFacts setting s → AreFacts setting (put_status w item s).1
put_status-keeps setting w item s may f =
    let found = any-holds (IsSoundInstance s) (is_item_at w item) s.instances f.rows.instances may in
    let parts = reported w item s found.0 found.1.0 found.1.1 in
    let status : StatusValue = status_of w (instance_at w item s) s in
    let r : StampedStatus = status_record item status s in
    let few : length s.rows ≤ most_workers = f.rows.few in
    let row : IsSoundRow s (row_of w s) = sound_at s f.rows w in
    let fits : FitsStatus s.statuses r = record {
      above = omega arith;
      item = parts.0;
      value = (trace-fits (instance_at w item s).trace, omega (arith, few, parts.1), row.round);
    } in
    worker-keeps (AreFacts setting) w s _ f (λ live. status-keeps (AreFacts setting) s r _ _ f (λ room.
    reports-keep setting w item status.state (with_status r s) (status-keeps-facts setting r s fits refl room f)))
