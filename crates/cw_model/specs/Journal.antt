-- The journal of the calls that were answered: what a reply saw, when an entry is true, and the event that keeps one.
-- Kafka Connect has no such journal: it is this project's own, and by it a reader's replies never go back, and hold
-- what the reader wrote.
use Rattle.std.specs.Prelude.{◌≡◌, ◌⊎◌, ◌<◌, ◌≤◌, ℕ, ◌&&◌, ◌==◌, Bool, true, false, List, [], ◌∷◌, ◌++◌, length, map}
use Rattle.std.specs.Prelude.{take, drop, nat_le, nat_lt, IsSome, if◌then◌else◌}
use Rattle.std.specs.Option.{option_map_or}
use Rattle.std.specs.List.{AllByRecursion}
use Rattle.cw_types.specs.declared.ids.Tid.TheVariants.{Lead}
use Rattle.cw_types.specs.declared.logs.LogName.TheVariants.{Config, Txn}
use Rattle.cw_io.specs.Shelf.{names_of}
use Rattle.cw_route.specs.declared.reply.Reply.{Reply}
use Rattle.cw_rest.specs.Seen.{Seen}
use Rattle.cw_rest.specs.Calls.{Deed, reads_configs, writes_configs, writes_offsets, deed_of, is_reading}
use Rattle.cw_rest.specs.Messages.{memory_reply, full_reply, failed_reply}
use Rattle.cw_rest.specs.Replies.{reply_to, values_of, entries_of}
use Rattle.cw_model.specs.declared.journal.JournalEntry.{JournalEntry}
use Rattle.cw_model.specs.State.{Setting, Cluster}
use Rattle.cw_bytes.specs.Frames.{EachFrom}
use Rattle.cw_model.specs.Lookups.{row_of, last_epoch, list_end}
use Rattle.cw_model.specs.Answers.{Answer, answered}
use Rattle.cw_model.specs.Updates.{stamped, fits_configs, fits_entries, epoch_in}
use Rattle.cw_model.specs.Ready.{ready}

-- ---- what an entry saw and did

-- what the reply saw: the prefixes of its lengths
abbrev pub seen_by : Setting → Cluster → JournalEntry → Seen
seen_by setting s e = record {
  configs = take e.prefix s.configs;
  statuses = map (λ r. r.status) (take e.statuses s.statuses);
  entries = take e.entries s.entries;
  feeds = names_of setting.feeds;
}

-- whether a reply is a success
abbrev pub is_success : Reply → Bool
is_success reply = nat_le 200 reply.code && nat_lt reply.code 300

-- what an entry did: one that writes wrote where its reply is a success
pub record WroteConfigs (e : JournalEntry) : Type 0 where
  pub deed : deed_of e.call ≡ writes_configs
  pub success : is_success e.reply ≡ true

pub record WroteOffsets (e : JournalEntry) : Type 0 where
  pub deed : deed_of e.call ≡ writes_offsets
  pub success : is_success e.reply ≡ true

-- it only read, under the lock
pub record OnlyRead (e : JournalEntry) : Type 0 where
  pub deed : is_reading (deed_of e.call) ≡ true
  pub locked : e.board ≡ false

-- ---- the truth of an entry

-- the reply is the right one, whether the worker was ready or not; or it tells that memory ran out, that a log is full
-- or, in a closed cluster, that a disk failed
pub record IsRightReply (setting : Setting) (s : Cluster) (e : JournalEntry) : Type 0 where
  pub ready : Bool
  pub is : e.reply ≡ reply_to ready (seen_by setting s e) e.call

abbrev pub IsTrueReply : Setting → Cluster → JournalEntry → Type 0
IsTrueReply setting s e =
    IsRightReply setting s e ⊎ ((e.reply ≡ memory_reply) ⊎ ((e.reply ≡ full_reply Config) ⊎
    ((e.reply ≡ full_reply Txn) ⊎ (IsSome s.closed × (e.reply ≡ failed_reply)))))

-- what was written stands from a place on
abbrev pub StandsFrom : {A : Type 0} → ℕ → List A → List A → Type 0
StandsFrom place part whole = take (length part) (drop place whole) ≡ part

-- an entry that was read from a published view reads configs, and sees nothing else
pub record IsOfBoard (e : JournalEntry) : Type 0 where
  pub deed : deed_of e.call ≡ reads_configs
  pub statuses : e.statuses ≡ 0
  pub entries : e.entries ≡ 0

-- an entry of a worker goes on behind an earlier one of that worker: what was read stays read, and what was written is
-- seen
pub record GoesOnBehind (e earlier : JournalEntry) : Type 0 where
  pub prefix : OnlyRead earlier → OnlyRead e → earlier.prefix ≤ e.prefix
  pub statuses : OnlyRead earlier → OnlyRead e → earlier.statuses ≤ e.statuses
  pub entries : OnlyRead earlier → OnlyRead e → earlier.entries ≤ e.entries
  pub configs : WroteConfigs earlier → e.board ≡ false → earlier.prefix < e.prefix
  pub offsets : WroteOffsets earlier → e.board ≡ false → earlier.entries < e.entries

-- an entry is true behind those before it
pub record IsTrueEntry (setting : Setting) (s : Cluster) (before : List JournalEntry) (e : JournalEntry) : Type 0 where
  pub reply : IsTrueReply setting s e
  -- it saw no more than there is, nor more configs than its worker has read
  pub prefix : e.prefix ≤ length s.configs
  pub statuses : e.statuses ≤ length s.statuses
  pub entries : e.entries ≤ list_end s.entries
  pub reader : is_reading (deed_of e.call) ≡ true → e.prefix ≤ (row_of e.worker s).prefix
  pub board : e.board ≡ true → IsOfBoard e
  -- what it wrote stands from where it looked
  pub values : WroteConfigs e →
      StandsFrom e.prefix (values_of e.call) (map (λ r. (r.key, r.value)) s.configs)
  pub offsets : WroteOffsets e → StandsFrom e.entries (entries_of (seen_by setting s e) e.call) s.entries
  -- and its worker, or the transaction list, is past that
  pub reread : WroteConfigs e → e.prefix < (row_of e.worker s).prefix
  pub relisted : WroteOffsets e → e.entries < list_end s.entries
  pub behind : AllByRecursion (λ b. b.worker ≡ e.worker → GoesOnBehind e b) before

-- each entry of the journal is true
abbrev pub IsTrueJournal : Setting → Cluster → Type 0
IsTrueJournal setting s = EachFrom (IsTrueEntry setting s) [] s.journal

-- ---- the event

-- the journal gets an entry: the answer is its number. It does so in a closed cluster, too
abbrev pub journal : JournalEntry → Cluster → Answer ℕ
journal e s = answered (length s.journal) (record s { journal = s.journal ++ e ∷ [] })

-- how much of the config log a call sees: one that reads as much as its worker has read, another all
abbrev pub prefix_for : Deed → ℕ → Cluster → ℕ
prefix_for deed w s = if is_reading deed then (row_of w s).prefix else length s.configs

-- an entry has the lengths that its kind of call has in this state
pub record SeesAsOfNow (s : Cluster) (e : JournalEntry) : Type 0 where
  pub locked : e.board ≡ false
  pub prefix : e.prefix ≡ prefix_for (deed_of e.call) e.worker s
  pub statuses : e.statuses ≡ length s.statuses
  pub entries : e.entries ≡ list_end s.entries

-- whether a worker may write: there is a leader for it, whose epoch is the last one
abbrev pub is_ready : ℕ → Cluster → Bool
is_ready w s = option_map_or (λ leader. epoch_in (row_of leader s).lead == last_epoch Lead s) (ready w s) false

-- the reply is the right one in this state, as far as the worker may write in it
abbrev pub IsReplyOfNow : Setting → Cluster → JournalEntry → Type 0
IsReplyOfNow setting s e = e.reply ≡ reply_to (is_ready e.worker s) (seen_by setting s e) e.call

-- what a call would write finds no room in its log
pub record FindsConfigsFull (s : Cluster) (e : JournalEntry) : Type 0 where
  pub deed : deed_of e.call ≡ writes_configs
  pub full : fits_configs (stamped (values_of e.call) s) s ≡ false
  pub reply : e.reply ≡ full_reply Config

pub record FindsOffsetsFull (setting : Setting) (s : Cluster) (e : JournalEntry) : Type 0 where
  pub deed : deed_of e.call ≡ writes_offsets
  pub full : fits_entries (entries_of (seen_by setting s e) e.call) s ≡ false
  pub reply : e.reply ≡ full_reply Txn

-- a call that wrote nothing was answered by what is now: rightly, or that a log is full, that memory ran out or, in a
-- closed cluster, that a disk failed
pub record IsAnsweredNow (setting : Setting) (s : Cluster) (e : JournalEntry) : Type 0 where
  pub sees : SeesAsOfNow s e
  pub no_configs : WroteConfigs e → ⊥
  pub no_offsets : WroteOffsets e → ⊥
  pub reply : IsReplyOfNow setting s e ⊎ (FindsConfigsFull s e ⊎ (FindsOffsetsFull setting s e ⊎
      ((e.reply ≡ memory_reply) ⊎ (IsSome s.closed × (e.reply ≡ failed_reply)))))

-- what may be kept: a call that wrote nothing, by what is now; one that wrote, or one that was read from a published
-- view, where it is true
abbrev pub MayJournal : Setting → JournalEntry → Cluster → Type 0
MayJournal setting e s = IsAnsweredNow setting s e ⊎
    (((WroteConfigs e ⊎ WroteOffsets e) ⊎ (e.board ≡ true)) × IsTrueEntry setting s s.journal e)
