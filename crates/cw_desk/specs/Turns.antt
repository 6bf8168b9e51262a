-- A turn: a call of Connect's REST API through a worker is answered, and an entry of it is kept in the journal, with
-- how much of the session lists its reply saw. This project's own, as is the journal.
use Rattle.std.specs.Prelude.{◌≡◌, ℕ, false, length, Result, Ok, Err}
use Rattle.std.specs.declared.alloc.AllocError.{AllocError}
use Rattle.cw_disk.specs.declared.device.Disk.{Ghosts}
use Rattle.cw_route.specs.declared.call.Call.{Call}
use Rattle.cw_route.specs.declared.reply.Reply.{Reply}
use Rattle.cw_rest.specs.Calls.{deed_of}
use Rattle.cw_model.specs.declared.fault.WorldFault.{WorldFault}
use Rattle.cw_model.specs.declared.journal.JournalEntry.{JournalEntry}
use Rattle.cw_model.specs.State.{Cluster}
use Rattle.cw_model.specs.Lookups.{list_end}
use Rattle.cw_model.specs.Journal.{journal, prefix_for}
use Rattle.cw_ops.specs.Faults.{fault_reply}
use Rattle.cw_world.specs.Receipts.{ReceiptState}
use Rattle.cw_world.specs.World.{WorldState}
use Rattle.cw_herder.specs.Submits.{Submits}
use Rattle.cw_desk.specs.declared.lengths.Lengths.{Lengths}

-- ---- the entry of a call

-- what a call is told: its reply, or that of the fault
abbrev pub told : Result Reply WorldFault → Reply
told (Ok reply) = reply
told (Err fault) = fault_reply fault

-- which state a call saw: the one that it found where it was answered, else the one that it left
abbrev pub seen_state : Result Reply WorldFault → (found left : Cluster) → Cluster
seen_state (Ok reply) found left = found
seen_state (Err fault) found left = left

-- how much a call sees of the session lists
abbrev pub lengths_in : ℕ → Call → Cluster → Lengths
lengths_in w call s = record {
  prefix = prefix_for (deed_of call) w s;
  statuses = length s.statuses;
  entries = list_end s.entries;
}

-- the entry of a call that saw as much
abbrev pub entry_with : ℕ → Call → Reply → Lengths → JournalEntry
entry_with w call reply lengths = record {
  worker = w;
  board = false;
  prefix = lengths.prefix;
  statuses = lengths.statuses;
  entries = lengths.entries;
  call = call;
  reply = reply;
}

-- the entry of a call that saw a state
abbrev pub entry_in : ℕ → Call → Reply → Cluster → JournalEntry
entry_in w call reply s = entry_with w call reply (lengths_in w call s)

-- the entry of a call behind its answer
abbrev pub entry_of : ℕ → Call → Result Reply WorldFault → (found left : Cluster) → JournalEntry
entry_of w call answer found left = entry_in w call (told answer) (seen_state answer found left)

-- an entry of a call that found these lengths
abbrev pub IsEntryOf : ℕ → Call → (found : Lengths) → Result Reply WorldFault → (left : Cluster) → JournalEntry → Type 0
IsEntryOf w call found answer left entry =
    (s : Cluster) → found ≡ lengths_in w call s → entry ≡ entry_of w call answer s left

-- ---- the turn

-- it is kept, and its receipt tells where; or memory is wanting, and nothing is kept
abbrev pub Keeps : {D : Type 0} → JournalEntry → (left new : WorldState D) → Result ReceiptState AllocError → Type 0
Keeps entry left new (Ok receipt) =
    (receipt ≡ record { number = length left.state.journal; entry = entry; name = left.name })
    × (new ≡ record left { state = (journal entry left.state).1 })
Keeps entry left new (Err wanting) = new ≡ left

-- the call is submitted, and its entry kept
pub record IsTurn {D : Type 0} (G : Ghosts D) (w : ℕ) (call : Call) (old new : WorldState D)
    (result : Result ReceiptState AllocError) : Type 0 where
  pub left : WorldState D
  pub answer : Result Reply WorldFault
  pub submits : Submits G w call old left answer
  pub keeps : Keeps (entry_of w call answer old.state left.state) left new result
