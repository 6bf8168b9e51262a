-- What a compaction has left is put in: the state is the one behind the event.
use Rattle.std.proofs.Common.{◌≡◌, ℕ, ◌+◌, ◌-◌, ◌<◌, ◌^◌, true, length, nat_lt, Bool, if◌then◌else◌, None, Option, refl, ap, ◌∙◌, arith}
use Rattle.std.specs.List.{flat_map}
use Rattle.std.proofs.lemmas.Bool.Decides.{nat_tests}
use Rattle.cw_types.specs.declared.logs.LogName.TheVariants.{Config, Offsets, Status}
use Rattle.cw_types.specs.declared.logs.DiskName.{DiskName}
use Rattle.cw_compact.specs.Left.{AreLeft}
use Rattle.cw_compact.specs.declared.left.LeftRecords.{LeftRecords}
use Rattle.cw_config.specs.Compaction.{compact_configs}
use Rattle.cw_status.specs.Compaction.{compact_statuses}
use Rattle.cw_offset.specs.Compaction.{compact_offsets}
use Rattle.cw_model.specs.State.{Cluster}
use Rattle.cw_model.specs.Answers.{Answer, answered, at_open, unless_closed}
use Rattle.cw_bytes.specs.Frames.{joined}
use Rattle.cw_offset.specs.Log.{offset_records}
use Rattle.cw_model.specs.EventsCompaction.{compact, compacts}
use Rattle.cw_rows.specs.Kept.{Kept}
use Rattle.cw_topics.specs.Left.{LeftLog, IsLeftLog}
use Rattle.cw_rows.specs.Writes.{Puts}

fresh : (n side : ℕ) → side ≡ n + 1 → side < 2 ^ 64 → nat_lt n (2 ^ 64 - 1) ≡ true
fresh n side is small = grind (arith, nat_tests, is, small)

at-none : {A : Type 0} (event : Cluster → Answer A) (s : Cluster) → s.closed ≡ None → at_open event s ≡ event s
at-none {A} event s alive = ap (λ (closed : Option (DiskName × ℕ)). unless_closed closed (event s) s) alive

turn-next : {A : Type 0} (done worn : Answer A) (side : ℕ) → nat_lt side (2 ^ 64 - 1) ≡ true → (if nat_lt side (2 ^ 64 - 1) then done else worn) ≡ done
turn-next done worn side next = ap (λ (b : Bool). if b then done else worn) next

configs-row : (s : Cluster) → s.closed ≡ None → nat_lt s.config.side (2 ^ 64 - 1) ≡ true →
    compact Config s ≡ answered (length (joined (s.config.frames)), length (joined (compact_configs s.config.frames))) (record s { config = record { frames = compact_configs s.config.frames; side = s.config.side + 1 } })
configs-row s alive next = at-none (compacts Config) s alive ∙ turn-next _ _ s.config.side next

pub configs-put : (old new : Kept) (left : LeftRecords) (side : ℕ) → AreLeft old.state.config.frames (compact_configs old.state.config.frames) left →
    side ≡ old.state.config.side + 1 → side < 2 ^ 64 → old.state.closed ≡ None → new.setting ≡ old.setting →
    new.state ≡ record (old.state) { config = record { frames = left.frames; side = side } } → Puts (compact Config) (left.before, left.after) old new
configs-put old new left side are is small alive setting state = record {
  row = configs-row old.state alive (fresh old.state.config.side side is small) ∙ rw (state, are.frames_are, are.before_is, are.after_is, is) refl;
  setting = setting;
  closed = ap (λ (s : Cluster). s.closed) state;
}

statuses-row : (s : Cluster) → s.closed ≡ None → nat_lt s.status.side (2 ^ 64 - 1) ≡ true →
    compact Status s ≡ answered (length (joined (s.status.frames)), length (joined (compact_statuses s.status.frames))) (record s { status = record { frames = compact_statuses s.status.frames; side = s.status.side + 1 } })
statuses-row s alive next = at-none (compacts Status) s alive ∙ turn-next _ _ s.status.side next

pub statuses-put : (old new : Kept) (left : LeftRecords) (side : ℕ) → AreLeft old.state.status.frames (compact_statuses old.state.status.frames) left →
    side ≡ old.state.status.side + 1 → side < 2 ^ 64 → old.state.closed ≡ None → new.setting ≡ old.setting →
    new.state ≡ record (old.state) { status = record { frames = left.frames; side = side } } → Puts (compact Status) (left.before, left.after) old new
statuses-put old new left side are is small alive setting state = record {
  row = statuses-row old.state alive (fresh old.state.status.side side is small) ∙ rw (state, are.frames_are, are.before_is, are.after_is, is) refl;
  setting = setting;
  closed = ap (λ (s : Cluster). s.closed) state;
}

offsets-row : (s : Cluster) → s.closed ≡ None → nat_lt s.offsets.side (2 ^ 64 - 1) ≡ true →
    compact Offsets s ≡ answered (length (flat_map offset_records (s.offsets.frames)), length (flat_map offset_records (compact_offsets s.entries s.offsets.frames))) (record s { offsets = record { frames = compact_offsets s.entries s.offsets.frames; side = s.offsets.side + 1 } })
offsets-row s alive next = at-none (compacts Offsets) s alive ∙ turn-next _ _ s.offsets.side next

pub offsets-put : (old new : Kept) (left : LeftLog) (side : ℕ) → IsLeftLog old.state.offsets.frames (compact_offsets old.state.entries old.state.offsets.frames) left →
    side ≡ old.state.offsets.side + 1 → side < 2 ^ 64 → old.state.closed ≡ None → new.setting ≡ old.setting →
    new.state ≡ record (old.state) { offsets = record { frames = left.frames; side = side } } → Puts (compact Offsets) (left.before, left.after) old new
offsets-put old new left side are is small alive setting state = record {
  row = offsets-row old.state alive (fresh old.state.offsets.side side is small) ∙ rw (state, are.frames_are, are.before_is, are.after_is, is) refl;
  setting = setting;
  closed = ap (λ (s : Cluster). s.closed) state;
}
