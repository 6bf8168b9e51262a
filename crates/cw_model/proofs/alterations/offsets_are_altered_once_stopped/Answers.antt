-- Computed, down to the bytes of each frame.
use Rattle.std.specs.Prelude.{◌≡◌, ℕ, ◌<◌, zero, suc, Option, Some, slice_index_or, refl}
use Rattle.std.specs.Fmt.{digits}
use Rattle.std.specs.List.{IsDistinct}
use Rattle.std.proofs.Common.{arith}
use Rattle.json.specs.Print.{escape_byte}
use Rattle.cw_bytes.specs.Spelling.{word, long, text}
use Rattle.cw_txn.specs.declared.entry.SetOffset.{SetOffset}
use Rattle.cw_txn.specs.Body.{IsSet}
use Rattle.cw_types.specs.Same.{connector_of}
use Rattle.cw_model.specs.Cases.{offset_set, name_s}
use Rattle.cw_model.proofs.alterations.offsets_are_altered_once_stopped.Goals as goal

-- the one part that is set is the connector's
sets_its_own : (to : Option ℕ) (k : ℕ) (d : SetOffset) → k < 1 → connector_of (slice_index_or (offset_set to) k d).part ≡ Some name_s
sets_its_own to zero d within = refl
sets_its_own to (suc k) d within = absurd (omega arith)

-- it and its offset fit their fields
sets_what_fits : (k : ℕ) (d : SetOffset) → k < 1 → IsSet (slice_index_or (offset_set (Some 1)) k d)
sets_what_fits zero d within = ((refl, omega arith), omega arith)
sets_what_fits (suc k) d within = absurd (omega arith)

pub returns-clause-started : goal.returns-clause-started
returns-clause-started c = λ may. let is_stopped = may.stopped in cc

pub returns-clause-stopped : goal.returns-clause-stopped
unfolding word long text escape_byte digits IsDistinct
returns-clause-stopped c = record { leads = refl; stopped = refl; own = sets_its_own (Some 1); distinct = (tt, tt); fit = sets_what_fits }

pub returns-clause-frame : goal.returns-clause-frame
unfolding word long text escape_byte digits
returns-clause-frame c = refl

pub returns-clause-altered : goal.returns-clause-altered
unfolding word long text escape_byte digits
returns-clause-altered c = refl
