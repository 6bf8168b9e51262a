-- What an instance is in each phase, as a table with a column for each question that is asked of a phase (KIP-618: a
-- source task initialises its producer, verifies its generation, fetches its positions, and then polls, produces,
-- stores offsets and commits).
use Rattle.std.specs.Prelude.{◌&&◌, ◌||◌, Bool, true, false, not}
use Rattle.cw_model.specs.declared.instance.InstancePhase.{InstancePhase}
use Rattle.cw_model.specs.declared.instance.InstancePhase.TheVariants.{Connector, New, Inited, Verified, Polling}
use Rattle.cw_model.specs.declared.instance.InstancePhase.TheVariants.{Produced, Offered, Delivered, Failed, Ended}

pub record PhaseRow : Type 0 where
  -- it is a task at work: from its start on, and neither failed nor ended
  pub working : Bool
  -- it has the epoch of its producer, and hasn't fetched its positions
  pub starting : Bool
  -- it may write: its generation was found to be the newest, and it hasn't failed or ended since
  pub verified : Bool
  -- it has also fetched its positions
  pub fetched : Bool
  -- its batch stands in the data log and isn't committed yet
  pub in_transaction : Bool
  -- it took something that isn't settled: a batch that isn't committed, or records whose offset isn't stored
  pub cut : Bool
  -- it failed, or it ended
  pub failed : Bool
  pub ended : Bool

-- a row, column by column
abbrev pub row : (working starting verified fetched in_transaction cut failed ended : Bool) → PhaseRow
row working starting verified fetched in_transaction cut failed ended = record {
  working = working;
  starting = starting;
  verified = verified;
  fetched = fetched;
  in_transaction = in_transaction;
  cut = cut;
  failed = failed;
  ended = ended;
}

-- the table: working, starting, verified, fetched, in a transaction, with a cut, failed, ended
abbrev pub phase_row : InstancePhase → PhaseRow
phase_row Connector = row false false false false false false false false
phase_row New = row true false false false false false false false
phase_row Inited = row true true false false false false false false
phase_row Verified = row true true true false false false false false
phase_row Polling = row true false true true false false false false
phase_row Produced = row true false true true true true false false
phase_row Offered = row true false true true true true false false
phase_row Delivered = row true false true true false true false false
phase_row Failed = row false false false false false false true false
phase_row Ended = row false false false false false false false true

abbrev pub is_working : InstancePhase → Bool
is_working phase = (phase_row phase).working

abbrev pub is_starting : InstancePhase → Bool
is_starting phase = (phase_row phase).starting

abbrev pub is_verified : InstancePhase → Bool
is_verified phase = (phase_row phase).verified

abbrev pub is_fetched : InstancePhase → Bool
is_fetched phase = (phase_row phase).fetched

abbrev pub has_open_transaction : InstancePhase → Bool
has_open_transaction phase = (phase_row phase).in_transaction

abbrev pub has_cut : InstancePhase → Bool
has_cut phase = (phase_row phase).cut

abbrev pub has_failed : InstancePhase → Bool
has_failed phase = (phase_row phase).failed

abbrev pub is_ended : InstancePhase → Bool
is_ended phase = (phase_row phase).ended

-- whether it has its epoch
abbrev pub has_epoch : InstancePhase → Bool
has_epoch phase = is_starting phase || is_verified phase

-- whether a task may pause: it is at work, and has nothing in hand
abbrev pub may_pause : InstancePhase → Bool
may_pause phase = is_working phase && not (has_cut phase)
