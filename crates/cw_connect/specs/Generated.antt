-- What is due where the command `gen` ended: what the run of the script that is made from its number comes to, or why
-- that isn't told. The command is this project's own.
use Rattle.std.specs.Prelude.{◌≡◌, List, ℕ, None, Some}
use Rattle.cw_gen.specs.Summary.{played, summary}
use Rattle.cw_io.specs.Told.{with_back}
use Rattle.cw_io.specs.Written.{IsWrittenInPart}
use Rattle.cw_io.specs.declared.traits.Sink.{Ghosts as Output}
use Rattle.cw_lines.specs.Plays.{Played}
use Rattle.cw_lines.specs.declared.end.DriveEnd.TheVariants as end
use Rattle.cw_model.specs.State.{Cluster}
use Rattle.cw_words.specs.declared.command.GenOptions.{GenOptions}
use Rattle.cw_connect.specs.declared.status.Status.{Status}
use Rattle.cw_connect.specs.declared.status.Status.TheVariants.{Done, Usage, BadScript, TooLong, ReadFault, WriteFault}
use Rattle.cw_connect.specs.declared.status.Status.TheVariants.{StoreFault, Damaged, ShelfFault, OutletFault, NetFault}
use Rattle.cw_connect.specs.declared.status.Status.TheVariants.{Full, Memory, Disagree}

-- the run of the script that the words ask for, over empty logs
abbrev pub run_asked : GenOptions → Played Cluster
run_asked options = played options.shared.group options.shared.delay options.start options.count

-- and what it comes to
abbrev pub summary_asked : GenOptions → List ℕ
summary_asked options = summary options.shared.group options.shared.delay options.start options.count

-- a fact of what the run comes to, which came to its end
pub record IsToldOf (options : GenOptions) (P : List ℕ → Type 0) : Type 0 where
  pub through : (run_asked options).stop ≡ None
  pub holds : P (summary_asked options)

-- The summary was written, or a first part of it. Where a log was full in the run, and for want of memory, nothing was.
abbrev pub IsGenerated : {O : Type 0} → Output O → GenOptions → Status → (out_old out_new : O) → Type 0
IsGenerated o options Done out_old out_new =
    IsToldOf options (λ text. o.held out_new ≡ with_back text (o.held out_old))
IsGenerated o options WriteFault out_old out_new =
    IsToldOf options (λ text. IsWrittenInPart text (o.held out_old) (o.held out_new))
IsGenerated o options (Full log length frame) out_old out_new =
    ((run_asked options).stop ≡ Some (end.Full log length frame)) × (out_new ≡ out_old)
IsGenerated o options Memory out_old out_new = out_new ≡ out_old
IsGenerated o options Usage out_old out_new = ⊥
IsGenerated o options (BadScript line kind) out_old out_new = ⊥
IsGenerated o options (TooLong count) out_old out_new = ⊥
IsGenerated o options ReadFault out_old out_new = ⊥
IsGenerated o options (StoreFault disk count) out_old out_new = ⊥
IsGenerated o options (Damaged disk at harm) out_old out_new = ⊥
IsGenerated o options ShelfFault out_old out_new = ⊥
IsGenerated o options OutletFault out_old out_new = ⊥
IsGenerated o options NetFault out_old out_new = ⊥
IsGenerated o options (Disagree at kept found) out_old out_new = ⊥
