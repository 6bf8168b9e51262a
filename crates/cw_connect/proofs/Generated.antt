-- What follows of a script that was made, and ended.
use Rattle.std.proofs.Common.{◌≡◌, ◌⊎◌, ℕ, Option, None, Some, inl, inr, refl, ap, sym}
use Rattle.cw_gen.specs.Summary.{IsSilent, IsTold}
use Rattle.cw_gen.specs.declared.end.GenEnd.{GenEnd}
use Rattle.cw_gen.specs.declared.end.GenEnd.TheVariants as gen
use Rattle.cw_io.specs.Told.{with_back}
use Rattle.cw_io.specs.Written.{IsWrittenInPart}
use Rattle.cw_io.specs.declared.traits.Sink.{Ghosts as Output}
use Rattle.cw_lines.specs.declared.end.DriveEnd.{DriveEnd}
use Rattle.cw_lines.specs.declared.end.DriveEnd.TheVariants as end
use Rattle.cw_types.specs.declared.logs.LogName.{LogName}
use Rattle.cw_words.specs.declared.command.GenOptions.{GenOptions}
use Rattle.cw_connect.specs.Generated.{IsGenerated, run_asked, summary_asked}
use Rattle.cw_connect.specs.Statuses.{status_of_gen, status_of_stop}
use Rattle.cw_connect.specs.declared.status.Status.TheVariants.{WriteFault, Memory}

module _ {O : Type 0} (o : Output O) (options : GenOptions) (old new : O) where
  pub generated : (e : GenEnd) → (e ≡ gen.Done → o.held new ≡ with_back (summary_asked options) (o.held old)) → (e ≡ gen.WriteFault → IsWrittenInPart (summary_asked options) (o.held old) (o.held new)) →
      (IsSilent e → new ≡ old) → (IsTold e → (run_asked options).stop ≡ None) → ((log : LogName) (length frame : ℕ) → e ≡ gen.Full log length frame → (run_asked options).stop ≡ Some (end.Full log length frame)) →
      IsGenerated o options (status_of_gen e) old new
  generated gen.Done done part silent through full = record { through = through tt; holds = done refl }
  generated gen.WriteFault done part silent through full = record { through = through tt; holds = part refl }
  generated (gen.Full log length frame) done part silent through full = (full log length frame refl, silent tt)
  generated gen.Memory done part silent through full = silent tt

-- a write that failed is told
pub is_write : (e : GenEnd) → status_of_gen e ≡ WriteFault → e ≡ gen.WriteFault
is_write gen.WriteFault is = refl
is_write gen.Done is = cc
is_write (gen.Full log length frame) is = cc
is_write gen.Memory is = cc

-- where writing doesn't fail, the status is that of the run's end, unless memory is wanting
pub told_as_run : (stop : Option DriveEnd) (e : GenEnd) → (IsTold e → stop ≡ None) → ((log : LogName) (length frame : ℕ) → e ≡ gen.Full log length frame → stop ≡ Some (end.Full log length frame)) →
    (e ≡ gen.WriteFault → ⊥) → (status_of_gen e ≡ status_of_stop stop) ⊎ (status_of_gen e ≡ Memory)
told_as_run stop gen.Done through full calm = inl (sym (ap status_of_stop (through tt)))
told_as_run stop gen.WriteFault through full calm = absurd (calm refl)
told_as_run stop (gen.Full log length frame) through full calm = inl (sym (ap status_of_stop (full log length frame refl)))
told_as_run stop gen.Memory through full calm = inr refl
