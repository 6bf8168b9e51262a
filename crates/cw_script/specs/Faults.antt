-- How the fault of a line is told.
use Rattle.std.specs.Prelude.{◌≡◌, ℕ, List, codes, Option, Result, Err}
use Rattle.cw_script.specs.declared.directive.Directive.{Directive}
use Rattle.cw_script.specs.declared.fault.LineKind.{LineKind}
use Rattle.cw_script.specs.declared.fault.LineKind.TheVariants.{NoWord, Count, Number, NoWorker, NoInstance, BadName}
use Rattle.cw_script.specs.declared.fault.ScriptFault.{ScriptFault}
use Rattle.cw_script.specs.declared.fault.ScriptFault.TheVariants.{BadLine, Memory}

-- a fault names this line, and the kind that the line's reading has; want of memory says nothing of it
abbrev pub TellsFault : ℕ → Result (Option Directive) LineKind → ScriptFault → Type 0
TellsFault number reading (BadLine line kind) = (line ≡ number) × (reading ≡ Err kind)
TellsFault number reading Memory = Unit {0}

-- the text of a kind
abbrev pub kind_text : LineKind → List ℕ
kind_text NoWord = codes "NoWord"
kind_text Count = codes "Count"
kind_text Number = codes "Number"
kind_text NoWorker = codes "NoWorker"
kind_text NoInstance = codes "NoInstance"
kind_text BadName = codes "BadName"
