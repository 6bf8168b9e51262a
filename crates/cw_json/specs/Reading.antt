-- Which JSON value and which properties a text stands for (RFC 8259, as serde_json reads it).
use Rattle.std.specs.Prelude.{ℕ, List, Option, Some, None, Result, Err, if◌then◌else◌}
use Rattle.std.specs.Str.{is_utf8}
use Rattle.serde_json.specs.Data.{Data}
use Rattle.serde_json.specs.Read.{read}
use Rattle.cw_json.specs.Props.{props_of_data}
use Rattle.cw_json.specs.declared.fault.JsonFault.{JsonFault}
use Rattle.cw_json.specs.declared.fault.JsonFault.TheVariants.{NotJson}

-- the value that a text is; bytes that aren't UTF-8 are none
abbrev pub reading : List ℕ → Option Data
reading text = if is_utf8 text then read text else None

-- the properties of the value that was read
abbrev pub props_of_reading : Option Data → Result (List (List ℕ × List ℕ)) JsonFault
props_of_reading None = Err NotJson
props_of_reading (Some d) = props_of_data d

-- the properties that a text stands for
abbrev pub props_of_text : List ℕ → Result (List (List ℕ × List ℕ)) JsonFault
props_of_text text = props_of_reading (reading text)
