-- What a line of a script says, and the first fault of a line that says nothing.
use Rattle.std.specs.Prelude.{ℕ, ◌==◌, ◌^◌, ◌-◌, Bool, true, false, List, [], ◌∷◌, length, codes, nat_lt, Option, Some}
use Rattle.std.specs.Prelude.{None, Result, Ok, Err, ok_or, bytes_eq, if◌then◌else◌}
use Rattle.std.specs.List.{find}
use Rattle.cw_types.specs.Decimal.{number_of}
use Rattle.cw_types.specs.Name.{name_of}
use Rattle.cw_types.specs.declared.logs.LogName.{LogName}
use Rattle.cw_types.specs.declared.logs.LogName.TheVariants.{Config, Offsets, Status}
use Rattle.cw_script.specs.declared.directive.Directive.{Directive}
use Rattle.cw_script.specs.declared.fault.LineKind.{LineKind}
use Rattle.cw_script.specs.declared.fault.LineKind.TheVariants.{NoWord, Count, Number, BadName}
use Rattle.cw_script.specs.Words.{words, joined}
use Rattle.cw_script.specs.Pairs.{is_pair_count, pairs_of}
use Rattle.cw_script.specs.Table.{Place, number32, number64, limit, name, log, text, End, nothing, pairs, body, ValueOf}
use Rattle.cw_script.specs.Table.{Maker, Row, table}

-- what is made of a value; the first fault stays
abbrev pub after : {A B : Type 0} → Result A LineKind → (A → Result B LineKind) → Result B LineKind
after (Ok x) next = next x
after (Err kind) next = Err kind

-- a number from 1 to 1,000,000
abbrev pub limit_of : Option ℕ → Option ℕ
limit_of None = None
limit_of (Some n) = if n == 0 then None else if nat_lt 1000000 n then None else Some n

-- the logs that are compacted
abbrev pub log_of : List ℕ → Option LogName
log_of word =
    if bytes_eq word (codes "config") then Some Config else
    if bytes_eq word (codes "offsets") then Some Offsets else
    if bytes_eq word (codes "status") then Some Status else None

-- what a word says at its place
abbrev pub value_of : (place : Place) → List ℕ → Result (ValueOf place) LineKind
value_of number32 word = ok_or (number_of (2 ^ 32 - 1) word) Number
value_of number64 word = ok_or (number_of (2 ^ 64 - 1) word) Number
value_of limit word = ok_or (limit_of (number_of (2 ^ 64 - 1) word)) Number
value_of name word = ok_or (name_of word) BadName
value_of log word = ok_or (log_of word) BadName
value_of text word = Ok word

-- the value of the one word that may stand there
abbrev pub only : (place : Place) → List (List ℕ) → Result (ValueOf place) LineKind
only place [] = Err Count
only place (w ∷ []) = value_of place w
only place (w ∷ v ∷ ws) = Err Count

-- whether so many words may stand there
abbrev pub fits : List Place → End → List (List ℕ) → Bool
fits [] nothing [] = true
fits [] nothing (w ∷ ws) = false
fits [] pairs ws = is_pair_count (length ws)
fits [] body ws = true
fits (place ∷ places) end [] = false
fits (place ∷ places) end (w ∷ ws) = fits places end ws

-- what the words say, judged from left to right
abbrev pub read : (places : List Place) (end : End) → Maker places end → List (List ℕ) → Result Directive LineKind
read [] nothing make ws = Ok make
read [] pairs make ws = after (ok_or (pairs_of ws) Number) (λ found. Ok (make found))
read [] body make ws = Ok (make (joined ws))
read (place ∷ places) end make [] = Err Count
read (place ∷ places) end make (w ∷ ws) = after (value_of place w) (λ value. read places end (make value) ws)

-- what the words behind a directive's word say: their number is judged first
abbrev pub said : Row → List (List ℕ) → Result Directive LineKind
said row ws = if fits row.places row.end ws then read row.places row.end row.make ws else Err Count

-- the same behind a word that may be no directive's
abbrev pub said_by : Option Row → List (List ℕ) → Result Directive LineKind
said_by None ws = Err NoWord
said_by (Some row) ws = said row ws

-- what words say: the first is a directive's
abbrev pub directive_of : List (List ℕ) → Result Directive LineKind
directive_of [] = Err NoWord
directive_of (word ∷ ws) = said_by (find (λ row. bytes_eq word row.word) table) ws

abbrev pub some_directive : Result Directive LineKind → Result (Option Directive) LineKind
some_directive (Ok directive) = Ok (Some directive)
some_directive (Err kind) = Err kind

-- what a line says: an empty one, and one that begins with `#`, is passed over
abbrev pub line_of : List ℕ → Result (Option Directive) LineKind
line_of [] = Ok None
line_of (c ∷ cs) = if c == 35 then Ok None else some_directive (directive_of (words (c ∷ cs)))
