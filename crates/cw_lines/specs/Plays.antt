-- How a script is played line by line, over any state and by any player of a whole line. This project's own format.
use Rattle.std.specs.Prelude.{◌≡◌, ℕ, ◌+◌, Bool, true, false, List, [], ◌∷◌, ◌++◌, length, take, nat_lt, if◌then◌else◌}
use Rattle.std.specs.Prelude.{Option, Some, None, get_or}
use Rattle.cw_lines.specs.declared.end.DriveEnd.{DriveEnd}
use Rattle.cw_lines.specs.declared.end.DriveEnd.TheVariants.{TooLong}
use Rattle.cw_lines.specs.Lines.{lines_of}

-- a script has at most so many lines
abbrev pub most_lines : ℕ
most_lines = 1000000

-- and a line so many bytes, its end not counted
abbrev pub most_bytes : ℕ
most_bytes = 65536

-- how far a script went: the text of its answers, the state behind it, and how a line ended it early
pub record Played (S : Type 0) : Type 0 where
  pub text : List ℕ
  pub store : S
  pub stop : Option DriveEnd

-- what plays a whole line, by its number
abbrev pub LinePlayer : Type 0 → Type 0
LinePlayer S = ℕ → List ℕ → S → Played S

-- nothing happens
abbrev pub passed : {S : Type 0} → S → Played S
passed state = record { text = []; store = state; stop = None }

-- the script ends here
abbrev pub stopped : {S : Type 0} → DriveEnd → S → Played S
stopped end state = record { text = []; store = state; stop = Some end }

-- with a text in front
abbrev pub with_front : {S : Type 0} → List ℕ → Played S → Played S
with_front text played = record played { text = text ++ played.text }

-- one thing after another, unless the first ends the script
abbrev pub goes_on : {S : Type 0} → Option DriveEnd → List ℕ → S → (S → Played S) → Played S
goes_on (Some end) text state next = record { text = text; store = state; stop = Some end }
goes_on None text state next = with_front text (next state)

abbrev pub behind : {S : Type 0} → Played S → (S → Played S) → Played S
behind played next = goes_on played.stop played.text played.store next

-- a line that begins, within the limits
abbrev pub within_limits : {S : Type 0} → ℕ → List ℕ → S → Played S → Played S
within_limits number line state played =
    if nat_lt most_lines number then stopped (TooLong (most_lines + 1)) state else
    if nat_lt most_bytes (length line) then stopped (TooLong (most_bytes + 1)) state else played

-- a player of lines within the limits, as one of all lines
abbrev pub limited : {S : Type 0} → LinePlayer S → LinePlayer S
limited does number line state = within_limits number line state (does number line state)

-- the line behind the last line end: nothing, a line that has begun, or at the end of the input a whole line
unfoldable pub play_last : {S : Type 0} → LinePlayer S → Bool → ℕ → List ℕ → S → Played S
play_last player ended number [] state = passed state
play_last player true number (c ∷ cs) state = player number (c ∷ cs) state
play_last player false number (c ∷ cs) state = within_limits number (c ∷ cs) state (passed state)

-- all lines, from that number on
unfoldable pub play : {S : Type 0} → LinePlayer S → Bool → ℕ → List (List ℕ) → S → Played S
play player ended number [] state = passed state
play player ended number (line ∷ []) state = play_last player ended number line state
play player ended number (line ∷ next ∷ lines) state =
    behind (player number line state) (λ after. play player ended (number + 1) (next ∷ lines) after)

-- a whole script
abbrev pub run : {S : Type 0} → LinePlayer S → S → List ℕ → Played S
run player state bytes = play player true 1 (lines_of bytes) state

-- a script of which so much was read
abbrev pub run_so_far : {S : Type 0} → LinePlayer S → S → List ℕ → Played S
run_so_far player state bytes = play player false 1 (lines_of bytes) state

-- the first lines of a script
abbrev pub behind_lines : {S : Type 0} → LinePlayer S → ℕ → List ℕ → S → Played S
behind_lines player k bytes state = play player true 1 (take k (lines_of bytes)) state

-- the line behind so many
abbrev pub line_behind : ℕ → List ℕ → List ℕ
line_behind k bytes = get_or (lines_of bytes) k []

-- a text that begins another
pub record IsPrefix (part whole : List ℕ) : Type 0 where
  pub rest : List ℕ
  pub split : whole ≡ part ++ rest
