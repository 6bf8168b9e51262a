-- Why a task failed, as its status tells it. The texts are this project's own.
use Rattle.std.specs.Prelude.{ℕ, List, ◌++◌, codes, decimal}

-- a producer with an epoch that isn't its id's last (KIP-618)
abbrev pub fenced_trace : ℕ → ℕ → List ℕ
fenced_trace own current = codes "Fenced: epoch " ++ decimal own ++ codes ", current " ++ decimal current

-- a line of a feed that is too long to be a record
abbrev pub long_line_trace : ℕ → List ℕ
long_line_trace at = codes "Line too long at " ++ decimal at
