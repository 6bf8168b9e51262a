-- Numbers in properties: decimal, with no sign and no leading zero. The bounds are this project's own.
use Rattle.std.specs.Prelude.{ℕ, ◌-◌, ◌^◌, nat_lt, List, Option, Some, None, codes, if◌then◌else◌}
use Rattle.cw_types.specs.Decimal.{number_of}
use Rattle.cw_json.specs.Pairs.{value_in}

-- a number, if it is one from `least` to `most`
abbrev pub within : ℕ → ℕ → Option ℕ → Option ℕ
within least most None = None
within least most (Some n) = if nat_lt n least then None else if nat_lt most n then None else Some n

-- the number from `least` to `most` that a text is, below 2^32
abbrev pub number_in : ℕ → ℕ → List ℕ → Option ℕ
number_in least most text = within least most (number_of (2 ^ 32 - 1) text)

-- the value of a property that may be lacking and then has a default
abbrev pub or_default : ℕ → ℕ → ℕ → Option (List ℕ) → Option ℕ
or_default least most default None = Some default
or_default least most default (Some text) = number_in least most text

-- how many tasks there may be: 1 to 1,000, by default 1
abbrev pub tasks_max : List (List ℕ × List ℕ) → Option ℕ
tasks_max props = or_default 1 1000 1 (value_in props (codes "tasks.max"))

-- how many records a batch has at most: 1 to 100,000, by default 2,000
abbrev pub batch_size : List (List ℕ × List ℕ) → Option ℕ
batch_size props = or_default 1 100000 2000 (value_in props (codes "batch.size"))

-- how many sequences there are: 1 to 1,000
abbrev pub sequences : List ℕ → Option ℕ
sequences text = number_in 1 1000 text

-- how many records a sequence has: 0 to 2^32 - 1
abbrev pub count : List ℕ → Option ℕ
count text = number_in 0 (2 ^ 32 - 1) text
