-- Counts of tasks: `{"tasks":n}` commits a set of tasks (Connect's config topic), `{"task-count":n}` fences one
-- (KIP-618).
use Rattle.std.specs.Prelude.{ℕ, ◌^◌, nat_lt, List, Option, Some, None, option_and_then, codes, if◌then◌else◌}
use Rattle.serde_json.specs.Data.{Data, object, member, no_members, number, unsigned}
use Rattle.serde_json.specs.Find.{get, as_number, as_u64}

-- a number that fits 32 bits
abbrev pub below_32 : ℕ → Option ℕ
below_32 n = if nat_lt n (2 ^ 32) then Some n else None

-- the whole number below 2^64 at a key
abbrev pub u64_at : List ℕ → Data → Option ℕ
u64_at key d = option_and_then as_u64 (option_and_then as_number (get key d))

-- the count at a key, below 2^32
abbrev pub count_at : List ℕ → Data → Option ℕ
count_at key d = option_and_then below_32 (u64_at key d)

-- an object with a count alone
abbrev pub count_data : List ℕ → ℕ → Data
count_data key n = object (member key (number (unsigned n)) no_members)

-- the count of a commit record
abbrev pub commit_of : Data → Option ℕ
commit_of = count_at (codes "tasks")

-- the count of a fence record
abbrev pub fencing_of : Data → Option ℕ
fencing_of = count_at (codes "task-count")
