-- A shelf holds feeds: files of lines, each with a name, in the order of the names' bytes. This project's own rule.
use Rattle.std.specs.Prelude.{ℕ, List, Option}
use Rattle.std.specs.List.Sorted.{IsStrictlySortedBy}
use Rattle.std.specs.BTreeMap.{is_at, insert_entry}
use Rattle.std.specs.Map.{keys_of, lookup}
use Rattle.cw_types.specs.Order.{name_cmp}

-- files, each with its name and its bytes
abbrev pub Files : Type 0
Files = List (List ℕ × List ℕ)

-- the names of files
abbrev pub names_of : Files → List (List ℕ)
names_of files = keys_of files

-- the bytes of the file of this name, where there is one
abbrev pub bytes_of : List ℕ → Files → Option (List ℕ)
bytes_of name files = lookup (is_at (name_cmp name)) files

-- names of which each is below those after it, by bytes
abbrev pub AreRising : List (List ℕ) → Type 0
AreRising names = IsStrictlySortedBy name_cmp names

-- files with one more, at its place among the names or in place of the one of its name
abbrev pub with_file : List ℕ → List ℕ → Files → Files
with_file name bytes files = insert_entry name_cmp files name bytes
