-- The bytes of a body of the transaction log: how many entries, and then each of them. The format is this project's.
use Rattle.std.specs.Prelude.{ℕ, ◌<◌, ◌≤◌, ◌^◌, List, [], ◌∷◌, ◌++◌, length, Option, Some, None}
use Rattle.std.specs.Bool.{⊤}
use Rattle.std.specs.List.{flat_map, AllByRecursion}
use Rattle.cw_bytes.specs.Spelling.{word, long, tid_bytes, tag_bytes, part_bytes, span_bytes, IsTid, IsTag, IsPart}
use Rattle.cw_bytes.specs.Spelling.{IsSpan}
use Rattle.cw_bytes.specs.declared.fault.FieldFault.{FieldFault}
use Rattle.cw_bytes.specs.declared.fault.FieldFault.TheVariants.{Short, BadKind, BadName, Memory as FieldMemory}
use Rattle.cw_txn.specs.declared.body.BodyFault.{BodyFault}
use Rattle.cw_txn.specs.declared.body.BodyFault.TheVariants.{NotEntries, Memory}
use Rattle.cw_txn.specs.declared.entry.Entry.{Entry}
use Rattle.cw_txn.specs.declared.entry.Entry.TheVariants.{Bump, Commit, Set}
use Rattle.cw_txn.specs.declared.entry.SetOffset.{SetOffset}

-- 0 for no offset, or 1 and the offset
abbrev pub offset_bytes : Option ℕ → List ℕ
offset_bytes None = 0 ∷ []
offset_bytes (Some offset) = 1 ∷ long offset

-- a part and the offset to which it is set
abbrev pub set_bytes : SetOffset → List ℕ
set_bytes set = part_bytes set.part ++ offset_bytes set.to

-- fields of one kind behind their number
abbrev pub list_bytes : {A : Type 0} → (A → List ℕ) → List A → List ℕ
list_bytes bytes list = word (length list) ++ flat_map bytes list

-- 1 is a Bump, 2 a Commit, 3 a Set
abbrev pub entry_bytes : Entry → List ℕ
entry_bytes (Bump tid) = 1 ∷ tid_bytes tid
entry_bytes (Commit tag generation spans) = 2 ∷ (tag_bytes tag ++ (long generation ++ list_bytes span_bytes spans))
entry_bytes (Set tid epoch list) = 3 ∷ (tid_bytes tid ++ (long epoch.0 ++ list_bytes set_bytes list))

-- a body
abbrev pub entries_bytes : List Entry → List ℕ
entries_bytes entries = list_bytes entry_bytes entries

-- what has bytes: numbers of their widths, and lists shorter than 2^32
abbrev pub IsOffset : Option ℕ → Type 0
IsOffset None = ⊤
IsOffset (Some offset) = offset < 2 ^ 64

abbrev pub IsSet : SetOffset → Type 0
IsSet set = IsPart set.part × IsOffset set.to

abbrev pub IsList : {A : Type 0} → (A → Type 0) → List A → Type 0
IsList is list = (length list < 2 ^ 32) × AllByRecursion is list

abbrev pub IsEntry : Entry → Type 0
IsEntry (Bump tid) = IsTid tid
IsEntry (Commit tag generation spans) = IsTag tag × (generation < 2 ^ 64) × IsList IsSpan spans
IsEntry (Set tid epoch list) = IsTid tid × (epoch.0 < 2 ^ 64) × IsList IsSet list

-- a body has 1 to 2^32 - 1 entries
pub record AreEntries (entries : List Entry) : Type 0 where
  pub some : 1 ≤ length entries
  pub list : IsList IsEntry entries

-- an entry whose lists are short enough to be written
abbrev pub IsShort : Entry → Type 0
IsShort (Bump tid) = ⊤
IsShort (Commit tag generation spans) = length spans < 2 ^ 32
IsShort (Set tid epoch list) = length list < 2 ^ 32

pub record AreShort (entries : List Entry) : Type 0 where
  pub some : 1 ≤ length entries
  pub few : length entries < 2 ^ 32
  pub each : AllByRecursion IsShort entries

-- what a field's fault says of the body: any but want of memory says that it isn't the bytes of entries
abbrev pub body_fault : FieldFault → BodyFault
body_fault (Short at) = NotEntries
body_fault (BadKind byte) = NotEntries
body_fault (BadName at) = NotEntries
body_fault FieldMemory = Memory
