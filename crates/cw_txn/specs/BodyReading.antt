-- Reading a body of the transaction log from left to right.
use Rattle.std.specs.Prelude.{ℕ, List, ◌==◌, length, Option, Some, None, Ok, Err, if◌then◌else◌}
use Rattle.std.specs.Int.{w32, w64}
use Rattle.cw_types.specs.declared.ids.Span.{Span}
use Rattle.cw_bytes.specs.declared.fault.FieldFault.TheVariants.{BadKind}
use Rattle.cw_bytes.specs.Unread.{Unread}
use Rattle.cw_bytes.specs.Reading.{◌>>=◌, Read, byte_at, number_at, tid_at, tag_at, part_at, span_at, many_at}
use Rattle.cw_txn.specs.declared.entry.Entry.{Entry}
use Rattle.cw_txn.specs.declared.entry.Entry.TheVariants.{Bump, Commit, Set}
use Rattle.cw_txn.specs.declared.entry.SetOffset.{SetOffset}

unfoldable pub some_offset_at : Unread → Read (Option ℕ)
some_offset_at from = do
  n ← number_at w64 from
  Ok (Some n.0, n.1)

unfoldable pub offset_at : Unread → Read (Option ℕ)
offset_at from = do
  kind ← byte_at from
  if kind.0 == 0 then Ok (None, kind.1) else if kind.0 == 1 then some_offset_at kind.1 else Err (BadKind kind.0)

unfoldable pub set_at : Unread → Read SetOffset
set_at from = do
  part ← part_at from
  to ← offset_at part.1
  Ok (record { part = part.0; to = to.0 }, to.1)

-- fields of one kind behind their number
unfoldable pub list_at : {A : Type 0} → (Unread → Read A) → Unread → Read (List A)
list_at at from = do
  n ← number_at w32 from
  many_at at n.0 n.1

unfoldable pub spans_at : Unread → Read (ℕ × List Span)
spans_at from = do
  generation ← number_at w64 from
  spans ← list_at span_at generation.1
  Ok ((generation.0, spans.0), spans.1)

unfoldable pub sets_at : Unread → Read (ℕ × List SetOffset)
sets_at from = do
  epoch ← number_at w64 from
  list ← list_at set_at epoch.1
  Ok ((epoch.0, list.0), list.1)

unfoldable pub bump_at : Unread → Read Entry
bump_at from = do
  tid ← tid_at from
  Ok (Bump tid.0, tid.1)

unfoldable pub commit_at : Unread → Read Entry
commit_at from = do
  tag ← tag_at from
  rest ← spans_at tag.1
  Ok (Commit tag.0 rest.0.0 rest.0.1, rest.1)

unfoldable pub set_entry_at : Unread → Read Entry
set_entry_at from = do
  tid ← tid_at from
  rest ← sets_at tid.1
  Ok (Set tid.0 (record { 0 = rest.0.0 }) rest.0.1, rest.1)

unfoldable pub entry_at : Unread → Read Entry
entry_at from = do
  kind ← byte_at from
  if kind.0 == 1 then bump_at kind.1
      else if kind.0 == 2 then commit_at kind.1
      else if kind.0 == 3 then set_entry_at kind.1 else Err (BadKind kind.0)

-- how many entries, which are some
unfoldable pub count_at : Unread → Read ℕ
count_at from = do
  n ← number_at w32 from
  if n.0 == 0 then Err (BadKind 0) else Ok (n.0, n.1)

-- the entries
unfoldable pub entries_at : Unread → Read (List Entry)
entries_at from = do
  n ← count_at from
  many_at entry_at n.0 n.1

-- a body ends with its last field
abbrev pub ended : Read (List Entry) → Option (List Entry)
ended (Ok read) = if length read.1.rest == 0 then Some read.0 else None
ended (Err fault) = None

abbrev pub body_at : List ℕ → Option (List Entry)
body_at bytes = ended (entries_at (record { place = 0; rest = bytes }))
