-- Reading fields from left to right: the value and what is left, or the first fault with the place where its field
-- begins.
use Rattle.std.specs.Prelude.{◌≡◌, ℕ, zero, suc, ◌+◌, List, [], ◌∷◌, ◌++◌, length, take, Option, Some, None, Result, Ok}
use Rattle.std.specs.Prelude.{Err, Bool, true, false, nat_lt, ◌==◌, if◌then◌else◌}
use Rattle.std.specs.Bool.{⊤}
use Rattle.std.specs.Int.{Width, w32, w64, byte_len, from_be_bytes}
use Rattle.cw_types.specs.Name.{name_fault}
use Rattle.cw_types.specs.declared.name.NameFault.{NameFault}
use Rattle.cw_types.specs.declared.ids.Tid.{Tid}
use Rattle.cw_types.specs.declared.ids.Tid.TheVariants.{Lead, Task, Raw as RawId}
use Rattle.cw_types.specs.declared.ids.Tag.{Tag}
use Rattle.cw_types.specs.declared.ids.PartKey.{PartKey}
use Rattle.cw_types.specs.declared.ids.PartKey.TheVariants.{Raw, File, Seq, Sink}
use Rattle.cw_types.specs.declared.ids.Span.{Span}
use Rattle.cw_bytes.specs.declared.applied.Applied.{Applied}
use Rattle.cw_bytes.specs.declared.mark.Mark.{Mark}
use Rattle.cw_bytes.specs.declared.fault.FieldFault.{FieldFault}
use Rattle.cw_bytes.specs.declared.fault.FieldFault.TheVariants.{Short, BadKind, BadName, Memory}
use Rattle.cw_bytes.specs.Unread.{Unread, past, Takes}

-- what reading gives: a value and what is left, or a fault
abbrev pub Read : Type 0 → Type 0
Read A = Result (A × Unread) FieldFault

infixl 10 ◌>>=◌
abbrev pub ◌>>=◌ : {A B : Type 0} → Result A FieldFault → (A → Result B FieldFault) → Result B FieldFault
(Ok x) >>= f = f x
(Err e) >>= f = Err e

-- a call answered what reading gives; want of memory alone may come instead
abbrev pub Fails : {Y : Type 0} → FieldFault → Result Y FieldFault → Type 0
Fails Memory meant = ⊤
Fails (Short at) meant = meant ≡ Err (Short at)
Fails (BadKind byte) meant = meant ≡ Err (BadKind byte)
Fails (BadName at) meant = meant ≡ Err (BadName at)

abbrev pub Reads : {X Y : Type 0} → (X → Y) → Result X FieldFault → Result Y FieldFault → Type 0
Reads view (Ok x) meant = meant ≡ Ok (view x)
Reads view (Err fault) meant = Fails fault meant

-- the first byte
abbrev pub first_of : ℕ → List ℕ → Read ℕ
first_of place [] = Err (Short place)
first_of place (byte ∷ rest) = Ok (byte, record { place = place + 1; rest = rest })

abbrev pub byte_at : Unread → Read ℕ
byte_at from = first_of from.place from.rest

-- a number of a width
abbrev pub number_at : Width → Unread → Read ℕ
number_at w from =
    if nat_lt (length from.rest) (byte_len w) then Err (Short from.place) else
    Ok (from_be_bytes w (take (byte_len w) from.rest), past (byte_len w) from)

-- n bytes of a text that begins at a place
abbrev pub cut_at : ℕ → ℕ → Unread → Read (List ℕ)
cut_at place n from = if nat_lt (length from.rest) n then Err (Short place) else Ok (take n from.rest, past n from)

unfoldable pub text_at : Unread → Read (List ℕ)
text_at from = do
  n ← number_at w32 from
  cut_at from.place n.0 n.1

-- a text that is a name
abbrev pub named : ℕ → List ℕ × Unread → Option NameFault → Read (List ℕ)
named place t None = Ok t
named place t (Some fault) = Err (BadName place)

unfoldable pub name_at : Unread → Read (List ℕ)
name_at from = do
  t ← text_at from
  named from.place t (name_fault t.0)

unfoldable pub task_at : Unread → Read Tid
task_at from = do
  connector ← name_at from
  index ← number_at w32 connector.1
  Ok (Task (record { connector = connector.0; index = index.0 }), index.1)

unfoldable pub raw_id_at : Unread → Read Tid
raw_id_at from = do
  n ← number_at w32 from
  Ok (RawId n.0, n.1)

unfoldable pub tid_at : Unread → Read Tid
tid_at from = do
  kind ← byte_at from
  if kind.0 == 1 then Ok (Lead, kind.1) else if kind.0 == 2 then task_at kind.1 else
      if kind.0 == 3 then raw_id_at kind.1 else Err (BadKind kind.0)

unfoldable pub tag_at : Unread → Read Tag
tag_at from = do
  tid ← tid_at from
  epoch ← number_at w64 tid.1
  number ← number_at w64 epoch.1
  Ok (record { tid = tid.0; epoch = record { 0 = epoch.0 }; number = number.0 }, number.1)

-- whether a transaction was committed
unfoldable pub flag_at : Unread → Read Bool
flag_at from = do
  kind ← byte_at from
  if kind.0 == 0 then Ok (false, kind.1) else if kind.0 == 1 then Ok (true, kind.1) else Err (BadKind kind.0)

unfoldable pub mark_at : Unread → Read Mark
mark_at from = do
  tag ← tag_at from
  flag ← flag_at tag.1
  Ok (record { tag = tag.0; committed = flag.0 }, flag.1)

unfoldable pub raw_part_at : Unread → Read PartKey
raw_part_at from = do
  n ← number_at w32 from
  Ok (Raw n.0, n.1)

unfoldable pub file_at : Unread → Read PartKey
file_at from = do
  connector ← name_at from
  feed ← name_at connector.1
  Ok (File connector.0 feed.0, feed.1)

unfoldable pub seq_at : Unread → Read PartKey
seq_at from = do
  connector ← name_at from
  index ← number_at w32 connector.1
  Ok (Seq connector.0 index.0, index.1)

unfoldable pub sink_at : Unread → Read PartKey
sink_at from = do
  connector ← name_at from
  topic ← name_at connector.1
  Ok (Sink connector.0 topic.0, topic.1)

unfoldable pub part_at : Unread → Read PartKey
part_at from = do
  kind ← byte_at from
  if kind.0 == 1 then raw_part_at kind.1 else if kind.0 == 2 then file_at kind.1 else
      if kind.0 == 3 then seq_at kind.1 else if kind.0 == 4 then sink_at kind.1 else Err (BadKind kind.0)

unfoldable pub span_at : Unread → Read Span
span_at from = do
  part ← part_at from
  start ← number_at w64 part.1
  stop ← number_at w64 start.1
  Ok (record { part = part.0; from = start.0; to = stop.0 }, stop.1)

-- a span is read, and put behind others
abbrev pub PutsSpan : Unread → Unread → List Span → List Span → Type 0
PutsSpan from next old new = (span : Span) × (span_at from ≡ Ok (span, next)) × (new ≡ old ++ span ∷ [])

unfoldable pub some_text_at : Unread → Read (Option (List ℕ))
some_text_at from = do
  t ← text_at from
  Ok (Some t.0, t.1)

unfoldable pub value_at : Unread → Read (Option (List ℕ))
value_at from = do
  kind ← byte_at from
  if kind.0 == 0 then Ok (None, kind.1) else if kind.0 == 1 then some_text_at kind.1 else Err (BadKind kind.0)

unfoldable pub record_at : Unread → Read Applied
record_at from = do
  offset ← number_at w64 from
  stamp ← number_at w64 offset.1
  key ← text_at stamp.1
  value ← value_at key.1
  Ok (record { offset = offset.0; stamp = stamp.0; key = key.0; value = value.0 }, value.1)

-- n fields of one kind, one behind the other
unfoldable pub many_at : {A : Type 0} → (Unread → Read A) → ℕ → Unread → Read (List A)
many_at at zero from = Ok ([], from)
many_at at (suc n) from = do
  first ← at from
  others ← many_at at n first.1
  Ok (first.0 ∷ others.0, others.1)

-- a list of records, which isn't empty
unfoldable pub records_at : Unread → Read (List Applied)
records_at from = do
  n ← number_at w32 from
  if n.0 == 0 then Err (BadKind 0) else many_at record_at n.0 n.1

-- what fits a field and is spelled as it is read as it, whatever follows
abbrev pub ReadsSpelled : {A : Type 0} → (A → Type 0) → (A → List ℕ) → (Unread → Read A) → Type 0
ReadsSpelled {A} Fits spelled at =
    (x : A) (from next : Unread) → Fits x → Takes (spelled x) from next → at from ≡ Ok (x, next)

-- a body is a value and nothing behind it
abbrev pub ended : {A : Type 0} → Read A → Option A
ended (Ok read) = if length read.1.rest == 0 then Some read.0 else None
ended (Err fault) = None

abbrev pub body_at : {A : Type 0} → (Unread → Read A) → List ℕ → Option A
body_at at bytes = ended (at (record { place = 0; rest = bytes }))
