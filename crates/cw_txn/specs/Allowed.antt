-- Which entries may stand behind which others in a transaction log that is opened: legal ones (KIP-618), of the parts
-- that their producer owns. A producer of a script numbers its transactions by their places (this project's own).
use Rattle.std.specs.Prelude.{◌≡◌, ℕ, ◌≤◌, ◌++◌, List, ◌∷◌, length, map, All, Some}
use Rattle.std.specs.Bool.{⊤}
use Rattle.std.specs.List.{IsDistinct}
use Rattle.cw_types.specs.declared.ids.Tid.{Tid}
use Rattle.cw_types.specs.declared.ids.Tid.TheVariants.{Lead, Task, Raw as RawId}
use Rattle.cw_types.specs.declared.ids.Tag.{Tag}
use Rattle.cw_types.specs.declared.ids.PartKey.{PartKey}
use Rattle.cw_types.specs.declared.ids.PartKey.TheVariants.{Raw, File, Seq, Sink}
use Rattle.cw_types.specs.declared.ids.Span.{Span}
use Rattle.cw_txn.specs.declared.entry.Entry.{Entry}
use Rattle.cw_txn.specs.declared.entry.Entry.TheVariants.{Bump, Commit, Set}
use Rattle.cw_txn.specs.declared.entry.SetOffset.{SetOffset}
use Rattle.cw_types.specs.Same.{same_part, connector_of}
use Rattle.cw_txn.specs.Legal.{Each, IsLegalBehind, Chains, ChainsBehind}

-- a part of a script
abbrev pub IsRaw : PartKey → Type 0
IsRaw (Raw n) = ⊤
IsRaw (File a f) = ⊥
IsRaw (Seq a i) = ⊥
IsRaw (Sink a t) = ⊥

-- a part that a source connector's task reads
abbrev pub IsSourceOf : List ℕ → PartKey → Type 0
IsSourceOf connector (Raw n) = ⊥
IsSourceOf connector (File a f) = a ≡ connector
IsSourceOf connector (Seq a i) = a ≡ connector
IsSourceOf connector (Sink a t) = ⊥

-- a part that a sink connector's task reads
abbrev pub IsSinkOf : List ℕ → PartKey → Type 0
IsSinkOf connector (Raw n) = ⊥
IsSinkOf connector (File a f) = ⊥
IsSinkOf connector (Seq a i) = ⊥
IsSinkOf connector (Sink a t) = a ≡ connector

-- a task commits source parts of its connector; a script's producer commits a script's parts, with its place as number
abbrev pub CommitsOwn : Tid → (number place : ℕ) → List PartKey → Type 0
CommitsOwn Lead number place parts = ⊥
CommitsOwn (Task id) number place parts = All (IsSourceOf id.connector) parts
CommitsOwn (RawId n) number place parts = (number ≡ place) × All IsRaw parts

-- the leader sets parts of one connector, a task sets sink parts of its own
abbrev pub SetsOwn : Tid → List PartKey → Type 0
SetsOwn Lead parts = (connector : List ℕ) × All (λ part. connector_of part ≡ Some connector) parts
SetsOwn (Task id) parts = All (IsSinkOf id.connector) parts
SetsOwn (RawId n) parts = ⊥

-- a commit of 1 to 16 parts, none named twice
pub record IsAllowedCommit (before : List Entry) (tag : Tag) (generation : ℕ) (spans : List Span) : Type 0 where
  pub legal : IsLegalBehind before (Commit tag generation spans)
  pub some : 1 ≤ length spans
  pub few : length spans ≤ 16
  pub distinct : IsDistinct same_part (map (λ span. span.part) spans)
  pub own : CommitsOwn tag.tid tag.number (length before) (map (λ span. span.part) spans)

-- a set of parts, none named twice; the whole of it is an entry
pub record IsAllowedSet (before : List Entry) (tid : Tid) (whole : Entry) (list : List SetOffset) : Type 0 where
  pub legal : IsLegalBehind before whole
  pub distinct : IsDistinct same_part (map (λ set. set.part) list)
  pub own : SetsOwn tid (map (λ set. set.part) list)

-- an entry that may stand behind these
abbrev pub IsAllowedBehind : List Entry → Entry → Type 0
IsAllowedBehind before (Bump tid) = ⊤
IsAllowedBehind before (Commit tag generation spans) = IsAllowedCommit before tag generation spans
IsAllowedBehind before (Set tid epoch list) = IsAllowedSet before tid (Set tid epoch list) list

-- each may stand behind those before it
abbrev pub AreAllowed : List Entry → Type 0
AreAllowed entries = Each IsAllowedBehind entries

-- the place of the first entry that may not
pub record IsFirstNotAllowed (entries : List Entry) (place : ℕ) : Type 0 where
  pub before : List Entry
  pub entry : Entry
  pub behind : List Entry
  pub split : entries ≡ before ++ entry ∷ behind
  pub at : length before ≡ place
  pub allowed : AreAllowed before
  pub not_allowed : ¬ IsAllowedBehind before entry

-- the place of the first entry of which a part doesn't chain
pub record IsFirstUnchained (entries : List Entry) (place : ℕ) : Type 0 where
  pub before : List Entry
  pub entry : Entry
  pub behind : List Entry
  pub split : entries ≡ before ++ entry ∷ behind
  pub at : length before ≡ place
  pub chains : (part : PartKey) → Chains part before
  pub broken : (part : PartKey) × (¬ ChainsBehind part before entry)
