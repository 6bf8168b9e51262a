-- What one walk over a list of entries finds. Internal but for what the faults of a list say.
use Rattle.std.specs.Prelude.{◌≡◌, ◌<◌, ◌^◌, ◌++◌, ℕ, Bool, true, false, List, [], ◌∷◌, length, replicate, Option, Some}
use Rattle.std.specs.Prelude.{None, is_some, slice_index_or}
use Rattle.std.specs.BTreeMap.{BTreeMap, get}
use Rattle.std.specs.List.{list_any}
use Rattle.cw_types.specs.declared.ids.PartKey.{PartKey}
use Rattle.cw_types.specs.declared.ids.Span.{Span}
use Rattle.cw_txn.specs.declared.entry.Entry.{Entry}
use Rattle.cw_txn.specs.declared.entry.SetOffset.{SetOffset}
use Rattle.cw_txn.specs.declared.history.History.{History}
use Rattle.cw_txn.specs.declared.tables.Tables.{Tables}
use Rattle.cw_txn.specs.declared.replay.ListFault.{ListFault}
use Rattle.cw_txn.specs.declared.replay.ListFault.TheVariants.{NotAllowed, Unchained}
use Rattle.cw_txn.specs.declared.replay.Walk.{Walk}
use Rattle.cw_types.specs.Same.{same_part, part_order}
use Rattle.cw_txn.specs.History.{SpansChain}
use Rattle.cw_txn.specs.Legal.{Chains, ChainsBehind}
use Rattle.cw_txn.specs.Allowed.{AreAllowed, IsFirstNotAllowed, IsFirstUnchained}
use Rattle.cw_txn.specs.Tables.{Keeps, history_at}

-- what each fault of a list says, by the gate of an entry
abbrev pub OnListFault : (not_allowed unchained : ℕ → Type 0) → ListFault → Type 0
OnListFault not_allowed unchained (NotAllowed gate) = not_allowed gate
OnListFault not_allowed unchained (Unchained gate) = unchained gate

-- the gate of the entry at a place of which this holds
abbrev pub HasGate : (ℕ → Type 0) → List ℕ → ℕ → Type 0
HasGate P gates gate = (place : ℕ) × P place × (slice_index_or gates place gate ≡ gate)

-- every part chains, or this is the gate of the first entry at which one doesn't
abbrev pub ChainsUpTo : List Entry → List ℕ → Option ℕ → Type 0
ChainsUpTo entries gates None = (part : PartKey) → Chains part entries
ChainsUpTo entries gates (Some gate) = HasGate (IsFirstUnchained entries) gates gate

-- whether every part chains at an entry, or one doesn't
abbrev pub IsChainTest : List Entry → Entry → Bool → Type 0
IsChainTest before entry true = (part : PartKey) → ChainsBehind part before entry
IsChainTest before entry false = (part : PartKey) × (¬ ChainsBehind part before entry)

-- whether the spans of every part chain behind what this table says of it, or those of one part don't
abbrev pub IsSpanTest : BTreeMap PartKey History → List Span → Bool → Type 0
IsSpanTest parts spans true = (part : PartKey) → SpansChain part (history_at parts part) spans
IsSpanTest parts spans false = (part : PartKey) × (¬ SpansChain part (history_at parts part) spans)

-- these entries are allowed, the tables are theirs, and this is the gate of the first that doesn't chain
pub record AreWalked (tables : Tables) (entries : List Entry) (gates : List ℕ) (unchained : Option ℕ) : Type 0 where
  pub allowed : AreAllowed entries
  pub kept : Keeps tables entries
  pub chained : ChainsUpTo entries gates unchained

-- the same, or this is the gate of the first that isn't allowed; then the tables say nothing any more
abbrev pub Found : Option ℕ → Tables → List Entry → List ℕ → Option ℕ → Type 0
Found None tables entries gates unchained = AreWalked tables entries gates unchained
Found (Some gate) tables entries gates unchained = HasGate (IsFirstNotAllowed entries) gates gate

-- the same of a walk with one entry more
abbrev pub FoundWith : Walk → Entry → ℕ → Type 0
FoundWith walk entry gate =
    Found walk.not_allowed walk.tables (walk.entries.items ++ entry ∷ []) (walk.gates.items ++ gate ∷ []) walk.unchained

-- a walk knows how many entries it has taken, and what it found in them
pub record Walked (walk : Walk) : Type 0 where
  pub counted : walk.length ≡ length walk.entries.items
  pub few : walk.length < 2 ^ 64
  pub aligned : length walk.gates.items ≡ length walk.entries.items
  pub found : Found walk.not_allowed walk.tables walk.entries.items walk.gates.items walk.unchained

-- a walk took these entries more, of a frame with this gate
pub record Took (group : List Entry) (gate : ℕ) (old new : Walk) : Type 0 where
  pub entries : new.entries.items ≡ old.entries.items ++ group
  pub gates : new.gates.items ≡ old.gates.items ++ replicate (length group) gate
  pub walked : Walked new

-- the table has a row for the parts of these offsets, and no other
abbrev pub AreNoted : BTreeMap PartKey Bool → List SetOffset → Type 0
AreNoted noted list = (part : PartKey) →
    is_some (get part_order noted part) ≡ list_any (λ (set : SetOffset). same_part part set.part) list
