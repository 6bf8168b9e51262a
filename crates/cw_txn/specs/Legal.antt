-- Which lists of entries a transaction coordinator may hold (KIP-618, fencing by epochs): nobody writes under an epoch
-- that was bumped away, no transaction is committed twice, and each part's spans chain.
use Rattle.std.specs.Prelude.{◌≡◌, ℕ, Bool, false, List, [], ◌∷◌, ◌++◌, length, nat_lt, if◌then◌else◌}
use Rattle.std.specs.Bool.{⊤}
use Rattle.std.specs.List.{count_by, list_any}
use Rattle.cw_types.specs.declared.ids.Tid.{Tid}
use Rattle.cw_types.specs.declared.ids.Tid.TheVariants.{Raw}
use Rattle.cw_types.specs.declared.ids.Tag.{Tag}
use Rattle.cw_types.specs.declared.ids.PartKey.{PartKey}
use Rattle.cw_types.specs.declared.verdict.Verdict.{Verdict}
use Rattle.cw_types.specs.declared.verdict.Verdict.TheVariants.{Committed, Aborted, Open}
use Rattle.cw_txn.specs.declared.entry.Entry.{Entry}
use Rattle.cw_txn.specs.declared.entry.Entry.TheVariants.{Bump, Commit, Set}
use Rattle.cw_types.specs.Same.{same_tid, same_tag}
use Rattle.cw_txn.specs.History.{history, SpansChain}

-- whether an entry bumps the epoch of a producer
abbrev pub is_bump_of : Tid → Entry → Bool
is_bump_of tid (Bump other) = same_tid tid other
is_bump_of tid (Commit tag generation spans) = false
is_bump_of tid (Set other epoch list) = false

-- the epoch of a producer behind these entries: how many of them bump it
abbrev pub epoch_of : Tid → List Entry → ℕ
epoch_of tid entries = count_by (is_bump_of tid) entries

-- whether an entry commits a transaction
abbrev pub is_commit_of : Tag → Entry → Bool
is_commit_of tag (Bump tid) = false
is_commit_of tag (Commit other generation spans) = same_tag tag other
is_commit_of tag (Set tid epoch list) = false

-- whether one of these entries commits a transaction
abbrev pub is_committed : Tag → List Entry → Bool
is_committed tag entries = list_any (is_commit_of tag) entries

-- how a transaction ended: committed, or aborted where its producer has a later epoch
abbrev pub verdict_of : List Entry → Tag → Verdict
verdict_of entries tag =
    if is_committed tag entries then Committed
    else if nat_lt tag.epoch.0 (epoch_of tag.tid entries) then Aborted else Open

-- a fact of each of a list, and of all those before it
abbrev pub EachFrom : {A : Type 0} → (List A → A → Type 0) → List A → List A → Type 0
EachFrom P before [] = ⊤
EachFrom P before (x ∷ xs) = P before x × EachFrom P (before ++ x ∷ []) xs

-- the same, from the first entry on
abbrev pub Each : (List Entry → Entry → Type 0) → List Entry → Type 0
Each P entries = EachFrom P [] entries

-- an entry is written under its producer's epoch, and commits what isn't committed
abbrev pub IsLegalBehind : List Entry → Entry → Type 0
IsLegalBehind before (Bump tid) = ⊤
IsLegalBehind before (Commit tag generation spans) =
    (tag.epoch.0 ≡ epoch_of tag.tid before) × (is_committed tag before ≡ false)
IsLegalBehind before (Set tid epoch list) = epoch.0 ≡ epoch_of tid before

-- each entry is legal at its place
abbrev pub IsLegal : List Entry → Type 0
IsLegal entries = Each IsLegalBehind entries

-- an entry's spans of a part go on from where the part ended
abbrev pub ChainsBehind : PartKey → List Entry → Entry → Type 0
ChainsBehind part before (Bump tid) = ⊤
ChainsBehind part before (Commit tag generation spans) = SpansChain part (history part before) spans
ChainsBehind part before (Set tid epoch list) = ⊤

-- each span of a part begins where the one before it ended
abbrev pub Chains : PartKey → List Entry → Type 0
Chains part entries = Each (ChainsBehind part) entries

-- a script's transaction has its entry's place in the list as its number
abbrev pub IsNumberedBehind : List Entry → Entry → Type 0
IsNumberedBehind before (Bump tid) = ⊤
IsNumberedBehind before (Commit tag generation spans) = (n : ℕ) → tag.tid ≡ Raw n → tag.number ≡ length before
IsNumberedBehind before (Set tid epoch list) = ⊤

-- each of them has
abbrev pub AreNumbered : List Entry → Type 0
AreNumbered entries = Each IsNumberedBehind entries
