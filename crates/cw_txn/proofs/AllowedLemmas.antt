-- Lists of allowed entries are legal and numbered, and stay allowed behind a bump and behind a script's next commit.
use Rattle.std.proofs.Common.{◌≡◌, ℕ, List, [], ◌∷◌, ◌++◌, length, map, All, Some, false, sym, subst}
use Rattle.std.specs.List.{IsDistinct}
use Rattle.std.proofs.lemmas.List.Elements.{All-map}
use Rattle.cw_types.specs.declared.ids.Tid.{Tid}
use Rattle.cw_types.specs.declared.ids.Tid.TheVariants.{Lead, Task, Raw}
use Rattle.cw_types.specs.declared.ids.Tag.{Tag}
use Rattle.cw_types.specs.declared.ids.PartKey.{PartKey}
use Rattle.cw_types.specs.declared.ids.Span.{Span}
use Rattle.cw_types.specs.declared.ids.TaskId.{TaskId}
use Rattle.cw_types.specs.declared.ids.Epoch.{Epoch}
use Rattle.cw_types.specs.Same.{same_part, connector_of}
use Rattle.cw_txn.specs.declared.entry.SetOffset.{SetOffset}
use Rattle.cw_txn.specs.declared.entry.Entry.{Entry}
use Rattle.cw_txn.specs.declared.entry.Entry.TheVariants.{Bump, Commit, Set}
use Rattle.cw_txn.specs.Legal.{EachFrom, IsLegalBehind, IsLegal, IsNumberedBehind, AreNumbered, epoch_of, is_committed}
use Rattle.cw_txn.specs.Allowed.{IsRaw, IsSourceOf, IsSinkOf, CommitsOwn, IsAllowedBehind, AreAllowed}
use Rattle.cw_txn.specs.Transactions.{AreNext}
use Rattle.cw_txn.proofs.Walks.{Each-push}
use Rattle.cw_txn.proofs.Numbered.{is_committed-numbered}
use Rattle.cw_txn.proofs.Chained.{part_of}

module _ (P Q : List Entry → Entry → Type 0) (weaker : (before : List Entry) (entry : Entry) → P before entry → Q before entry) where
  -- a weaker fact of each entry
  pub EachFrom-weaker : (before entries : List Entry) → EachFrom P before entries → EachFrom Q before entries
  EachFrom-weaker before [] each = tt
  EachFrom-weaker before (entry ∷ entries) each = (weaker before entry each.0, EachFrom-weaker (before ++ entry ∷ []) entries each.1)

legal_one : (before : List Entry) (entry : Entry) → IsAllowedBehind before entry → IsLegalBehind before entry
legal_one before (Bump tid) allowed = tt
legal_one before (Commit tag generation spans) allowed = allowed.legal
legal_one before (Set tid epoch list) allowed = allowed.legal

own_number : (tid : Tid) (number place : ℕ) (parts : List PartKey) → CommitsOwn tid number place parts → (n : ℕ) → tid ≡ Raw n → number ≡ place
own_number Lead number place parts own n raw = absurd own
own_number (Task id) number place parts own n raw = cc
own_number (Raw m) number place parts own n raw = own.0

numbered_one : (before : List Entry) (entry : Entry) → IsAllowedBehind before entry → IsNumberedBehind before entry
numbered_one before (Bump tid) allowed = tt
numbered_one before (Commit tag generation spans) allowed = own_number tag.tid tag.number (length before) (map part_of spans) allowed.own
numbered_one before (Set tid epoch list) allowed = tt

pub allowed_is_legal : (entries : List Entry) → AreAllowed entries → IsLegal entries
allowed_is_legal entries allowed = EachFrom-weaker IsAllowedBehind IsLegalBehind legal_one [] entries allowed

pub allowed_is_numbered : (entries : List Entry) → AreAllowed entries → AreNumbered entries
allowed_is_numbered entries allowed = EachFrom-weaker IsAllowedBehind IsNumberedBehind numbered_one [] entries allowed

pub allowed-bump : (entries : List Entry) (tid : Tid) → AreAllowed entries → AreAllowed (entries ++ Bump tid ∷ [])
allowed-bump entries tid allowed = Each-push IsAllowedBehind entries (Bump tid) allowed tt

-- a script's commit that is next, under its producer's epoch, with its place as number
pub allowed-commit : (entries : List Entry) (tag : Tag) (generation : ℕ) (spans : List Span) (n : ℕ) → AreAllowed entries
    → AreNext entries spans → All (λ (span : Span). IsRaw span.part) spans → tag.tid ≡ Raw n → tag.number ≡ length entries
    → tag.epoch.0 ≡ epoch_of tag.tid entries → AreAllowed (entries ++ Commit tag generation spans ∷ [])
allowed-commit entries tag generation spans n allowed next raw_parts raw number epoch =
    Each-push IsAllowedBehind entries (Commit tag generation spans) allowed (record {
      legal = (epoch, is_committed-numbered tag n raw entries (allowed_is_numbered entries allowed) number);
      some = next.some;
      few = next.few;
      distinct = next.distinct;
      own = subst (λ (tid : Tid). CommitsOwn tid tag.number (length entries) (map part_of spans)) (sym raw) (number, All-map IsRaw part_of spans raw_parts);
    })

-- a task's commit that is next, new, under its producer's epoch, of source parts of its connector
pub allowed-task_commit : (entries : List Entry) (tag : Tag) (generation : ℕ) (spans : List Span) (id : TaskId) → AreAllowed entries
    → AreNext entries spans → All (λ (span : Span). IsSourceOf id.connector span.part) spans → tag.tid ≡ Task id → is_committed tag entries ≡ false
    → tag.epoch.0 ≡ epoch_of tag.tid entries → AreAllowed (entries ++ Commit tag generation spans ∷ [])
allowed-task_commit entries tag generation spans id allowed next sources task new epoch =
    Each-push IsAllowedBehind entries (Commit tag generation spans) allowed (record {
      legal = (epoch, new);
      some = next.some;
      few = next.few;
      distinct = next.distinct;
      own = subst (λ (tid : Tid). CommitsOwn tid tag.number (length entries) (map part_of spans)) (sym task) (All-map (IsSourceOf id.connector) part_of spans sources);
    })

abbrev pub part_of_set : SetOffset → PartKey
part_of_set set = set.part

-- the leader's set of parts of one connector, under its epoch
pub allowed-lead_set : (entries : List Entry) (epoch : Epoch) (list : List SetOffset) (connector : List ℕ) → AreAllowed entries
    → IsDistinct same_part (map part_of_set list) → All (λ (set : SetOffset). connector_of set.part ≡ Some connector) list
    → epoch.0 ≡ epoch_of Lead entries → AreAllowed (entries ++ Set Lead epoch list ∷ [])
allowed-lead_set entries epoch list connector allowed distinct parts last =
    Each-push IsAllowedBehind entries (Set Lead epoch list) allowed (record {
      legal = last;
      distinct = distinct;
      own = (connector, All-map (λ (part : PartKey). connector_of part ≡ Some connector) part_of_set list parts);
    })

-- a task's set of sink parts of its connector, under its epoch
pub allowed-task_set : (entries : List Entry) (id : TaskId) (epoch : Epoch) (list : List SetOffset) → AreAllowed entries
    → IsDistinct same_part (map part_of_set list) → All (λ (set : SetOffset). IsSinkOf id.connector set.part) list
    → epoch.0 ≡ epoch_of (Task id) entries → AreAllowed (entries ++ Set (Task id) epoch list ∷ [])
allowed-task_set entries id epoch list allowed distinct parts last =
    Each-push IsAllowedBehind entries (Set (Task id) epoch list) allowed (record {
      legal = last;
      distinct = distinct;
      own = All-map (IsSinkOf id.connector) part_of_set list parts;
    })
