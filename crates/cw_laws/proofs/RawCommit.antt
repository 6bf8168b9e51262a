-- A script's producer that commits parts up to new ends keeps all facts: its parts are no task's.
use Rattle.std.proofs.Common.{◌≡◌, ℕ, ◌==◌, ◌+◌, ◌<◌, ◌≤◌, ◌^◌, ◌++◌, ◌∷◌, [], Bool, true, false, cond, List, Option, Some, None, length, map, refl, sym, ap, subst, ◌∙◌, arith}
use Rattle.std.specs.List.{AllByRecursion, IsDistinct, find, fold}
use Rattle.std.proofs.lemmas.Bool.{leb-false}
use Rattle.std.proofs.lemmas.Bool.Decides.{Decides-eqb}
use Rattle.std.proofs.lemmas.List.{length-map}
use Rattle.std.proofs.lemmas.List.Elements.{All-from_recursion, recursion_from_All}
use Rattle.std.proofs.lemmas.Map.Keys.{IsDistinct-head, IsDistinct-tail, IsDistinct-cons}
use Rattle.cw_types.specs.declared.ids.Tid.{Tid}
use Rattle.cw_types.specs.declared.ids.Tid.TheVariants as producer
use Rattle.cw_types.specs.declared.ids.Tag.{Tag}
use Rattle.cw_types.specs.declared.ids.Epoch.{Epoch}
use Rattle.cw_types.specs.declared.ids.TaskId.{TaskId}
use Rattle.cw_types.specs.declared.ids.PartKey.{PartKey}
use Rattle.cw_types.specs.declared.ids.PartKey.TheVariants.{Raw, File, Seq, Sink}
use Rattle.cw_types.specs.declared.ids.Span.{Span}
use Rattle.cw_types.specs.Same.{same_tag, same_part, connector_of}
use Rattle.cw_types.proofs.SameLemmas.{same_tag-Decides}
use Rattle.cw_bytes.specs.Spelling.{IsSpan}
use Rattle.cw_feed.specs.Feeds.{IsOfSource}
use Rattle.cw_txn.specs.declared.entry.Entry.{Entry}
use Rattle.cw_txn.specs.declared.history.History.{History}
use Rattle.cw_txn.specs.Allowed.{IsRaw, IsAllowedBehind}
use Rattle.cw_txn.specs.Body.{AreEntries}
use Rattle.cw_txn.specs.History.{history, after_span, GoesOn}
use Rattle.cw_txn.specs.Legal.{epoch_of}
use Rattle.cw_txn.proofs.Walks.{epoch_of_le}
use Rattle.cw_txn.proofs.Chained.{part_of, spans_chain}
use Rattle.cw_txn.proofs.DistinctParts.{none_distinct}
use Rattle.cw_txn.proofs.Numbered.{is_committed-numbered}
use Rattle.cw_txn.proofs.AllowedLemmas.{allowed_is_numbered}
use Rattle.cw_model.specs.State.{Setting, Cluster}
use Rattle.cw_model.specs.Answers.{Answer}
use Rattle.cw_model.specs.Lookups.{instance_of, last_epoch, list_end, end_or_start}
use Rattle.cw_model.specs.Updates.{fits_entries}
use Rattle.cw_model.specs.Tasks.{parts_of}
use Rattle.cw_model.specs.EventsRaw.{raw_commit, raw_span, raw_commit_of, is_bad_span, unless_bad, MayRawCommit}
use Rattle.cw_model.specs.Committed.{is_task}
use Rattle.cw_model.specs.Facts.{AreFacts}
use Rattle.cw_model.specs.FactsProducers.{IsOfTask, IsBelow, commit_tags, commits_up_to}
use Rattle.cw_laws.proofs.Wrappers.{closed-keeps, if-keeps, entries-keeps}
use Rattle.cw_laws.proofs.Lists.{each-push, each-weaker}
use Rattle.cw_laws.proofs.AtInstance.{facts_of_one, facts_of_two, facts_of_all}
use Rattle.cw_laws.proofs.EntryPush.{LeavesPart, epoch-push, end-stays, commit_tags-push}
use Rattle.cw_laws.proofs.Others.{other_facts, all_facts}
use Rattle.cw_laws.proofs.Unmoved.{yields-beside, agree-beside}
use Rattle.cw_laws.proofs.Entered.{MayStand, behind, others-behind, unfenced-back, enters, pair-enters}
use Rattle.cw_laws.proofs.Apart.{connectors_at}
use Rattle.cw_laws.proofs.Written.{list-short}
use Rattle.cw_laws.proofs.Ends.{map-agree, zip-so}

-- ---- spans of a script's parts

-- a part of a connector, or of a source, is none of a script's
abbrev IsNoRaw : PartKey → Type 0
IsNoRaw part = (n : ℕ) → same_part part (Raw n) ≡ false

connector-no_raw : (connector : List ℕ) (part : PartKey) → connector_of part ≡ Some connector → IsNoRaw part
connector-no_raw connector (Raw k) own n = cc
connector-no_raw connector (File a f) own n = refl
connector-no_raw connector (Seq a i) own n = refl
connector-no_raw connector (Sink a t) own n = refl

source-no_raw : (part : PartKey) → IsOfSource part → IsNoRaw part
source-no_raw (Raw k) own n = absurd own
source-no_raw (File a f) own n = refl
source-no_raw (Seq a i) own n = refl
source-no_raw (Sink a t) own n = absurd own

-- they leave other parts
raw-leaves : (part : PartKey) → IsNoRaw part → (entries : List Entry) (list : List (ℕ × ℕ)) (h : History) → fold (after_span part) h (map (raw_span entries) list) ≡ h
raw-leaves part other entries [] h = refl
raw-leaves part other entries (pair ∷ list) h =
    ap (λ (k : History). fold (after_span part) k (map (raw_span entries) list)) (ap (λ b. cond b (record { base = h.base; end = Some pair.1 }) h) (other pair.0))
    ∙ raw-leaves part other entries list h

raw-parts : (entries : List Entry) (list : List (ℕ × ℕ)) → AllByRecursion IsRaw (map part_of (map (raw_span entries) list))
raw-parts entries [] = tt
raw-parts entries (pair ∷ list) = (tt, raw-parts entries list)

raw-apart : (entries : List Entry) (k : ℕ) (list : List (ℕ × ℕ)) → AllByRecursion (λ n. (k == n) ≡ false) (map (λ (pair : ℕ × ℕ). pair.0) list) →
    AllByRecursion (λ q. same_part (Raw k) q ≡ false) (map part_of (map (raw_span entries) list))
raw-apart entries k [] each = tt
raw-apart entries k (pair ∷ list) each = (each.0, raw-apart entries k list each.1)

raw-distinct : (entries : List Entry) (list : List (ℕ × ℕ)) → IsDistinct (λ a b. a == b) (map (λ (pair : ℕ × ℕ). pair.0) list) → IsDistinct same_part (map part_of (map (raw_span entries) list))
raw-distinct entries [] distinct = none_distinct
raw-distinct entries (pair ∷ list) distinct = IsDistinct-cons same_part (Raw pair.0) (map part_of (map (raw_span entries) list))
    (raw-apart entries pair.0 list (IsDistinct-head (λ a b. a == b) pair.0 (map (λ (pair : ℕ × ℕ). pair.0) list) distinct))
    (raw-distinct entries list (IsDistinct-tail (λ a b. a == b) pair.0 (map (λ (pair : ℕ × ℕ). pair.0) list) distinct))

none-found : {X : Type 0} (p : X → Bool) (xs : List X) → find p xs ≡ None → AllByRecursion (λ x. p x ≡ false) xs
none-found p [] none = tt
none-found p (x ∷ xs) none = by (p x) refl (none-found p xs) none where
  by : (b : Bool) → p x ≡ b → (find p xs ≡ None → AllByRecursion (λ x. p x ≡ false) xs) → cond b (Some x) (find p xs) ≡ None → AllByRecursion (λ x. p x ≡ false) (x ∷ xs)
  by true is later none = cc
  by false is later none = (is, later none)

raw-go_on : (entries : List Entry) (list : List (ℕ × ℕ)) → AllByRecursion (λ span. is_bad_span span ≡ false) (map (raw_span entries) list) →
    AllByRecursion (λ (span : Span). GoesOn (history span.part entries) span) (map (raw_span entries) list)
raw-go_on entries [] good = tt
raw-go_on entries (pair ∷ list) good = ((refl, leb-false pair.1 (end_or_start (Raw pair.0) entries) good.0), raw-go_on entries list good.1)

raw-fit : (entries : List Entry) (list : List (ℕ × ℕ)) → AllByRecursion (λ span. is_bad_span span ≡ false) (map (raw_span entries) list) →
    AllByRecursion (λ (pair : ℕ × ℕ). pair.0 < 2 ^ 32) list → AllByRecursion (λ (pair : ℕ × ℕ). pair.1 < 2 ^ 64) list → AllByRecursion IsSpan (map (raw_span entries) list)
raw-fit entries [] good parts ends = tt
raw-fit entries (pair ∷ list) good parts ends =
    ((parts.0, omega (arith, leb-false pair.1 (end_or_start (Raw pair.0) entries) good.0, ends.0), ends.0), raw-fit entries list good.1 parts.1 ends.1)

bad-keeps : {A : Type 0} (P : Cluster → Type 0) (o : Option Span) (done : Answer A) (s : Cluster) → P s → (o ≡ None → P done.1) → P (unless_bad o done s).1
bad-keeps P None done s same kept = kept refl
bad-keeps P (Some span) done s same kept = same

-- ---- the event

module _ (setting : Setting) (n : ℕ) (epoch : Epoch) (list : List (ℕ × ℕ)) (s : Cluster) (may : MayRawCommit n list) (last : epoch.0 ≡ last_epoch (producer.Raw n) s)
    (good : find is_bad_span (map (raw_span s.entries) list) ≡ None) (f : AreFacts setting s) where
  abbrev spans : List Span
  spans = map (raw_span s.entries) list

  abbrev e : Entry
  e = raw_commit_of n epoch spans s.entries

  abbrev tag : Tag
  tag = record { number = list_end s.entries; epoch = epoch; tid = producer.Raw n }

  abbrev mid : Cluster
  mid = behind e s

  none_bad : AllByRecursion (λ span. is_bad_span span ≡ false) spans
  none_bad = none-found is_bad_span spans good

  size : length spans ≡ length list
  size = length-map list (raw_span s.entries)

  distinct : IsDistinct same_part (map part_of spans)
  distinct = raw-distinct s.entries list may.distinct

  few : list_end s.entries + 17 < 2 ^ 64
  few = list-short setting s f.logs

  allowed : IsAllowedBehind s.entries e
  allowed = record {
    legal = (last, is_committed-numbered tag n refl s.entries (allowed_is_numbered s.entries f.logs.entries) refl);
    some = omega (arith, size, may.some);
    few = omega (arith, size, may.few);
    distinct = distinct;
    own = (refl, All-from_recursion IsRaw (map part_of spans) (raw-parts s.entries list));
  }

  written : AreEntries (e ∷ [])
  written = record {
    some = omega arith;
    list = (
      omega arith,
      (
        (
          (may.producer, omega (arith, last, epoch_of_le (producer.Raw n) s.entries, few), omega (arith, few)),
          omega arith,
          (
            omega (arith, size, may.few),
            raw-fit s.entries list none_bad (recursion_from_All (λ (pair : ℕ × ℕ). pair.0 < 2 ^ 32) list may.parts) (recursion_from_All (λ (pair : ℕ × ℕ). pair.1 < 2 ^ 64) list may.ends),
          ),
        ),
        tt,
      ),
    );
  }

  leaves : (part : PartKey) → IsNoRaw part → LeavesPart part e
  leaves part other h = raw-leaves part other s.entries list h

  no_task : (other : Tag) → is_task other.tid ≡ true → same_tag other tag ≡ true → ⊥
  no_task other task same =
      let raw : is_task (producer.Raw n) ≡ true = subst (λ (t : Tag). is_task t.tid ≡ true) ((same_tag-Decides other tag).0 same) task in
      let none : false ≡ true = raw in cc

  stands : MayStand setting s e
  stands = record {
    allowed = allowed;
    chains = λ part. spans_chain part (λ (p : PartKey). history p s.entries) spans distinct (All-from_recursion (λ (span : Span). GoesOn (history span.part s.entries) span) spans (raw-go_on s.entries list none_bad));
    backed = λ task. absurd (let none : false ≡ true = task in cc);
    newer = λ name generation mark older task. absurd (cc);
    yields = λ agreed part source. yields-beside setting s e part record { leaves = leaves part (source-no_raw part source); unset = refl; none = refl } (f.safe.exact.yields agreed part source);
    agree = λ agreed. agree-beside setting s e no_task (f.logs.agree agreed);
  }

  grow : (tid : Tid) → epoch_of tid s.entries ≤ epoch_of tid mid.entries
  grow tid = epoch-push tid s.entries e

  abbrev old : PartKey → ℕ
  old q = end_or_start q s.entries

  abbrev new : PartKey → ℕ
  new q = end_or_start q mid.entries

  -- the ends of a task's parts stay
  ends-stay : (k : ℕ) (id : TaskId) → IsOfTask s k id → AllByRecursion (λ q. new q ≡ old q) (parts_of (instance_of k s))
  ends-stay k id o = each-weaker (λ q. connector_of q ≡ Some id.connector) (λ q. new q ≡ old q) (parts_of (instance_of k s))
      (λ q own. end-stays q s.entries e (leaves q (connector-no_raw id.connector q own))) (connectors_at s k id f.rows.instances o)

  tags-behind : commit_tags mid ≡ commit_tags s ++ tag ∷ []
  tags-behind = commit_tags-push s.entries e

  pub raw_commit-done : fits_entries (e ∷ []) s ≡ true → AreFacts setting mid
  raw_commit-done room = all_facts setting mid (others-behind setting e s stands written room (other_facts setting s f))
      (facts_of_all setting mid
      (λ k. enters setting s mid.txn mid.entries grow f.rows k (facts_of_one setting s f.producers k) record {
        ends = λ id x at. map-agree new old (parts_of (instance_of k s))
            (ends-stay k id (unfenced-back setting s mid.txn mid.entries grow f.rows k (facts_of_one setting s f.producers k) id x).last.is_task);
        ahead = λ id x. zip-so (λ q. new q ≡ old q) (λ (p : PartKey × ℕ). p.1 ≤ old p.0) (λ (p : PartKey × ℕ). p.1 ≤ new p.0) (parts_of (instance_of k s)) (instance_of k s).positions
            (λ p same below. omega (arith, same, below)) (ends-stay k id x.is_task) (f.producers.not_ahead k id x);
        commits = λ id epoch' o has. subst (λ (tags : List Tag). AllByRecursion (IsBelow id epoch' (commits_up_to (instance_of k s))) tags) (sym tags-behind)
            (each-push (IsBelow id epoch' (commits_up_to (instance_of k s))) (commit_tags s) tag (λ tid of. absurd (let none : false ≡ true = tid in cc)) (f.producers.numbers k id epoch' o has).commits);
      })
      (λ a b ne. pair-enters setting s mid.txn mid.entries grow f.rows a b (facts_of_one setting s f.producers a) (facts_of_one setting s f.producers b) (facts_of_two setting s f.producers a b ne)))

pub raw_commit-keeps : (setting : Setting) (n : ℕ) (epoch : Epoch) (list : List (ℕ × ℕ)) (s : Cluster) → MayRawCommit n list → AreFacts setting s → AreFacts setting (raw_commit n epoch list s).1
raw_commit-keeps setting n epoch list s may f = closed-keeps (AreFacts setting) s s.closed _ f
    (if-keeps (AreFacts setting) (epoch.0 == last_epoch (producer.Raw n) s) _ _
    (λ current. bad-keeps (AreFacts setting) (find is_bad_span (map (raw_span s.entries) list)) _ s f (λ good.
    entries-keeps (AreFacts setting) s (raw_commit_of n epoch (map (raw_span s.entries) list) s.entries ∷ []) _ _ f (λ room.
    raw_commit-done setting n epoch list s may ((Decides-eqb epoch.0 (last_epoch (producer.Raw n) s)).0 current) good f room)))
    (λ stale. f))
