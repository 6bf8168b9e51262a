-- One entry, and one frame, more of the transaction log, as it is safe.
use Rattle.std.proofs.Common.{◌≡◌, ◌↔◌, ℕ, ◌+◌, ◌<◌, ◌≤◌, Bool, true, false, cond, IsTrue, List, [], ◌∷◌, ◌++◌, length, take, get_or, map, Option, Some, None, refl, sym, ap, subst, ◌∙◌}
use Rattle.std.specs.List.{IsDistinct, Any, AllByRecursion}
use Rattle.std.proofs.lemmas.List.Elements.{All-from_recursion}
use Rattle.std.proofs.lemmas.Map.Keys.{IsDistinct-head, IsDistinct-tail}
use Rattle.cw_types.specs.declared.ids.PartKey.{PartKey}
use Rattle.cw_types.specs.declared.ids.Span.{Span}
use Rattle.cw_types.specs.declared.ids.Tag.{Tag}
use Rattle.cw_types.specs.declared.ids.Tid.{Tid}
use Rattle.cw_types.specs.declared.ids.Tid.TheVariants.{Lead, Task, Raw}
use Rattle.cw_types.specs.declared.ids.TaskId.{TaskId}
use Rattle.cw_types.specs.declared.ids.Epoch.{Epoch}
use Rattle.cw_types.specs.Same.{same_part}
use Rattle.cw_types.proofs.SameLemmas.{same_part-Decides}
use Rattle.cw_bytes.specs.Frames.{EachFrom, joined}
use Rattle.cw_config.specs.declared.records.ConfigRecord.{ConfigRecord}
use Rattle.cw_txn.specs.declared.entry.Entry.{Entry}
use Rattle.cw_txn.specs.declared.entry.Entry.TheVariants.{Bump, Commit, Set}
use Rattle.cw_txn.specs.declared.entry.SetOffset.{SetOffset}
use Rattle.cw_txn.specs.declared.history.History.{History}
use Rattle.cw_txn.specs.History.{history, GoesOn, SpansChain, after_span}
use Rattle.cw_txn.specs.Legal.{ChainsBehind}
use Rattle.cw_txn.specs.Allowed.{IsAllowedBehind, IsAllowedCommit}
use Rattle.cw_txn.specs.Transactions.{AreNext}
use Rattle.cw_txn.proofs.Chained.{part_of, spans_chain}
use Rattle.cw_data.specs.declared.entry.DataEntry.{DataEntry}
use Rattle.cw_model.specs.Fences.{StandingFence}
use Rattle.cw_model.specs.Committed.{batches_of, is_task}
use Rattle.cw_model.specs.Lookups.{task_connector}
use Rattle.cw_model.specs.StandsFor.{IsBatchFor, IsSafeEntry}
use Rattle.cw_open.specs.declared.safety.Known.{Known}
use Rattle.cw_open.specs.Judging.{Steps}
use Rattle.cw_open.specs.SafeEntries.{AreAllowedFrames, AreKnown, StandsBehind, IsSafeTask}
use Rattle.cw_open.proofs.Firsts.{each_at}
use Rattle.cw_open.proofs.Steps.{refuted, Walked, more, all_not, all_taken, added_none, added_more, added_all}

-- ---- spans

-- spans of other parts chain, whatever their part's history
others : (part : PartKey) (h : History) (spans : List Span) → AllByRecursion (λ q. same_part part q ≡ false) (map part_of spans) → SpansChain part h spans
others part h [] apart = tt
others part h (span ∷ spans) apart = (λ same. absurd (let clash : true ≡ false = sym same ∙ apart.0 in cc), others part (after_span part h span) spans apart.1)

module _ (before : PartKey → History) where
  behind : (span : Span) (spans : List Span) (part : PartKey) → AllByRecursion (λ q. same_part span.part q ≡ false) (map part_of spans)
      → (b : Bool) → same_part part span.part ≡ b → SpansChain part (cond b (record { base = (before part).base; end = Some span.to }) (before part)) spans → SpansChain part (before part) spans
  behind span spans part apart false same chain = chain
  behind span spans part apart true same chain = others part (before part) spans
      (subst (λ (p : PartKey). AllByRecursion (λ q. same_part p q ≡ false) (map part_of spans)) (sym ((same_part-Decides part span.part).0 same)) apart)

  -- where the spans of each part chain, and no two are of one part, each goes on from its part's end
  go_on : (spans : List Span) → IsDistinct same_part (map part_of spans) → ((part : PartKey) → SpansChain part (before part) spans) → AllByRecursion (λ (span : Span). GoesOn (before span.part) span) spans
  go_on [] distinct chains = tt
  go_on (span ∷ spans) distinct chains = (
    (chains span.part).0 ((same_part-Decides span.part span.part).1 refl),
    go_on spans (IsDistinct-tail same_part span.part (map part_of spans) distinct)
        (λ part. behind span spans part (IsDistinct-head same_part span.part (map part_of spans) distinct) (same_part part span.part) refl (chains part).1),
  )

module _ (before : List Entry) (tag : Tag) (generation : ℕ) (spans : List Span) (allowed : IsAllowedCommit before tag generation spans) where
  -- spans of an allowed commit that chain are next
  pub next_from : ((part : PartKey) → ChainsBehind part before (Commit tag generation spans)) → AreNext before spans
  next_from chains = record {
    some = allowed.some;
    few = allowed.few;
    distinct = allowed.distinct;
    go_on = All-from_recursion (λ (span : Span). GoesOn (history span.part before) span) spans (go_on (λ part. history part before) spans allowed.distinct chains);
  }

  pub commit_chains : (b : Bool) → (IsTrue b ↔ AreNext before spans) → IsTrue b ↔ ((part : PartKey) → ChainsBehind part before (Commit tag generation spans))
  commit_chains b test = (
    λ e part. spans_chain part (λ p. history p before) spans allowed.distinct (test.0 e).go_on,
    λ chains. test.1 (next_from chains),
  )

-- ---- batches and fences

module _ (records : List ConfigRecord) (log : List DataEntry) (place : ℕ) where
  pub bump_stands : (tid : Tid) → IsTrue true ↔ StandsBehind records log place (Bump tid)
  bump_stands tid = (λ _. record { batches = tt; fenced = λ name g m stands before. tt }, λ _. refl)

  pub set_stands : (tid : Tid) (epoch : Epoch) (list : List SetOffset) → IsTrue true ↔ StandsBehind records log place (Set tid epoch list)
  set_stands tid epoch list = (λ _. record { batches = tt; fenced = λ name g m stands before. tt }, λ _. refl)

  module _ (tag : Tag) (generation : ℕ) (spans : List Span) where
    abbrev stands_with : Tid → Type 0
    stands_with tid = StandsBehind records log place (Commit (record { tid = tid; epoch = tag.epoch; number = tag.number }) generation spans)

    pub lead_stands : tag.tid ≡ Lead → IsTrue true ↔ StandsBehind records log place (Commit tag generation spans)
    lead_stands is = subst (λ (tid : Tid). IsTrue true ↔ stands_with tid) (sym is) (
      λ _. record { batches = λ task. absurd (cc); fenced = λ name g m stands before own. absurd (let clash : ◌≡◌ {A = Option (List ℕ)} None (Some name) = own in cc) },
      λ _. refl,
    )

    pub raw_stands : (n : ℕ) → tag.tid ≡ Raw n → IsTrue true ↔ StandsBehind records log place (Commit tag generation spans)
    raw_stands n is = subst (λ (tid : Tid). IsTrue true ↔ stands_with tid) (sym is) (
      λ _. record { batches = λ task. absurd (cc); fenced = λ name g m stands before own. absurd (let clash : ◌≡◌ {A = Option (List ℕ)} None (Some name) = own in cc) },
      λ _. refl,
    )

    one-some : (a b : List ℕ) → Some a ≡ Some b → a ≡ b
    one-some a b e = cc

    pub task_stands : (id : TaskId) → tag.tid ≡ Task id → (b : Bool) → (IsTrue b ↔ IsSafeTask records log id.connector place tag generation spans) → IsTrue b ↔ StandsBehind records log place (Commit tag generation spans)
    task_stands id is b test = (
      λ e. record {
        batches = λ task. (test.0 e).batches;
        fenced = λ name g m stands before own.
            let same : id.connector ≡ name = one-some id.connector name (sym (ap task_connector is) ∙ own) in
            (test.0 e).fenced g m (subst (λ (n : List ℕ). StandingFence records n g m) (sym same) stands) before;
      },
      λ all. test.1 (record {
        batches = all.batches (ap is_task is);
        fenced = λ newer m stands before. all.fenced id.connector newer m stands before (ap task_connector is);
      }),
    )

    module _ (connector : List ℕ) (have : Bool) (batches : IsTrue have ↔ AllByRecursion (λ span. Any (IsBatchFor tag span) (batches_of log)) spans) where
      pub task_unbacked : have ≡ false → IsTrue false ↔ IsSafeTask records log connector place tag generation spans
      task_unbacked not = (λ e. cc, λ safe. absurd (refuted have batches not safe.batches))

      pub task_passes : have ≡ true → (pass : Bool) → (IsTrue pass ↔ ((newer mark : ℕ) → StandingFence records connector newer mark → mark ≤ place → newer ≤ generation))
          → IsTrue pass ↔ IsSafeTask records log connector place tag generation spans
      task_passes told pass fenced = (
        λ e. record { batches = batches.0 told; fenced = fenced.0 e },
        λ safe. fenced.1 safe.fenced,
      )

-- ---- an entry

module _ (records : List ConfigRecord) (log : List DataEntry) (before : List Entry) (entry : Entry) where
  pub safe_entry : (a b : Bool) → (IsTrue a ↔ ((part : PartKey) → ChainsBehind part before entry)) → a ≡ true → (IsTrue b ↔ StandsBehind records log (length before) entry) → IsTrue b ↔ IsSafeEntry records log before entry
  safe_entry a b chains told stands = (
    λ e. record { chains = chains.0 told; batches = (stands.0 e).batches; fenced = (stands.0 e).fenced },
    λ safe. stands.1 (record { batches = safe.batches; fenced = safe.fenced }),
  )

  pub unchained : (a : Bool) → (IsTrue a ↔ ((part : PartKey) → ChainsBehind part before entry)) → a ≡ false → IsTrue false ↔ IsSafeEntry records log before entry
  unchained a chains not = (λ e. cc, λ safe. absurd (refuted a chains not safe.chains))

pub stays : (Q : Type 0) (b c : Bool) → (IsTrue b ↔ Q) → b ≡ c → IsTrue c ↔ Q
stays Q b c test is = subst (λ (d : Bool). IsTrue d ↔ Q) is test

-- ---- a frame

-- a walk, whatever is known
pub record WalkedSafe (known : Known) (old frame : List Entry) (at : ℕ) (now : List Entry) : Type 0 where
  pub taken : now ≡ old ++ take at frame
  pub each : (records : List ConfigRecord) (log : List DataEntry) → AreKnown known records log → EachFrom (IsSafeEntry records log) old (take at frame)

-- what one entry more says
pub record TakesSafe (known : Known) (old : List Entry) (entry : Entry) (new : List Entry) (b : Bool) : Type 0 where
  pub taken : IsTrue b → new ≡ old ++ entry ∷ []
  pub fits : (records : List ConfigRecord) (log : List DataEntry) → AreKnown known records log → IsTrue b ↔ IsSafeEntry records log old entry

pub safe_begins : (known : Known) (old frame : List Entry) → WalkedSafe known old frame 0 old
safe_begins known old frame = record {
  taken = added_none old frame;
  each = λ records log all. tt;
}

module _ (known : Known) (old frame : List Entry) (at : ℕ) (now : List Entry) (walked : WalkedSafe known old frame at now) (x : Entry) (within : at < length frame) (is : x ≡ get_or frame at x) where
  pub may_stand : EachFrom IsAllowedBehind old frame → IsAllowedBehind now x
  may_stand allowed = subst (λ (l : List Entry). IsAllowedBehind l x) (sym walked.taken) (each_at IsAllowedBehind old frame at allowed x within is)

  module _ (new : List Entry) (b : Bool) (step : TakesSafe known now x new b) where
    abbrev so_far : (records : List ConfigRecord) (log : List DataEntry) → AreKnown known records log → Walked (IsSafeEntry records log) old frame at now
    so_far records log all = record { each = walked.each records log all; now = walked.taken }

    abbrev one : (records : List ConfigRecord) (log : List DataEntry) → AreKnown known records log → Steps (IsSafeEntry records log) now x new b
    one records log all = record { fits = step.fits records log all; taken = step.taken }

    pub safe_more : b ≡ true → WalkedSafe known old frame (at + 1) new
    safe_more told = record {
      taken = added_more old frame at now walked.taken x within is new (step.taken told);
      each = λ records log all. (more (IsSafeEntry records log) old frame at now (so_far records log all) x within is new b (one records log all) told).each;
    }

    pub safe_not : b ≡ false → (records : List ConfigRecord) (log : List DataEntry) → AreKnown known records log → IsTrue false ↔ EachFrom (IsSafeEntry records log) old frame
    safe_not not records log all = (all_not (IsSafeEntry records log) old frame at now (so_far records log all) x within is new new b (one records log all) not).fits

module _ (known : Known) (old frame : List Entry) (at : ℕ) (now : List Entry) (walked : WalkedSafe known old frame at now) (all : length frame ≤ at) where
  pub safe_taken : now ≡ old ++ frame
  safe_taken = added_all old frame at now walked.taken all

  pub safe_all : (records : List ConfigRecord) (log : List DataEntry) → AreKnown known records log → IsTrue true ↔ EachFrom (IsSafeEntry records log) old frame
  safe_all records log are = (all_taken (IsSafeEntry records log) old frame at now (record { each = walked.each records log are; now = walked.taken }) all).fits

-- frames
pub frame_allowed : (frames : List (List Entry)) → AreAllowedFrames [] frames → (at : ℕ) (now : List Entry) → now ≡ joined (take at frames) → (frame : List Entry) → at < length frames → frame ≡ get_or frames at frame
    → EachFrom IsAllowedBehind now frame
frame_allowed frames allowed at now is frame within here =
    subst (λ (l : List Entry). EachFrom IsAllowedBehind l frame) (sym is)
    (each_at (λ (before : List (List Entry)) (f : List Entry). EachFrom IsAllowedBehind (joined before) f) [] frames at allowed frame within here)
