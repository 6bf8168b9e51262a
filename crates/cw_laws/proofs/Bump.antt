-- A bump of a producer's epoch keeps all facts: whoever wrote under an older one is fenced from then on.
use Rattle.std.proofs.Common.{◌≡◌, ℕ, ◌≤◌, ◌++◌, ◌∷◌, [], true, List, map, refl, sym, ◌∙◌, subst, arith, append-nil}
use Rattle.std.specs.List.{AllByRecursion, filter_map, zip}
use Rattle.cw_types.specs.declared.ids.Tid.{Tid}
use Rattle.cw_types.specs.declared.ids.TaskId.{TaskId}
use Rattle.cw_types.specs.declared.ids.Tag.{Tag}
use Rattle.cw_types.specs.declared.ids.PartKey.{PartKey}
use Rattle.cw_bytes.specs.Spelling.{IsTid}
use Rattle.cw_txn.specs.declared.entry.Entry.{Entry}
use Rattle.cw_txn.specs.declared.entry.Entry.TheVariants.{Bump}
use Rattle.cw_txn.specs.Body.{AreEntries}
use Rattle.cw_txn.specs.Legal.{epoch_of}
use Rattle.cw_model.specs.State.{Setting, Cluster}
use Rattle.cw_model.specs.Lookups.{instance_of, end_or_start}
use Rattle.cw_model.specs.Updates.{fits_entries}
use Rattle.cw_model.specs.Tasks.{parts_of}
use Rattle.cw_model.specs.Facts.{AreFacts}
use Rattle.cw_model.specs.FactsProducers.{IsUnfenced, IsBelow, commit_tag, commits_up_to}
use Rattle.cw_laws.proofs.Lists.{each-weaker}
use Rattle.cw_laws.proofs.AtInstance.{facts_of_one, facts_of_two, facts_of_all}
use Rattle.cw_laws.proofs.Others.{other_facts, all_facts}
use Rattle.cw_laws.proofs.EntryPush.{epoch-push, end-stays, commit_tags-push}
use Rattle.cw_laws.proofs.Entered.{behind, EntryFacts, entry_facts, MayStand, others-behind, StaysAtEnds, unfenced-back, enters, pair-enters}
use Rattle.cw_laws.proofs.Unmoved.{yields-beside, agree-beside}

-- a bump may be written
pub bump-stands : (setting : Setting) (tid : Tid) (s : Cluster) → EntryFacts setting s → MayStand setting s (Bump tid)
bump-stands setting tid s f = record {
  allowed = tt;
  chains = λ part. tt;
  backed = tt;
  newer = λ name generation mark stands. tt;
  yields = λ agreed part source. yields-beside setting s (Bump tid) part record { leaves = λ h. refl; unset = refl; none = refl } (f.exact.yields agreed part source);
  agree = λ agreed. agree-beside setting s (Bump tid) (λ tag task now. cc) (f.agree agreed);
}

bump-written : (tid : Tid) → IsTid tid → AreEntries (Bump tid ∷ [])
bump-written tid fits = record { some = omega arith; list = (omega arith, (fits, tt)) }

pub commit_tags-bump : (tid : Tid) (entries : List Entry) → filter_map commit_tag (entries ++ Bump tid ∷ []) ≡ filter_map commit_tag entries
commit_tags-bump tid entries = commit_tags-push entries (Bump tid) ∙ append-nil (filter_map commit_tag entries)

module _ (setting : Setting) (tid : Tid) (s : Cluster) (f : AreFacts setting s) where
  abbrev t : Cluster
  t = behind (Bump tid) s

  grow : (other : Tid) → epoch_of other s.entries ≤ epoch_of other t.entries
  grow other = epoch-push other s.entries (Bump tid)

  -- who isn't fenced behind it wasn't before
  pub unfenced-before : (n : ℕ) (id : TaskId) → IsUnfenced t n id → IsUnfenced s n id
  unfenced-before n id o = unfenced-back setting s t.txn t.entries grow f.rows n (facts_of_one setting s f.producers n) id o

  end-bump : (part : PartKey) → end_or_start part t.entries ≡ end_or_start part s.entries
  end-bump part = end-stays part s.entries (Bump tid) (λ h. refl)

  ends-bump : (parts : List PartKey) → map (λ part. end_or_start part t.entries) parts ≡ map (λ part. end_or_start part s.entries) parts
  ends-bump [] = refl
  ends-bump (part ∷ parts) = rw (end-bump part, ends-bump parts) refl

  stays : (n : ℕ) → StaysAtEnds s t n
  stays n = record {
    ends = λ id u fetched. ends-bump (parts_of (instance_of n s));
    ahead = λ id u. each-weaker (λ (p : PartKey × ℕ). p.1 ≤ end_or_start p.0 s.entries) (λ (p : PartKey × ℕ). p.1 ≤ end_or_start p.0 t.entries)
        (zip (parts_of (instance_of n s)) (instance_of n s).positions) (λ p below. rw (end-bump p.0) below) (f.producers.not_ahead n id u);
    commits = λ id epoch u has. subst (λ (tags : List Tag). AllByRecursion (IsBelow id epoch (commits_up_to (instance_of n s))) tags) (sym (commit_tags-bump tid s.entries)) (f.producers.numbers n id epoch u has).commits;
  }

  pub bumped : IsTid tid → fits_entries (Bump tid ∷ []) s ≡ true → AreFacts setting t
  bumped fits room = all_facts setting t
      (others-behind setting (Bump tid) s (bump-stands setting tid s (entry_facts setting s (other_facts setting s f))) (bump-written tid fits) room (other_facts setting s f))
      (facts_of_all setting t
      (λ n. enters setting s t.txn t.entries grow f.rows n (facts_of_one setting s f.producers n) (stays n))
      (λ m n ne. pair-enters setting s t.txn t.entries grow f.rows m n (facts_of_one setting s f.producers m) (facts_of_one setting s f.producers n) (facts_of_two setting s f.producers m n ne)))

pub bump-keeps : (setting : Setting) (tid : Tid) (s : Cluster) → IsTid tid → fits_entries (Bump tid ∷ []) s ≡ true → AreFacts setting s → AreFacts setting (behind (Bump tid) s)
bump-keeps setting tid s fits room f = bumped setting tid s f fits room
