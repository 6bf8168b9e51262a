-- The records of a frame, applied one after the other.
use Rattle.std.proofs.Common.{◌≡◌, ℕ, List, [], ◌∷◌, ◌++◌, length, true, refl, ap, sym, subst, ◌∙◌, append_assoc}
use Rattle.std.proofs.lemmas.List.{append-nil}
use Rattle.cw_config.specs.declared.records.ConfigRecord.{ConfigRecord}
use Rattle.cw_config.specs.declared.tables.Tables.{Tables}
use Rattle.cw_config.specs.Acceptance.{may_follow}
use Rattle.cw_config.specs.Compaction.{AreAccepted}
use Rattle.cw_config.specs.Tables.{Keeps, HasRow, HaveRows, KeepsRows}
use Rattle.cw_config.proofs.MadeRows.{have-kept}

-- the records so far and those that are left, which are all together
pub record Applying (tables : Tables) (records rest whole : List ConfigRecord) : Type 0 where
  pub kept : Keeps tables records
  pub rows : HaveRows tables rest
  pub accepted : AreAccepted records rest
  pub joined : records ++ rest ≡ whole

module _ (tables : Tables) (records rest whole : List ConfigRecord) (applying : Applying tables records rest whole) where
  module _ (r : ConfigRecord) (behind : List ConfigRecord) (is : rest ≡ r ∷ behind) where
    pub has_row : HasRow tables r.key
    has_row = (subst (HaveRows tables) is applying.rows).0

    pub follows : may_follow records r ≡ true
    follows = (subst (AreAccepted records) is applying.accepted).0

    pub applied_one : (now : Tables) (longer : List ConfigRecord) → longer ≡ records ++ r ∷ [] → Keeps now longer → KeepsRows tables now → Applying now longer behind whole
    applied_one now longer one kept keeps = record {
      kept = kept;
      rows = have-kept tables now behind keeps (subst (HaveRows tables) is applying.rows).1;
      accepted = subst (λ (l : List ConfigRecord). AreAccepted l behind) (sym one) (subst (AreAccepted records) is applying.accepted).1;
      joined = ap (λ (l : List ConfigRecord). l ++ behind) one ∙ append_assoc records (r ∷ []) behind ∙ ap (λ (l : List ConfigRecord). records ++ l) (sym is) ∙ applying.joined;
    }

  pub applied_all : length rest ≡ 0 → records ≡ whole
  applied_all none = sym (append-nil records) ∙ ap (λ (l : List ConfigRecord). records ++ l) (sym (empty rest none)) ∙ applying.joined
    where
      empty : (l : List ConfigRecord) → length l ≡ 0 → l ≡ []
      empty [] e = refl
      empty (x ∷ l) e = cc
