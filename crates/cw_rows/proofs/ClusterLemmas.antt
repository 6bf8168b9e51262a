-- What each worker has read, as it reads on and as workers come.
use Rattle.std.proofs.Common.{◌≡◌, ℕ, ◌<◌, List, [], ◌∷◌, ◌++◌, length, take, drop, zero, suc, refl, inl, inr, sym, ◌∙◌, ap, subst, arith, get_or, append-nil, append_assoc}
use Rattle.std.proofs.lemmas.Bool.{cases_eq}
use Rattle.std.proofs.lemmas.List.{length-set, get_or-set_other}
use Rattle.std.proofs.lemmas.Grind.{get_or-set_at}
use Rattle.cw_bytes.specs.Frames.{EachFrom}
use Rattle.cw_config.specs.declared.records.ConfigRecord.{ConfigRecord}
use Rattle.cw_config.specs.Compaction.{AreAccepted}
use Rattle.cw_model.specs.declared.row.Row.{Row}
use Rattle.cw_model.specs.Lookups.{no_row}
use Rattle.cw_rows.specs.Crew.{CrewState, with_read}
use Rattle.cw_topics.specs.Topics.{TopicsState}
use Rattle.cw_rows.specs.Kept.{IsCluster}

each-further : {A : Type 0} (P : List A → A → Type 0) (before xs : List A) (n : ℕ) → EachFrom P before xs →
    EachFrom P (before ++ take n xs) (drop n xs)
each-further {A} P before xs zero each = subst (λ (l : List A). EachFrom P l xs) (sym (append-nil before)) each
each-further P before [] (suc n) each = tt
each-further {A} P before (x ∷ xs) (suc n) each =
    subst (λ (l : List A). EachFrom P l (drop n xs)) (append_assoc before (x ∷ []) (take n xs))
    (each-further P (before ++ x ∷ []) xs n each.1)

all-taken : {A : Type 0} (n : ℕ) (xs : List A) → take n xs ++ drop n xs ≡ xs
all-taken zero xs = refl
all-taken (suc n) [] = refl
all-taken {A} (suc n) (x ∷ xs) = ap (λ (l : List A). x ∷ l) (all-taken n xs)

taken-whole : {A : Type 0} (xs : List A) → take (length xs) xs ≡ xs
taken-whole [] = refl
taken-whole {A} (x ∷ xs) = ap (λ (l : List A). x ∷ l) (taken-whole xs)

module _ (topics : TopicsState) (crew : CrewState) (known : IsCluster topics crew) (w : ℕ) (there : w < length crew.rows) where
  pub further-accepted : AreAccepted [] topics.configs →
      AreAccepted (get_or crew.reads w []) (drop (get_or crew.rows w no_row).prefix topics.configs)
  further-accepted accepted =
      subst (λ (l : List ConfigRecord). AreAccepted l (drop (get_or crew.rows w no_row).prefix topics.configs)) (sym (known.reads w there))
      (each-further _ [] topics.configs (get_or crew.rows w no_row).prefix accepted)

  pub cluster-read : IsCluster topics (with_read w topics.configs crew)
  cluster-read =
      let p = (get_or crew.rows w no_row).prefix in
      let row = record (get_or crew.rows w no_row) { prefix = length topics.configs } in
      let further = get_or crew.reads w [] ++ drop p topics.configs in
      let all : further ≡ topics.configs = ap (λ (l : List ConfigRecord). l ++ drop p topics.configs) (known.reads w there) ∙ all-taken p topics.configs in
      record {
        each = length-set crew.reads w further ∙ known.each ∙ sym (length-set crew.rows w row);
        reads = λ v within. elim (cases_eq v w) [
          | inl same ↦ get_or-set_at crew.reads w v further [] same (omega (arith, there, known.each)) ∙ all ∙ sym (taken-whole topics.configs) ∙
              ap (λ (r : Row). take r.prefix topics.configs) (sym (get_or-set_at crew.rows w v row no_row same there))
          | inr other ↦ get_or-set_other crew.reads w v further [] other ∙
              known.reads v (subst (λ (n : ℕ). v < n) (length-set crew.rows w row) within) ∙
              ap (λ (r : Row). take r.prefix topics.configs) (sym (get_or-set_other crew.rows w v row no_row other))
        ];
      }
