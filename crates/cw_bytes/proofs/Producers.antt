-- Ids and transactions: what is read is spelled so, and what is spelled so is read.
use Rattle.std.proofs.Common.{◌≡◌, ℕ, ◌^◌, ◌<◌, true, cond, eqb, List, [], ◌∷◌, ◌++◌, Ok, Err, refl, sym, ap, subst, ◌∙◌, ⊎_elim}
use Rattle.std.specs.Int.{w32, w64}
use Rattle.std.proofs.lemmas.Bool.{eqb-true}
use Rattle.cw_types.specs.Name.{IsName}
use Rattle.cw_types.specs.declared.ids.Tid.{Tid}
use Rattle.cw_types.specs.declared.ids.Tid.TheVariants.{Lead, Task, Raw}
use Rattle.cw_types.specs.declared.ids.Tag.{Tag}
use Rattle.cw_bytes.specs.declared.fault.FieldFault.TheVariants.{BadKind}
use Rattle.cw_bytes.specs.Unread.{Unread, AreBytes, Takes}
use Rattle.cw_bytes.specs.Spelling.{word, long, text, tid_bytes, tag_bytes, IsTid, IsTag}
use Rattle.cw_bytes.specs.Reading.{◌>>=◌, Read, byte_at, number_at, name_at, task_at, raw_id_at, tid_at, tag_at}
use Rattle.cw_bytes.proofs.Steps.{bind_ok, chosen, done, ok_is, Passes, Passes-then, both_takes, both_again, byte_takes, byte_again, no_value, kind_again}
use Rattle.cw_bytes.proofs.Widths.{word_takes, word_again, long_takes, long_again}
use Rattle.cw_bytes.proofs.Names.{name_takes, name_again}

abbrev pub below32 : ℕ → Type 0
below32 n = n < 2 ^ 32

abbrev pub below64 : ℕ → Type 0
below64 n = n < 2 ^ 64

abbrev task : List ℕ → ℕ → Tid
task connector index = Task (record { connector = connector; index = index })

task_takes : (kind from : Unread) (tid : Tid) (next : Unread) → Passes (2 ∷ []) kind from → task_at from ≡ Ok (tid, next) → Passes (tid_bytes tid) kind next × IsTid tid
unfolding task_at
task_takes kind from tid next behind e =
    let b = both_takes name_at (number_at w32) task text word IsName below32 name_takes word_takes name_again word_again from tid next behind.left e in
    subst (λ (t : Tid). Passes (tid_bytes t) kind next × IsTid t) b.made (Passes-then (2 ∷ []) (text b.a ++ word b.b) kind from next behind b.passes, (b.has_a, b.has_b))

raw_takes : (kind from : Unread) (tid : Tid) (next : Unread) → Passes (3 ∷ []) kind from → raw_id_at from ≡ Ok (tid, next) → Passes (tid_bytes tid) kind next × IsTid tid
unfolding raw_id_at
raw_takes kind from tid next behind e =
    let b = bind_ok (number_at w32 from) (λ n. done (Raw n.0, n.1)) (tid, next) e in
    let n = word_takes from b.0.0 b.0.1 behind.left b.1 in
    subst (λ (y : Tid × Unread). Passes (tid_bytes y.0) kind y.1 × IsTid y.0) (ok_is (Raw b.0.0, b.0.1) (tid, next) b.2) (Passes-then (3 ∷ []) (word b.0.0) kind from b.0.1 behind n.0, n.1)

abbrev tid_of_kind : ℕ × Unread → Read Tid
tid_of_kind kind = cond (eqb kind.0 1) (Ok (Lead, kind.1)) (cond (eqb kind.0 2) (task_at kind.1) (cond (eqb kind.0 3) (raw_id_at kind.1) (Err (BadKind kind.0))))

pub tid_takes : (from : Unread) (tid : Tid) (next : Unread) → AreBytes from.rest → tid_at from ≡ Ok (tid, next) → Passes (tid_bytes tid) from next × IsTid tid
unfolding tid_at
tid_takes from tid next fits e =
    let b = bind_ok (byte_at from) tid_of_kind (tid, next) e in
    let kind = byte_takes from b.0.0 b.0.1 fits b.1 in
    let is : (k : ℕ) → eqb b.0.0 k ≡ true → Passes (k ∷ []) from b.0.1 = λ k same. subst (λ (x : ℕ). Passes (x ∷ []) from b.0.1) (eqb-true b.0.0 k same) kind in
    ⊎_elim
    (λ lead. subst (λ (y : Tid × Unread). Passes (tid_bytes y.0) from y.1 × IsTid y.0) (ok_is (Lead, b.0.1) (tid, next) lead.1) (is 1 lead.0, tt))
    (λ other. ⊎_elim
    (λ a_task. task_takes from b.0.1 tid next (is 2 a_task.0) a_task.1)
    (λ neither. ⊎_elim
    (λ raw. raw_takes from b.0.1 tid next (is 3 raw.0) raw.1)
    (λ bad. absurd (no_value (BadKind b.0.0) (tid, next) bad.1))
    (chosen (eqb b.0.0 3) (raw_id_at b.0.1) (Err (BadKind b.0.0)) (done (tid, next)) neither.1))
    (chosen (eqb b.0.0 2) (task_at b.0.1) (cond (eqb b.0.0 3) (raw_id_at b.0.1) (Err (BadKind b.0.0))) (done (tid, next)) other.1))
    (chosen (eqb b.0.0 1) (Ok (Lead, b.0.1)) (cond (eqb b.0.0 2) (task_at b.0.1) (cond (eqb b.0.0 3) (raw_id_at b.0.1) (Err (BadKind b.0.0)))) (done (tid, next)) b.2)

pub tid_again : (tid : Tid) → IsTid tid → (from next : Unread) → Takes (tid_bytes tid) from next → tid_at from ≡ Ok (tid, next)
unfolding tid_at task_at raw_id_at
tid_again Lead is from next takes = ap (λ r. r >>= tid_of_kind) (byte_again 1 from next takes)
tid_again (Task id) is from next takes = kind_again 2 (text id.connector ++ word id.index) tid_of_kind (Task id, next) from next takes
    (λ mid there. both_again name_at (number_at w32) task text word IsName below32 name_takes word_takes name_again word_again id.connector id.index is.0 is.1 mid next there)
tid_again (Raw n) is from next takes = kind_again 3 (word n) tid_of_kind (Raw n, next) from next takes
    (λ mid there. ap (λ r. r >>= λ (x : ℕ × Unread). done (Raw x.0, x.1)) (word_again n is mid next there))

-- two long numbers behind a field
abbrev pub longs : ℕ × ℕ → List ℕ
longs p = long p.0 ++ long p.1

abbrev pub longs_at : Unread → Read (ℕ × ℕ)
longs_at from = number_at w64 from >>= λ a. number_at w64 a.1 >>= λ b. Ok ((a.0, b.0), b.1)

abbrev pub AreLongs : ℕ × ℕ → Type 0
AreLongs p = (p.0 < 2 ^ 64) × (p.1 < 2 ^ 64)

pub longs_takes : (from : Unread) (p : ℕ × ℕ) (next : Unread) → AreBytes from.rest → longs_at from ≡ Ok (p, next) → Passes (longs p) from next × AreLongs p
longs_takes from p next fits e =
    let b = both_takes (number_at w64) (number_at w64) (λ a b. (a, b)) long long below64 below64 long_takes long_takes long_again long_again from p next fits e in
    subst (λ (q : ℕ × ℕ). Passes (longs q) from next × AreLongs q) b.made (b.passes, (b.has_a, b.has_b))

pub longs_again : (p : ℕ × ℕ) → AreLongs p → (from next : Unread) → Takes (longs p) from next → longs_at from ≡ Ok (p, next)
longs_again p are from next takes = both_again (number_at w64) (number_at w64) (λ a b. (a, b)) long long below64 below64 long_takes long_takes long_again long_again p.0 p.1 are.0 are.1 from next takes

-- the last step of a value and two numbers, and of a value and a pair
abbrev pub from_three : {A C : Type 0} → (A → ℕ → ℕ → C) → A → ℕ → ℕ × Unread → Read C
from_three make a b c = Ok (make a b c.0, c.1)

abbrev pub from_pair : {A C : Type 0} → (A → ℕ → ℕ → C) → A → (ℕ × ℕ) × Unread → Read C
from_pair make a p = Ok (make a p.0.0 p.0.1, p.1)

abbrev paired : ℕ → ℕ × Unread → Read (ℕ × ℕ)
paired a c = Ok ((a, c.0), c.1)

module _ {A C : Type 0} (make : A → ℕ → ℕ → C) where
  last_step : (a : A) (b : ℕ) (r : Read ℕ) → (r >>= from_three make a b) ≡ ((r >>= paired b) >>= from_pair make a)
  last_step a b (Ok c) = refl
  last_step a b (Err e) = refl

  middle_step : (a : A) (r : Read ℕ) → (r >>= λ (b : ℕ × Unread). number_at w64 b.1 >>= from_three make a b.0) ≡ ((r >>= λ (b : ℕ × Unread). number_at w64 b.1 >>= paired b.0) >>= from_pair make a)
  middle_step a (Ok b) = last_step a b.0 (number_at w64 b.1)
  middle_step a (Err e) = refl

  -- a value and two long numbers, read one by one or as a pair
  pub regroup : (r : Read A) → (r >>= λ (a : A × Unread). number_at w64 a.1 >>= λ (b : ℕ × Unread). number_at w64 b.1 >>= from_three make a.0 b.0) ≡ (r >>= λ (a : A × Unread). longs_at a.1 >>= from_pair make a.0)
  regroup (Ok a) = middle_step a.0 (number_at w64 a.1)
  regroup (Err e) = refl

abbrev tag_of : Tid → ℕ → ℕ → Tag
tag_of tid epoch number = record { tid = tid; epoch = record { 0 = epoch }; number = number }

tag_regrouped : (from : Unread) → tag_at from ≡ (tid_at from >>= λ (a : Tid × Unread). longs_at a.1 >>= from_pair tag_of a.0)
unfolding tag_at
tag_regrouped from = regroup tag_of (tid_at from)

pub tag_takes : (from : Unread) (tag : Tag) (next : Unread) → AreBytes from.rest → tag_at from ≡ Ok (tag, next) → Passes (tag_bytes tag) from next × IsTag tag
tag_takes from tag next fits e =
    let b = both_takes tid_at longs_at (λ t p. tag_of t p.0 p.1) tid_bytes longs IsTid AreLongs tid_takes longs_takes tid_again longs_again from tag next fits (sym (tag_regrouped from) ∙ e) in
    subst (λ (t : Tag). Passes (tag_bytes t) from next × IsTag t) b.made (b.passes, (b.has_a, b.has_b.0, b.has_b.1))

pub tag_again : (tag : Tag) → IsTag tag → (from next : Unread) → Takes (tag_bytes tag) from next → tag_at from ≡ Ok (tag, next)
tag_again tag is from next takes = tag_regrouped from ∙ both_again tid_at longs_at (λ t p. tag_of t p.0 p.1) tid_bytes longs IsTid AreLongs tid_takes longs_takes tid_again longs_again tag.tid (tag.epoch.0, tag.number) is.0 (is.1, is.2) from next takes
