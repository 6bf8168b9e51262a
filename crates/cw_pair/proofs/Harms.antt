-- The first harm of a pair: none where it stands for a list, and one at most.
use Rattle.std.proofs.Common.{◌≡◌, inl, inr, ℕ, List, sym, ◌∙◌, arith}
use Rattle.cw_log.specs.Log.{IsSide}
use Rattle.cw_log.specs.Compaction.{HasHeadHarm}
use Rattle.cw_log.specs.declared.fault.Harm.{Harm}
use Rattle.cw_log.specs.declared.fault.Harm.TheVariants.{SameSide, Length}
use Rattle.cw_log.proofs.OneReading.{one_harm}
use Rattle.cw_pair.specs.Pair.{IsGreatest, IsSound, IsPairDamaged, HaveOneNumber, BreaksBeside}
use Rattle.cw_pair.proofs.Pairs.{behind_low, behind_sound, sound_head}

no_head : {A : Type 0} (kind : ℕ) (harm : Harm) (file : List ℕ) → IsSound kind file → HasHeadHarm kind harm file → A
no_head kind harm file sound harmed = absurd (sound_head kind harm file sound harmed)

one_head : (kind : ℕ) (harm other : Harm) (file : List ℕ) → HasHeadHarm kind harm file → HasHeadHarm kind other file → other ≡ harm
one_head kind harm other file this that = let e = sym that.found ∙ this.found in cc

greatest_sound : (kind : ℕ) (file other : List ℕ) → IsGreatest kind file other → IsSound kind file × IsSound kind other
greatest_sound kind file other greatest = (inr (greatest.number, greatest.head), behind_sound kind greatest.number other greatest.behind)

no_two : {A : Type 0} (kind : ℕ) (file other : List ℕ) → IsGreatest kind file other → IsGreatest kind other file → A
no_two kind file other this that = absurd (omega (arith, behind_low kind this.number that.number other this.behind that.head.side, behind_low kind that.number this.number file that.behind this.head.side))

no_one : {A : Type 0} (kind number : ℕ) (file other : List ℕ) → IsGreatest kind file other → IsSide number file → IsSide number other → A
no_one kind number file other greatest this that = absurd (omega (arith, behind_low kind greatest.number number other greatest.behind that, greatest.head.side.side, this.side))

one_break : (kind at place : ℕ) (file other : List ℕ) → BreaksBeside kind at file other → BreaksBeside kind place file other → place ≡ at
one_break kind at place file other this that =
    let head = this.greatest.head in
    (one_harm kind file place at Length Length (record { long = head.side.long; «open» = head.side.«open»; found = (head.harmless, that.breaks) }) (record { long = head.side.long; «open» = head.side.«open»; found = (head.harmless, this.breaks) })).0

module _ (kind : ℕ) (a b : List ℕ) (side at : ℕ) (harm : Harm) where
  is_head_a : (first : Harm) → HasHeadHarm kind first a → IsPairDamaged kind a b side at harm → (side ≡ 0) × (at ≡ 0) × (harm ≡ first)
  is_head_a first harmed (inl (head, inl other)) = (other.0, head, one_head kind first harm a harmed other.1)
  is_head_a first harmed (inl (head, inr (inl other))) = no_head kind first a other.1 harmed
  is_head_a first harmed (inl (head, inr (inr other))) = no_head kind first a (inr (other.2.number, other.2.this)) harmed
  is_head_a first harmed (inr (inl other)) = no_head kind first a (greatest_sound kind a b other.2.greatest).0 harmed
  is_head_a first harmed (inr (inr other)) = no_head kind first a (greatest_sound kind b a other.2.greatest).1 harmed

  is_head_b : (first : Harm) → IsSound kind a → HasHeadHarm kind first b → IsPairDamaged kind a b side at harm → (side ≡ 1) × (at ≡ 0) × (harm ≡ first)
  is_head_b first sound_a harmed (inl (head, inl other)) = no_head kind harm a sound_a other.1
  is_head_b first sound_a harmed (inl (head, inr (inl other))) = (other.0, head, one_head kind first harm b harmed other.2)
  is_head_b first sound_a harmed (inl (head, inr (inr other))) = no_head kind first b (inr (other.2.number, other.2.that)) harmed
  is_head_b first sound_a harmed (inr (inl other)) = no_head kind first b (greatest_sound kind a b other.2.greatest).1 harmed
  is_head_b first sound_a harmed (inr (inr other)) = no_head kind first b (greatest_sound kind b a other.2.greatest).0 harmed

  is_same_side : HaveOneNumber kind a b → IsPairDamaged kind a b side at harm → (side ≡ 1) × (at ≡ 0) × (harm ≡ SameSide)
  is_same_side one (inl (head, inl other)) = no_head kind harm a (inr (one.number, one.this)) other.1
  is_same_side one (inl (head, inr (inl other))) = no_head kind harm b (inr (one.number, one.that)) other.2
  is_same_side one (inl (head, inr (inr other))) = (other.0, head, other.1)
  is_same_side one (inr (inl other)) = no_one kind one.number a b other.2.greatest one.this.side one.that.side
  is_same_side one (inr (inr other)) = no_one kind one.number b a other.2.greatest one.that.side one.this.side

  is_break_a : (place : ℕ) → BreaksBeside kind place a b → IsPairDamaged kind a b side at harm → (side ≡ 0) × (at ≡ place) × (harm ≡ Length)
  is_break_a place breaks (inl (head, inl other)) = no_head kind harm a (greatest_sound kind a b breaks.greatest).0 other.1
  is_break_a place breaks (inl (head, inr (inl other))) = no_head kind harm b (greatest_sound kind a b breaks.greatest).1 other.2
  is_break_a place breaks (inl (head, inr (inr other))) = no_one kind other.2.number a b breaks.greatest other.2.this.side other.2.that.side
  is_break_a place breaks (inr (inl other)) = (other.0, one_break kind place at a b breaks other.2, other.1)
  is_break_a place breaks (inr (inr other)) = no_two kind a b breaks.greatest other.2.greatest

  is_break_b : (place : ℕ) → BreaksBeside kind place b a → IsPairDamaged kind a b side at harm → (side ≡ 1) × (at ≡ place) × (harm ≡ Length)
  is_break_b place breaks (inl (head, inl other)) = no_head kind harm a (greatest_sound kind b a breaks.greatest).1 other.1
  is_break_b place breaks (inl (head, inr (inl other))) = no_head kind harm b (greatest_sound kind b a breaks.greatest).0 other.2
  is_break_b place breaks (inl (head, inr (inr other))) = no_one kind other.2.number b a breaks.greatest other.2.that.side other.2.this.side
  is_break_b place breaks (inr (inl other)) = no_two kind a b other.2.greatest breaks.greatest
  is_break_b place breaks (inr (inr other)) = (other.0, one_break kind place at b a breaks other.2, other.1)

  pub one_pair_harm : (side' at' : ℕ) (harm' : Harm) → IsPairDamaged kind a b side at harm → IsPairDamaged kind a b side' at' harm' → (side ≡ side') × (at ≡ at') × (harm ≡ harm')
  one_pair_harm side' at' harm' this (inl (head, inl other)) = let is = is_head_a harm' other.1 this in (is.0 ∙ sym other.0, is.1 ∙ sym head, is.2)
  one_pair_harm side' at' harm' this (inl (head, inr (inl other))) = let is = is_head_b harm' other.1 other.2 this in (is.0 ∙ sym other.0, is.1 ∙ sym head, is.2)
  one_pair_harm side' at' harm' this (inl (head, inr (inr other))) = let is = is_same_side other.2 this in (is.0 ∙ sym other.0, is.1 ∙ sym head, is.2 ∙ sym other.1)
  one_pair_harm side' at' harm' this (inr (inl other)) = let is = is_break_a at' other.2 this in (is.0 ∙ sym other.0, is.1, is.2 ∙ sym other.1)
  one_pair_harm side' at' harm' this (inr (inr other)) = let is = is_break_b at' other.2 this in (is.0 ∙ sym other.0, is.1, is.2 ∙ sym other.1)
