-- Which list two files stand for, and what keeps it.
use Rattle.std.proofs.Common.{◌≡◌, ◌⊎◌, ◌≤◌, ◌<◌, inl, inr, ℕ, zero, suc, ◌+◌, List, [], ◌∷◌, ◌++◌, length, get_or, Option, Some, None, option_map, is_some, Bool, true, false, ⊎_elim, refl, sym, ◌∙◌, ap, subst, arith, length-append}
use Rattle.cw_log.specs.Log.{BeforeOrAfter, HasHead, IsDamaged, IsMade, IsSide, IsUnmade, StandsFor, StandAlike, BreaksAt, byte_at, harm_of_file, number_of}
use Rattle.cw_log.specs.Compaction.{IsHeaded, HasHeadHarm, IsRegated, IsReplaced}
use Rattle.cw_log.specs.declared.fault.Harm.{Harm}
use Rattle.cw_log.specs.declared.fault.Harm.TheVariants.{Magic, Version, Kind, Header, SameSide, Length, Content, Unsafe}
use Rattle.cw_log.proofs.OneReading.{stands_for_one, made_harmless, sound}
use Rattle.cw_log.proofs.Sides.{side_same}
use Rattle.cw_pair.specs.Pair.{IsBehind, IsFirst, IsSound, IsPairDamaged, BreaksBeside, StandsBeside, StandAlikeBeside, PairStandsFor}
use Rattle.cw_disk.specs.Disk.{AddsOf}
use Rattle.cw_pair.specs.State.{IsPair, MayLeave, sides_of, told_with}
use Rattle.cw_log.specs.State.{LogState}
use Rattle.cw_pair.proofs.Stretches.{stands_across}

-- a file isn't both made and unmade
pub unmade_not : (file : List ℕ) → IsUnmade file → 2 ≤ length file → 0 < byte_at file 0 → ⊥
unmade_not file (inl short) long some = omega (arith, short, long)
unmade_not file (inr closed) long some = omega (arith, closed, some)

pub not_both : (number : ℕ) (file : List ℕ) → IsUnmade file → IsSide number file → ⊥
not_both number file unmade side = unmade_not file unmade side.long side.«open»

pub made_of : (kind number : ℕ) (bodies : List (List ℕ)) (file : List ℕ) → StandsFor kind bodies file → IsSide number file → IsMade kind bodies file
made_of kind number bodies file (inl unmade) side = absurd (not_both number file unmade.0 side)
made_of kind number bodies file (inr made) side = made

pub made_headed : (kind number : ℕ) (bodies : List (List ℕ)) (file : List ℕ) → IsMade kind bodies file → IsSide number file → IsHeaded kind number file
made_headed kind number bodies file made side = record { side = side; harmless = made_harmless kind bodies file made }

-- one list at most
beside_one : (kind : ℕ) (bodies others : List (List ℕ)) (file other : List ℕ) → StandsBeside kind bodies file other → StandsBeside kind others file other → bodies ≡ others
beside_one kind bodies others file other (inl none) (inl none') = none.2 ∙ sym none'.2
beside_one kind bodies others file other (inl none) (inr chosen) = absurd (not_both chosen.number file none.0 chosen.side)
beside_one kind bodies others file other (inr chosen) (inl none) = absurd (not_both chosen.number file none.0 chosen.side)
beside_one kind bodies others file other (inr chosen) (inr chosen') = stands_for_one kind bodies others file (inr chosen.made) (inr chosen'.made)

-- the other side can't have the greatest number too
pub behind_low : (kind number other : ℕ) (file : List ℕ) → IsBehind kind number file → IsSide other file → other < number
behind_low kind number other file (inl unmade) side = absurd (not_both other file unmade side)
behind_low kind number other file (inr behind) side = omega (arith, behind.1, behind.2.side.side, side.side)

across_one : (kind : ℕ) (bodies others : List (List ℕ)) (file other : List ℕ) → StandsBeside kind bodies file other → StandsBeside kind others other file → bodies ≡ others
across_one kind bodies others file other (inl none) (inl none') = none.2 ∙ sym none'.2
across_one kind bodies others file other (inl none) (inr chosen) = absurd (not_both chosen.number other none.1 chosen.side)
across_one kind bodies others file other (inr chosen) (inl none) = absurd (not_both chosen.number file none.1 chosen.side)
across_one kind bodies others file other (inr chosen) (inr chosen') =
    absurd (omega (arith, behind_low kind chosen.number chosen'.number other chosen.behind chosen'.side, behind_low kind chosen'.number chosen.number file chosen'.behind chosen.side))

pub pair_one : (kind : ℕ) (bodies others : List (List ℕ)) (a b : List ℕ) → PairStandsFor kind bodies a b → PairStandsFor kind others a b → bodies ≡ others
pair_one kind bodies others a b (inl this) (inl that) = beside_one kind bodies others a b this that
pair_one kind bodies others a b (inl this) (inr that) = across_one kind bodies others a b this that
pair_one kind bodies others a b (inr this) (inl that) = across_one kind bodies others b a this that
pair_one kind bodies others a b (inr this) (inr that) = beside_one kind bodies others b a this that

-- how long a made file is, and that it is one with a number
made_long : (kind : ℕ) (bodies : List (List ℕ)) (file : List ℕ) → IsMade kind bodies file → 16 ≤ length file
made_long kind bodies file made = omega (arith, ap length made.split, length-append (made.head ++ made.front) (0 ∷ made.rest), length-append made.head made.front, made.is_head.size)

made_side : (kind : ℕ) (bodies : List (List ℕ)) (file : List ℕ) → IsMade kind bodies file → IsSide (number_of file) file
made_side kind bodies file made = record {
  long = omega (arith, made_long kind bodies file made);
  «open» = first made.head made.is_head.size made.is_head.«open» made.split;
  side = refl;
}
  where
    first : (head : List ℕ) → length head ≡ 16 → 0 < byte_at head 0 → file ≡ head ++ made.front ++ 0 ∷ made.rest → 0 < byte_at file 0
    first [] size some split = absurd (omega (arith, size))
    first (b ∷ head) size some split = omega (arith, some, ap (λ (l : List ℕ). get_or l 0 0) split)

-- only a broken frame is a harm behind a header without one
pub broken_frame : (kind at : ℕ) (harm : Harm) (file : List ℕ) → harm_of_file kind file ≡ None → IsDamaged kind file at harm → (harm ≡ Length) × BreaksAt at file
broken_frame kind at Length file none damaged = (refl, damaged.found.1)
broken_frame kind at Magic file none damaged = absurd (let e = sym none ∙ damaged.found.0 in cc)
broken_frame kind at Version file none damaged = absurd (let e = sym none ∙ damaged.found.0 in cc)
broken_frame kind at Kind file none damaged = absurd (let e = sym none ∙ damaged.found.0 in cc)
broken_frame kind at Header file none damaged = absurd (let e = sym none ∙ damaged.found.0 in cc)
broken_frame kind at SameSide file none damaged = absurd damaged.found
broken_frame kind at Content file none damaged = absurd damaged.found
broken_frame kind at Unsafe file none damaged = absurd damaged.found

-- the right file and its list, beside the other one
pub opens_beside : (kind : ℕ) (bodies : List (List ℕ)) (file other : List ℕ) → IsFirst kind file other → StandsFor kind bodies file → StandsBeside kind bodies file other
opens_beside kind bodies file other (inl none) (inl unmade) = inl (none.0, none.1, unmade.1)
opens_beside kind bodies file other (inl none) (inr made) = absurd (not_both (number_of file) file none.0 (made_side kind bodies file made))
opens_beside kind bodies file other (inr first) stands = inr (record { number = first.number; side = first.head.side; made = made_of kind first.number bodies file stands first.head.side; behind = first.behind })

-- an image of it with the same list and, if it was made, the same header
pub image_beside : (kind : ℕ) (file other image : List ℕ) → IsFirst kind file other → StandAlike kind file image → (2 ≤ length file → 0 < byte_at file 0 → HasHead file image) → StandAlikeBeside kind other file image
image_beside kind file other image (inl none) alike head = record {
  bodies = alike.bodies;
  this = opens_beside kind alike.bodies file other (inl none) alike.this;
  that = by_image (empty alike.this) alike.that;
}
  where
    empty : StandsFor kind alike.bodies file → alike.bodies ≡ []
    empty (inl unmade) = unmade.1
    empty (inr made) = absurd (not_both (number_of file) file none.0 (made_side kind alike.bodies file made))

    by_image : alike.bodies ≡ [] → StandsFor kind alike.bodies image → StandsBeside kind alike.bodies image other
    by_image is (inl unmade) = inl (unmade.0, none.1, is)
    by_image is (inr made) = inr (record { number = number_of image; side = made_side kind alike.bodies image made; made = made; behind = inl none.1 })
image_beside kind file other image (inr first) alike head =
    let made = made_of kind first.number alike.bodies file alike.this first.head.side in
    let side = side_same first.number file image (head first.head.side.long first.head.side.«open») (made_long kind alike.bodies file made) first.head.side in
    record {
      bodies = alike.bodies;
      this = opens_beside kind alike.bodies file other (inr first) alike.this;
      that = inr (record { number = first.number; side = side; made = made_of kind first.number alike.bodies image alike.that side; behind = first.behind });
    }

-- the list of a made side, beside one that is behind it
pub beside : (kind number : ℕ) (bodies : List (List ℕ)) (image other : List ℕ) → StandsFor kind bodies image → IsSide number image → IsBehind kind number other → PairStandsFor kind bodies image other
beside kind number bodies image other stands side behind = inl (inr (record { number = number; side = side; made = made_of kind number bodies image stands side; behind = behind }))

-- an append leaves the list before or after
pub append_list : (kind number : ℕ) (bodies list : List (List ℕ)) (body image other : List ℕ) → BeforeOrAfter kind bodies body image → IsSide number image → IsBehind kind number other → PairStandsFor kind list image other → (list ≡ bodies) ⊎ (list ≡ bodies ++ body ∷ [])
append_list kind number bodies list body image other (inl stands) side behind found = inl (pair_one kind list bodies image other found (beside kind number bodies image other stands side behind))
append_list kind number bodies list body image other (inr stands) side behind found = inr (pair_one kind list (bodies ++ body ∷ []) image other found (beside kind number (bodies ++ body ∷ []) image other stands side behind))

-- any byte as the first gate of a side that is behind
pub regated_behind : (kind number : ℕ) (file image : List ℕ) → IsBehind kind number file → IsRegated file image → IsBehind kind number image
regated_behind kind number file image (inl (inl short)) regated = absurd (omega (arith, short, regated.long))
regated_behind kind number file image (inl (inr closed)) regated = absurd (omega (arith, closed, regated.«open»))
regated_behind kind number [] image (inr behind) regated = absurd (let e = behind.2.side.long in omega (arith, e))
regated_behind kind number (f ∷ file) [] (inr behind) regated = absurd (let e = behind.2.side.long in omega (arith, e, ap length regated.behind))
regated_behind kind number (f ∷ file) (zero ∷ image) (inr behind) regated = inl (inr refl)
regated_behind kind number (f ∷ file) (suc i ∷ image) (inr behind) regated =
    subst (λ (rest : List ℕ). IsBehind kind number (suc i ∷ rest)) (sym regated.behind)
    (inr (behind.0, behind.1, record { side = record { long = behind.2.side.long; «open» = omega arith; side = behind.2.side.side }; harmless = behind.2.harmless }))

-- the side that a compaction leaves is behind the new one
pub behind_next : (kind number : ℕ) (bodies : List (List ℕ)) (file : List ℕ) → StandsFor kind bodies file → IsSide number file → IsBehind kind (number + 1) file
behind_next kind number bodies file stands side = inr (number, omega arith, made_headed kind number bodies file (made_of kind number bodies file stands side) side)

-- a compaction leaves the list before or after
pub compact_list : (kind number : ℕ) (before after list : List (List ℕ)) (file image chosen : List ℕ) → IsReplaced kind (number + 1) after file image → IsBehind kind number file → StandsFor kind before chosen → IsSide number chosen → PairStandsFor kind list image chosen → (list ≡ before) ⊎ (list ≡ after)
compact_list kind number before after list file image chosen (inl regated) behind stands side found =
    inl (pair_one kind list before image chosen found (stands_across kind before chosen image (beside kind number before chosen image stands side (regated_behind kind number file image behind regated))))
compact_list kind number before after list file image chosen (inr (inl unmade)) behind stands side found =
    inl (pair_one kind list before image chosen found (stands_across kind before chosen image (beside kind number before chosen image stands side (inl unmade))))
compact_list kind number before after list file image chosen (inr (inr log)) behind stands side found =
    inr (pair_one kind list after image chosen found (beside kind (number + 1) after image chosen (inr log.made) log.side (behind_next kind number before chosen stands side)))

-- where both disks tell their content
pub told_both : (other : Option (List ℕ)) (bodies : Option (List (List ℕ))) (list : List (List ℕ)) → told_with other bodies ≡ Some list → (file : List ℕ) × (other ≡ Some file) × (bodies ≡ Some list)
told_both None bodies list is = cc
told_both (Some file) bodies list is = (file, refl, is)

-- a pair that stands for a list has no harm
pub sound_head : (kind : ℕ) (harm : Harm) (file : List ℕ) → IsSound kind file → HasHeadHarm kind harm file → ⊥
sound_head kind harm file (inl (inl short)) harmed = omega (arith, short, harmed.long)
sound_head kind harm file (inl (inr closed)) harmed = omega (arith, closed, harmed.«open»)
sound_head kind harm file (inr headed) harmed = let e = sym headed.1.harmless ∙ harmed.found in cc

pub behind_sound : (kind number : ℕ) (file : List ℕ) → IsBehind kind number file → IsSound kind file
behind_sound kind number file (inl unmade) = inl unmade
behind_sound kind number file (inr behind) = inr (behind.0, behind.2)

beside_sound : (kind : ℕ) (bodies : List (List ℕ)) (file other : List ℕ) → StandsBeside kind bodies file other → IsSound kind file × IsSound kind other
beside_sound kind bodies file other (inl none) = (inl none.0, inl none.1)
beside_sound kind bodies file other (inr chosen) = (inr (chosen.number, made_headed kind chosen.number bodies file chosen.made chosen.side), behind_sound kind chosen.number other chosen.behind)

one_number : (kind : ℕ) (bodies : List (List ℕ)) (file other : List ℕ) (number : ℕ) → StandsBeside kind bodies file other → IsSide number file → IsSide number other → ⊥
one_number kind bodies file other number (inl none) this that = not_both number file none.0 this
one_number kind bodies file other number (inr chosen) this that = omega (arith, behind_low kind chosen.number number other chosen.behind that, chosen.side.side, this.side)

-- the side that breaks isn't one that stands for a list
no_break : (kind at : ℕ) (bodies : List (List ℕ)) (file other : List ℕ) → BreaksBeside kind at file other → PairStandsFor kind bodies file other → ⊥
no_break kind at bodies file other breaks (inl (inl none)) = not_both breaks.greatest.number file none.0 breaks.greatest.head.side
no_break kind at bodies file other breaks (inl (inr chosen)) =
    sound kind bodies file at Length (inr chosen.made) (record { long = breaks.greatest.head.side.long; «open» = breaks.greatest.head.side.«open»; found = (breaks.greatest.head.harmless, breaks.breaks) })
no_break kind at bodies file other breaks (inr (inl none)) = not_both breaks.greatest.number file none.1 breaks.greatest.head.side
no_break kind at bodies file other breaks (inr (inr chosen)) =
    omega (arith, behind_low kind chosen.number breaks.greatest.number file chosen.behind breaks.greatest.head.side, behind_low kind breaks.greatest.number chosen.number other breaks.greatest.behind chosen.side)

pub pair_sound : (kind : ℕ) (bodies : List (List ℕ)) (a b : List ℕ) (side at : ℕ) (harm : Harm) → PairStandsFor kind bodies a b → IsPairDamaged kind a b side at harm → ⊥
pair_sound kind bodies a b side at harm stands (inr (inl breaks)) = no_break kind at bodies a b breaks.2 stands
pair_sound kind bodies a b side at harm stands (inr (inr breaks)) = no_break kind at bodies b a breaks.2 (stands_across kind bodies a b stands)
pair_sound kind bodies a b side at harm (inl this) (inl (head, inl harmed)) = sound_head kind harm a (beside_sound kind bodies a b this).0 harmed.1
pair_sound kind bodies a b side at harm (inr this) (inl (head, inl harmed)) = sound_head kind harm a (beside_sound kind bodies b a this).1 harmed.1
pair_sound kind bodies a b side at harm (inl this) (inl (head, inr (inl harmed))) = sound_head kind harm b (beside_sound kind bodies a b this).1 harmed.2
pair_sound kind bodies a b side at harm (inr this) (inl (head, inr (inl harmed))) = sound_head kind harm b (beside_sound kind bodies b a this).0 harmed.2
pair_sound kind bodies a b side at harm (inl this) (inl (head, inr (inr one))) = one_number kind bodies a b one.2.number this one.2.this.side one.2.that.side
pair_sound kind bodies a b side at harm (inr this) (inl (head, inr (inr one))) = one_number kind bodies b a one.2.number this one.2.that.side one.2.this.side

-- the same pair behind a call that reads
module _ {D : Type 0} (holds : D → Option (List ℕ)) (may_leave : D → List ℕ → Type 0) where
  pub pair_same : (old new : LogState D) (other : D) → new.kind ≡ old.kind → new.number ≡ old.number → new.bodies ≡ old.bodies → new.shut ≡ old.shut → IsPair holds may_leave old other → IsPair holds may_leave new other
  pair_same old new other kind number bodies shut pair = record {
    settled = λ alive. pair.settled (sym shut ∙ alive);
    behind = λ alive list told file is. subst (λ (k : ℕ). IsBehind k new.number file) (sym kind) (subst (λ (n : ℕ). IsBehind old.kind n file) (sym number) (pair.behind (sym shut ∙ alive) list (sym bodies ∙ told) file is));
  }

  pub pair_read : (log : LogState D) (old new : D) → holds new ≡ holds old → ((image : List ℕ) → may_leave new image → may_leave old image) → IsPair holds may_leave log old → IsPair holds may_leave log new
  pair_read log old new same fewer pair = record {
    settled = λ alive file is image left. pair.settled alive file (sym same ∙ is) image (fewer image left);
    behind = λ alive list told file is. pair.behind alive list told file (sym same ∙ is);
  }

  -- the other side's image is behind the log
  pub left_behind : (log : LogState D) (other : D) (file image : List ℕ) (list : List (List ℕ)) → IsPair holds may_leave log other → log.shut ≡ false → log.bodies ≡ Some list → holds other ≡ Some file → may_leave other image → IsBehind log.kind log.number image
  left_behind log other file image list pair alive told is left = subst (IsBehind log.kind log.number) (sym (pair.settled alive file is image left)) (pair.behind alive list told file is)

-- the list behind a compaction, where both disks tell their content
pub compact_bodies : (bodies : List (List ℕ)) (disk other : Option (List ℕ)) (old : Option (List (List ℕ))) → is_some old ≡ is_some disk → told_with disk (option_map (λ _. bodies) other) ≡ option_map (λ _. bodies) (told_with other old)
compact_bodies bodies None None old same = refl
compact_bodies bodies (Some file) None old same = refl
compact_bodies bodies None (Some beside) None same = refl
compact_bodies bodies None (Some beside) (Some list) same = cc
compact_bodies bodies (Some file) (Some beside) None same = cc
compact_bodies bodies (Some file) (Some beside) (Some list) same = refl

-- ---- each image that a stop leaves of both disks stands for the list before a call or behind it

append_beside : (kind number : ℕ) (bodies : List (List ℕ)) (body image other : List ℕ) → BeforeOrAfter kind bodies body image → IsSide number image → IsBehind kind number other → PairStandsFor kind bodies image other ⊎ PairStandsFor kind (bodies ++ body ∷ []) image other
append_beside kind number bodies body image other (inl stands) side behind = inl (beside kind number bodies image other stands side behind)
append_beside kind number bodies body image other (inr stands) side behind = inr (beside kind number (bodies ++ body ∷ []) image other stands side behind)

compact_beside : (kind number : ℕ) (before after : List (List ℕ)) (file image chosen : List ℕ) → IsReplaced kind (number + 1) after file image → IsBehind kind number file → StandsFor kind before chosen → IsSide number chosen → PairStandsFor kind before chosen image ⊎ PairStandsFor kind after chosen image
compact_beside kind number before after file image chosen (inl regated) behind stands side =
    inl (beside kind number before chosen image stands side (regated_behind kind number file image behind regated))
compact_beside kind number before after file image chosen (inr (inl unmade)) behind stands side =
    inl (beside kind number before chosen image stands side (inl unmade))
compact_beside kind number before after file image chosen (inr (inr log)) behind stands side =
    inr (stands_across kind after image chosen (beside kind (number + 1) after image chosen (inr log.made) log.side (behind_next kind number before chosen stands side)))

module _ {D : Type 0} (may_leave : D → List ℕ → Type 0) where
  -- of the chosen side beside the other one, whichever is side a
  by_sides : (kind : ℕ) (on_b : Bool) (chosen other : D) (P Q : List (List ℕ)) → ((image next : List ℕ) → may_leave chosen image → may_leave other next → PairStandsFor kind P image next ⊎ PairStandsFor kind Q image next)
      → (a b : List ℕ) → MayLeave may_leave (sides_of on_b chosen other) a b → PairStandsFor kind P a b ⊎ PairStandsFor kind Q a b
  by_sides kind false chosen other P Q step a b left = step a b left.a left.b
  by_sides kind true chosen other P Q step a b left = ⊎_elim (λ before. inl (stands_across kind P b a before)) (λ after. inr (stands_across kind Q b a after)) (step b a left.b left.a)

  module _ (holds : D → Option (List ℕ)) (moment : D → ℕ) (left_since : D → ℕ → List ℕ → Type 0)
      (counts_now : (disk : D) (t : ℕ) (image : List ℕ) → t ≤ moment disk → may_leave disk image → left_since disk t image) (only_now : (disk : D) (image : List ℕ) → left_since disk (moment disk) image → may_leave disk image) where
    -- what a stop leaves now it might have left before, or it has Q
    left_now : (old now : D) (Q : List ℕ → Type 0) → AddsOf moment left_since old now Q → (image : List ℕ) → may_leave now image → may_leave old image ⊎ Q image
    left_now old now Q run image left = ⊎_elim (λ was. inl (only_now old image was)) (λ q. inr q) (run.before (moment old) image (omega arith) (counts_now now (moment old) image run.later left))

    pub append_images : (old new : LogState D) (other : D) (on_b : Bool) (before : List (List ℕ)) (body file : List ℕ) → IsPair holds may_leave old other → old.shut ≡ false → old.bodies ≡ Some before → holds other ≡ Some file → new.kind ≡ old.kind
        → ((image : List ℕ) → may_leave new.disk image → BeforeOrAfter old.kind before body image) → ((image : List ℕ) → may_leave old.disk image → IsSide old.number image) → AddsOf moment left_since old.disk new.disk (IsSide old.number)
        → (a b : List ℕ) → MayLeave may_leave (sides_of on_b new.disk other) a b → PairStandsFor new.kind before a b ⊎ PairStandsFor new.kind (before ++ body ∷ []) a b
    append_images old new other on_b before body file pair alive told is kind left side run a b may =
        subst (λ (n : ℕ). PairStandsFor n before a b ⊎ PairStandsFor n (before ++ body ∷ []) a b) (sym kind)
        (by_sides old.kind on_b new.disk other before (before ++ body ∷ []) (λ image next this that.
        append_beside old.kind old.number before body image next (left image this)
        (⊎_elim (λ was. side image was) (λ q. q) (left_now old.disk new.disk (IsSide old.number) run image this))
        (left_behind holds may_leave old other file next before pair alive told is that)) a b may)

    pub compact_images : (old : LogState D) (other now : D) (on_b : Bool) (before after : List (List ℕ)) (file : List ℕ) → IsPair holds may_leave old other → old.shut ≡ false → old.bodies ≡ Some before → holds other ≡ Some file
        → ((image : List ℕ) → may_leave old.disk image → StandsFor old.kind before image) → ((image : List ℕ) → may_leave old.disk image → IsSide old.number image) → AddsOf moment left_since other now (IsReplaced old.kind (old.number + 1) after file)
        → (a b : List ℕ) → MayLeave may_leave (sides_of on_b old.disk now) a b → PairStandsFor old.kind before a b ⊎ PairStandsFor old.kind after a b
    compact_images old other now on_b before after file pair alive told is left side run a b may =
        by_sides old.kind on_b old.disk now before after (λ image next this that.
        ⊎_elim (λ was. inl (beside old.kind old.number before image next (left image this) (side image this) (left_behind holds may_leave old other file next before pair alive told is was)))
        (λ replaced. compact_beside old.kind old.number before after file next image replaced (pair.behind alive before told file is) (left image this) (side image this))
        (left_now other now (IsReplaced old.kind (old.number + 1) after file) run next that)) a b may

    pub rest_images : (log : LogState D) (other : D) (on_b : Bool) (list : List (List ℕ)) (file : List ℕ) → IsPair holds may_leave log other → log.shut ≡ false → log.bodies ≡ Some list → holds other ≡ Some file
        → ((image : List ℕ) → may_leave log.disk image → StandsFor log.kind list image) → ((image : List ℕ) → may_leave log.disk image → IsSide log.number image)
        → (a b : List ℕ) → MayLeave may_leave (sides_of on_b log.disk other) a b → PairStandsFor log.kind list a b
    rest_images log other on_b list file pair alive told is left side a b may =
        ⊎_elim (λ stands. stands) (λ stands. stands) (by_sides log.kind on_b log.disk other list list (λ image next this that.
        inl (beside log.kind log.number list image next (left image this) (side image this) (left_behind holds may_leave log other file next list pair alive told is that))) a b may)
