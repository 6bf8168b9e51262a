-- Time goes on, on a disk in memory that never fails.
use Rattle.std.proofs.Common.{◌≡◌, ◌≤◌, ◌⊎◌, inl, inr, ℕ, List, [], ◌∷◌, ◌++◌, length, drop, sym, subst, arith, length-append}
use Rattle.std.proofs.lemmas.List.{drop-append-le}
use Rattle.cw_disk.specs.Disk.{Elapses}
use Rattle.cw_gen.specs.declared.steady_disk.Content.{Content}
use Rattle.cw_gen.specs.Steady.{HadLeft, LeftSince}

abbrev Is : Content → List ℕ → Type 0
Is held image = image ≡ held.bytes.items

had_push : (past : List Content) (held : Content) (image : List ℕ) → HadLeft (past ++ held ∷ []) image → HadLeft past image ⊎ Is held image
had_push [] held image (inl now) = inr now
had_push [] held image (inr none) = absurd none
had_push (g ∷ past) held image (inl this) = inl (inl this)
had_push (g ∷ past) held image (inr rest) = elim (had_push past held image rest) [ inl had ↦ inl (inr had) | inr now ↦ inr now ]

had_pushed : (past : List Content) (held : Content) (image : List ℕ) → HadLeft past image ⊎ Is held image → HadLeft (past ++ held ∷ []) image
had_pushed [] held image (inl none) = absurd none
had_pushed [] held image (inr now) = inl now
had_pushed (g ∷ past) held image (inl (inl this)) = inl this
had_pushed (g ∷ past) held image (inl (inr rest)) = inr (had_pushed past held image (inl rest))
had_pushed (g ∷ past) held image (inr now) = inr (had_pushed past held image (inr now))

goes_on : (past : List Content) (held new : Content) → Elapses (length past) (length (past ++ held ∷ [])) (LeftSince past held) (LeftSince (past ++ held ∷ []) new) (Is new)
goes_on past held new = record {
  later = omega (arith, length-append past (held ∷ []));
  nothing_else = λ t image le left. since t image le left;
  keeps = λ t image le left. kept t image le left;
}
  where
    since : (t : ℕ) (image : List ℕ) → t ≤ length past → LeftSince (past ++ held ∷ []) new t image → LeftSince past held t image ⊎ Is new image
    since t image le (inl now) = inr now
    since t image le (inr had) = elim (had_push (drop t past) held image (subst (λ (l : List Content). HadLeft l image) (drop-append-le t past (held ∷ []) le) had)) [ inl before ↦ inl (inr before) | inr then_ ↦ inl (inl then_) ]

    kept : (t : ℕ) (image : List ℕ) → t ≤ length past → LeftSince past held t image → LeftSince (past ++ held ∷ []) new t image
    kept t image le (inl now) = inr (subst (λ (l : List Content). HadLeft l image) (sym (drop-append-le t past (held ∷ []) le)) (had_pushed (drop t past) held image (inr now)))
    kept t image le (inr had) = inr (subst (λ (l : List Content). HadLeft l image) (sym (drop-append-le t past (held ∷ []) le)) (had_pushed (drop t past) held image (inl had)))

-- one call more, before which the disk held this
pub goes_on_to : (past later : List Content) (held new : Content) → later ≡ past ++ held ∷ [] →
    Elapses (length past) (length later) (LeftSince past held) (LeftSince later new) (λ image. image ≡ new.bytes.items)
goes_on_to past later held new is = subst (λ (l : List Content). Elapses (length past) (length l) (LeftSince past held) (LeftSince l new) (Is new)) (sym is) (goes_on past held new)
