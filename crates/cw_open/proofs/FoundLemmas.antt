-- What is found in bodies that are shown one by one, with one body more.
use Rattle.std.proofs.Common.{◌≡◌, ◌⊎◌, inl, inr, ℕ, ◌+◌, ◌-◌, ◌<◌, ◌≤◌, Bool, true, false, nat_lt, List, [], ◌∷◌, ◌++◌, length, slice_index_or, Option, Some, None, IsSome, is_some, refl, sym, ap, subst, ◌∙◌, arith, append_assoc, length-append}
use Rattle.std.specs.List.{AllZip, AllByRecursion}
use Rattle.std.proofs.Math.Seq.{take-append_seam, get_or-append_seam}
use Rattle.std.proofs.lemmas.Bool.{ltb-true, ltb-false}
use Rattle.std.proofs.lemmas.List.{take-append-le, get_or_append_left}
use Rattle.cw_bytes.specs.Unread.{Unread, AreBytes}
use Rattle.cw_bytes.specs.Reading.{Read, body_at}
use Rattle.cw_bytes.specs.Frames.{EachFrom}
use Rattle.cw_log.specs.Log.{length_of}
use Rattle.cw_model.specs.StandsFor.{AreReadAs, IsFirstLacking, IsReadable}
use Rattle.cw_open.specs.FoundFrames.{StandsAt, AreGates, AreFound, IsFirstUnread, FindsMore, FoundState, IsFoundIn}
use Rattle.cw_laws.proofs.Disks.{length_of-push}

-- ---- lists

zip-push : {A B : Type 0} (R : A → B → Type 0) (xs : List A) (ys : List B) (x : A) (y : B) → AllZip R xs ys → R x y → AllZip R (xs ++ x ∷ []) (ys ++ y ∷ [])
zip-push R [] [] x y all here = (here, tt)
zip-push R [] (b ∷ ys) x y all here = absurd all
zip-push R (a ∷ xs) [] x y all here = absurd all
zip-push R (a ∷ xs) (b ∷ ys) x y all here = (all.0, zip-push R xs ys x y all.1 here)

each-push : {A : Type 0} (P : A → Type 0) (xs : List A) (x : A) → AllByRecursion P xs → P x → AllByRecursion P (xs ++ x ∷ [])
each-push P [] x all here = (here, tt)
each-push P (y ∷ xs) x all here = (all.0, each-push P xs x all.1 here)

stands-before : (bodies : List (List ℕ)) (body : List ℕ) (number gate : ℕ) → number ≤ length bodies → StandsAt bodies number gate → StandsAt (bodies ++ body ∷ []) number gate
stands-before bodies body number gate within stands = stands ∙ ap length_of (sym (take-append-le number bodies (body ∷ []) within))

stands-last : (bodies : List (List ℕ)) (body : List ℕ) (gate : ℕ) → gate + 1 ≡ length_of bodies → StandsAt (bodies ++ body ∷ []) (length bodies) gate
stands-last bodies body gate stands = stands ∙ ap length_of (sym (take-append_seam bodies (body ∷ [])))

-- a number below one more is below, or is the last
below-or-last : (number n : ℕ) → number < n + 1 → (number < n) ⊎ (number ≡ n)
below-or-last number n within = by (nat_lt number n) refl
  where
    by : (b : Bool) → nat_lt number n ≡ b → (number < n) ⊎ (number ≡ n)
    by true is = inl (ltb-true number n is)
    by false is = inr (omega (arith, within, ltb-false number n is))

gates-push : (bodies : List (List ℕ)) (body : List ℕ) (gates : List ℕ) (gate : ℕ) → gate + 1 ≡ length_of bodies → AreGates bodies gates → AreGates (bodies ++ body ∷ []) (gates ++ gate ∷ [])
gates-push bodies body gates gate stands are = record {
  count = omega (arith, length-append gates (gate ∷ []), length-append bodies (body ∷ []), are.count);
  each = λ number within. by number (below-or-last number (length bodies) (omega (arith, within, length-append bodies (body ∷ []))));
}
  where
    by : (number : ℕ) → (number < length bodies) ⊎ (number ≡ length bodies) → StandsAt (bodies ++ body ∷ []) number (slice_index_or (gates ++ gate ∷ []) number 0)
    by number (inl below) = subst (StandsAt (bodies ++ body ∷ []) number) (sym (get_or_append_left gates (gate ∷ []) 0 number (omega (arith, below, are.count))))
        (stands-before bodies body number (slice_index_or gates number 0) (omega (arith, below)) (are.each number below))
    by number (inr last) = subst (λ (n : ℕ). StandsAt (bodies ++ body ∷ []) n (slice_index_or (gates ++ gate ∷ []) n 0)) (sym last)
        (subst (StandsAt (bodies ++ body ∷ []) (length bodies))
        (sym (get_or-append_seam gates gate [] 0) ∙ ap (λ (n : ℕ). slice_index_or (gates ++ gate ∷ []) n 0) are.count)
        (stands-last bodies body gate stands))

-- ---- what can be read, and what can't

module _ {A : Type 0} (at : Unread → Read A) where
  pub readable : (before bodies : List (List ℕ)) (frames : List A) → AreReadAs at bodies frames → EachFrom (IsReadable at) before bodies
  readable before [] frames read = tt
  readable before (body ∷ bodies) [] read = absurd read
  readable before (body ∷ bodies) (frame ∷ frames) read =
      (subst (λ (o : Option A). IsSome o) (sym read.0) refl, readable (before ++ body ∷ []) bodies frames read.1)

  unreadable : (o : Option A) → o ≡ None → IsSome o → ⊥
  unreadable o none some = let clash : false ≡ true = subst (λ (x : Option A). IsSome x) none some in cc

  module _ (body : List ℕ) (gate : ℕ) (bodies : List (List ℕ)) (stands : gate + 1 ≡ length_of bodies) where
    found-more : (frames : List A) (gates : List ℕ) (frame : A) → body_at at body ≡ Some frame → AreFound at frames gates bodies → AreFound at (frames ++ frame ∷ []) (gates ++ gate ∷ []) (bodies ++ body ∷ [])
    found-more frames gates frame is found = record {
      read = zip-push (λ body frame. body_at at body ≡ Some frame) bodies frames body frame found.read is;
      places = gates-push bodies body gates gate stands found.places;
    }

    first-unread : (frames : List A) (gates : List ℕ) → body_at at body ≡ None → AreFound at frames gates bodies → IsFirstUnread at gate (bodies ++ body ∷ [])
    first-unread frames gates is found = record {
      number = length bodies;
      first = record {
        before = bodies;
        lacking = body;
        behind = [];
        split = refl;
        place = refl;
        each = readable [] bodies frames found.read;
        lacks = λ some. unreadable (body_at at body) is some;
      };
      place = stands-last bodies body gate stands;
    }

  still-unread : (body : List ℕ) (bodies : List (List ℕ)) (gate : ℕ) → IsFirstUnread at gate bodies → IsFirstUnread at gate (bodies ++ body ∷ [])
  still-unread body bodies gate is =
      let first : IsFirstLacking (IsReadable at) bodies is.number = is.first in
      let long : is.number ≤ length bodies =
      omega (arith, first.place, ap length first.split, length-append first.before (first.lacking ∷ first.behind)) in
      record {
        number = is.number;
        first = record {
          before = first.before;
          lacking = first.lacking;
          behind = first.behind ++ body ∷ [];
          split = ap (λ (l : List (List ℕ)). l ++ body ∷ []) first.split ∙ append_assoc first.before (first.lacking ∷ first.behind) (body ∷ []);
          place = first.place;
          each = first.each;
          lacks = first.lacks;
        };
        place = stands-before bodies body is.number gate long is.place;
      }

  -- one body more, by what is known of those before it
  pub finds-frame : (body : List ℕ) (gate : ℕ) (frames : List A) (gates : List ℕ) (unread : Option ℕ) → is_some unread ≡ false → (frame : A) → body_at at body ≡ Some frame →
      FindsMore at body gate frames gates unread (frames ++ frame ∷ []) (gates ++ gate ∷ []) unread
  finds-frame body gate frames gates None none frame is = λ bodies stands found. found-more body gate bodies stands frames gates frame is found
  finds-frame body gate frames gates (Some first) none frame is = absurd (cc)

  pub finds-none : (body : List ℕ) (gate : ℕ) (frames : List A) (gates : List ℕ) (unread : Option ℕ) → is_some unread ≡ false → body_at at body ≡ None → FindsMore at body gate frames gates unread frames gates (Some gate)
  finds-none body gate frames gates None none is = λ bodies stands found. first-unread body gate bodies stands frames gates is found
  finds-none body gate frames gates (Some first) none is = absurd (cc)

  pub finds-nothing : (body : List ℕ) (gate : ℕ) (frames : List A) (gates : List ℕ) (unread : Option ℕ) → is_some unread ≡ true → FindsMore at body gate frames gates unread frames gates unread
  finds-nothing body gate frames gates None is = absurd (cc)
  finds-nothing body gate frames gates (Some first) is = λ bodies stands found. still-unread body bodies first found

  -- the whole of it
  pub found-none : IsFoundIn at (record { frames = []; gates = []; unread = None; count = 0; size = 17 }) []
  found-none = record {
    has = record { read = tt; places = record { count = refl; each = λ number within. absurd (omega (arith, within)) } };
    count = refl;
    size = refl;
    few = omega arith;
    bytes = tt;
  }

  module _ (old new : FoundState A) (body : List ℕ) (bytes : AreBytes body) (more : FindsMore at body (old.size - 1) old.frames old.gates old.unread new.frames new.gates new.unread)
      (counted : new.count ≡ old.count + 1) (sized : new.size ≡ old.size + (length body + 5)) where
    pub takes-one : (bodies : List (List ℕ)) → IsFoundIn at old bodies → IsFoundIn at new (bodies ++ body ∷ [])
    takes-one bodies is = record {
      has = more bodies (omega (arith, is.size, is.few)) is.has;
      count = omega (arith, counted, is.count, length-append bodies (body ∷ []));
      size = sized ∙ ap (λ (n : ℕ). n + (length body + 5)) is.size ∙ sym (length_of-push bodies body);
      few = omega (arith, is.few, counted, sized);
      bytes = each-push AreBytes bodies body is.bytes bytes;
    }
