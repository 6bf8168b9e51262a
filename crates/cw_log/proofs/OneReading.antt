-- A file stands for one list at most, and for none where it has a harm; its first harm is one.
use Rattle.std.proofs.Common.{◌≡◌, ◌≤◌, ◌<◌, inl, inr, ℕ, suc, ◌+◌, List, [], ◌∷◌, ◌++◌, length, take, drop, refl, sym, ◌∙◌, ap, subst, arith, append_assoc, length-append, Option, Some, None, if◌then◌else◌, nat_lt}
use Rattle.std.proofs.lemmas.List.{take_at, drop_at, get_or-take}
use Rattle.std.proofs.lemmas.Nat.{from_be_bytes-to_be_bytes_4}
use Rattle.std.proofs.lemmas.Bool.Decides.{nat_tests}
use Rattle.std.specs.Int.{w32, to_be_bytes, from_be_bytes}
use Rattle.cw_log.specs.declared.fault.Harm.{Harm}
use Rattle.cw_log.specs.declared.fault.Harm.TheVariants.{Magic, Version, Kind, Header, SameSide, Length, Content, Unsafe}
use Rattle.cw_log.specs.Log.{field, IsBody, AreFrames, IsMade, IsUnmade, StandsFor, IsBroken, BreaksAt, IsDamaged, HasHarm, length_in, byte_at, harm_of_file, harm_of_head}
use Rattle.cw_log.proofs.Frames.{length-field}

-- the length that a whole frame says, and what follows its body
said : (body rest : List ℕ) → IsBody body → length_in (field body ++ rest) ≡ length body
unfolding field
said body rest fits = ap (λ (l : List ℕ). from_be_bytes w32 (take 4 l)) (append_assoc (to_be_bytes w32 (length body)) body rest) ∙ from_be_bytes-to_be_bytes_4 (length body) fits.few

behind : (body rest : List ℕ) → drop 4 (field body ++ rest) ≡ body ++ rest
unfolding field
behind body rest = ap (drop 4) (append_assoc (to_be_bytes w32 (length body)) body rest)

same_body : (a b rest rest' : List ℕ) → IsBody a → IsBody b → field a ++ rest ≡ field b ++ rest' → (a ≡ b) × (rest ≡ rest')
same_body a b rest rest' fa fb same =
    let size : length a ≡ length b = sym (said a rest fa) ∙ ap length_in same ∙ said b rest' fb in
    let text : a ++ rest ≡ b ++ rest' = sym (behind a rest) ∙ ap (drop 4) same ∙ behind b rest' in (
      sym (take_at a rest (length a) refl) ∙ ap (take (length a)) text ∙ take_at b rest' (length a) (sym size),
      sym (drop_at a rest (length a) refl) ∙ ap (drop (length a)) text ∙ drop_at b rest' (length a) (sym size),
    )

-- behind equal gates
step : (body front more image : List ℕ) (gate : ℕ) → front ≡ suc gate ∷ field body ++ more → front ++ image ≡ suc gate ∷ (field body ++ (more ++ image))
step body front more image gate is = ap (λ (l : List ℕ). l ++ image) is ∙ ap (λ (l : List ℕ). suc gate ∷ l) (append_assoc (field body) more image)

frames_one : (xs ys : List (List ℕ)) (front front' rest rest' : List ℕ) → AreFrames xs front → AreFrames ys front' → front ++ 0 ∷ rest ≡ front' ++ 0 ∷ rest' → xs ≡ ys
frames_one [] [] front front' rest rest' fa fb same = refl
frames_one [] (b ∷ ys) front front' rest rest' fa fb same = absurd (let e : 0 ∷ rest ≡ suc fb.0 ∷ (field b ++ (fb.1 ++ 0 ∷ rest')) = sym (ap (λ (l : List ℕ). l ++ 0 ∷ rest) fa) ∙ same ∙ step b front' fb.1 (0 ∷ rest') fb.0 fb.3 in cc)
frames_one (a ∷ xs) [] front front' rest rest' fa fb same = absurd (let e : suc fa.0 ∷ (field a ++ (fa.1 ++ 0 ∷ rest)) ≡ 0 ∷ rest' = sym (step a front fa.1 (0 ∷ rest) fa.0 fa.3) ∙ same ∙ ap (λ (l : List ℕ). l ++ 0 ∷ rest') fb in cc)
frames_one (a ∷ xs) (b ∷ ys) front front' rest rest' fa fb same =
    let both : suc fa.0 ∷ (field a ++ (fa.1 ++ 0 ∷ rest)) ≡ suc fb.0 ∷ (field b ++ (fb.1 ++ 0 ∷ rest')) = sym (step a front fa.1 (0 ∷ rest) fa.0 fa.3) ∙ same ∙ step b front' fb.1 (0 ∷ rest') fb.0 fb.3 in
    let one = same_body a b (fa.1 ++ 0 ∷ rest) (fb.1 ++ 0 ∷ rest') fa.2 fb.2 (ap (drop 1) both) in
    ap (λ (l : List (List ℕ)). a ∷ l) (frames_one xs ys fa.1 fb.1 rest rest' fa.4 fb.4 one.1) ∙ ap (λ (x : List ℕ). x ∷ ys) one.0

-- a whole frame is not broken
whole : (body rest : List ℕ) (gate : ℕ) → IsBody body → IsBroken (suc gate ∷ (field body ++ rest)) → ⊥
whole body rest gate fits (inl short) = absurd (omega (arith, short, length-append (field body) rest, length-field body))
whole body rest gate fits (inr (inl none)) = absurd (omega (arith, none, said body rest fits, fits.some))
whole body rest gate fits (inr (inr past)) = absurd (omega (arith, past, said body rest fits, length-append (field body) rest, length-field body))

frames_whole : (xs ys : List (List ℕ)) (front front' rest rest' : List ℕ) → AreFrames xs front → AreFrames ys front' → front ++ 0 ∷ rest ≡ front' ++ rest' → IsBroken rest' → ⊥
frames_whole xs [] front front' rest rest' fa fb same broken = by_cases xs front fa (same ∙ ap (λ (l : List ℕ). l ++ rest') fb)
  where
    by_cases : (cs : List (List ℕ)) (f : List ℕ) → AreFrames cs f → f ++ 0 ∷ rest ≡ rest' → ⊥
    by_cases [] f is e = subst IsBroken (sym (sym (ap (λ (l : List ℕ). l ++ 0 ∷ rest) is) ∙ e)) broken
    by_cases (c ∷ cs) f is e = whole c (is.1 ++ 0 ∷ rest) is.0 is.2 (subst IsBroken (sym (sym (step c f is.1 (0 ∷ rest) is.0 is.3) ∙ e)) broken)
frames_whole [] (b ∷ ys) front front' rest rest' fa fb same broken = absurd (let e : 0 ∷ rest ≡ suc fb.0 ∷ (field b ++ (fb.1 ++ rest')) = sym (ap (λ (l : List ℕ). l ++ 0 ∷ rest) fa) ∙ same ∙ step b front' fb.1 rest' fb.0 fb.3 in cc)
frames_whole (a ∷ xs) (b ∷ ys) front front' rest rest' fa fb same broken =
    let both : suc fa.0 ∷ (field a ++ (fa.1 ++ 0 ∷ rest)) ≡ suc fb.0 ∷ (field b ++ (fb.1 ++ rest')) = sym (step a front fa.1 (0 ∷ rest) fa.0 fa.3) ∙ same ∙ step b front' fb.1 rest' fb.0 fb.3 in
    let one = same_body a b (fa.1 ++ 0 ∷ rest) (fb.1 ++ rest') fa.2 fb.2 (ap (drop 1) both) in
    frames_whole xs ys fa.1 fb.1 rest rest' fa.4 fb.4 one.1 broken

frames_break : (xs ys : List (List ℕ)) (front front' rest rest' : List ℕ) → AreFrames xs front → AreFrames ys front' → front ++ rest ≡ front' ++ rest' → IsBroken rest → IsBroken rest' → length front ≡ length front'
frames_break [] [] front front' rest rest' fa fb same broken broken' = ap length fa ∙ sym (ap length fb)
frames_break [] (b ∷ ys) front front' rest rest' fa fb same broken broken' =
    absurd (whole b (fb.1 ++ rest') fb.0 fb.2 (subst IsBroken (sym (ap (λ (l : List ℕ). l ++ rest) fa) ∙ same ∙ step b front' fb.1 rest' fb.0 fb.3) broken))
frames_break (a ∷ xs) [] front front' rest rest' fa fb same broken broken' =
    absurd (whole a (fa.1 ++ rest) fa.0 fa.2 (subst IsBroken (sym (ap (λ (l : List ℕ). l ++ rest') fb) ∙ sym same ∙ step a front fa.1 rest fa.0 fa.3) broken'))
frames_break (a ∷ xs) (b ∷ ys) front front' rest rest' fa fb same broken broken' =
    let both : suc fa.0 ∷ (field a ++ (fa.1 ++ rest)) ≡ suc fb.0 ∷ (field b ++ (fb.1 ++ rest')) = sym (step a front fa.1 rest fa.0 fa.3) ∙ same ∙ step b front' fb.1 rest' fb.0 fb.3 in
    let one = same_body a b (fa.1 ++ rest) (fb.1 ++ rest') fa.2 fb.2 (ap (drop 1) both) in
    let more = frames_break xs ys fa.1 fb.1 rest rest' fa.4 fb.4 one.1 broken broken' in
    omega (arith, ap length fa.3, ap length fb.3, length-append (field a) fa.1, length-append (field b) fb.1, length-field a, length-field b, ap length one.0, more)

-- what follows 16 bytes of header
behind_head : (file head front rest : List ℕ) → file ≡ head ++ front ++ rest → length head ≡ 16 → drop 16 file ≡ front ++ rest
behind_head file head front rest split size = ap (drop 16) (split ∙ append_assoc head front rest) ∙ drop_at head (front ++ rest) 16 size

first_bytes : (file head front rest : List ℕ) → file ≡ head ++ front ++ rest → length head ≡ 16 → take 16 file ≡ head
first_bytes file head front rest split size = ap (take 16) (split ∙ append_assoc head front rest) ∙ take_at head (front ++ rest) 16 size

made_long : (kind : ℕ) (bodies : List (List ℕ)) (file : List ℕ) → IsMade kind bodies file → 17 ≤ length file
made_long kind bodies file m = omega (arith, ap length m.split, length-append (m.head ++ m.front) (0 ∷ m.rest), length-append m.head m.front, m.is_head.size)

made_open : (kind : ℕ) (bodies : List (List ℕ)) (file : List ℕ) → IsMade kind bodies file → 0 < byte_at file 0
made_open kind bodies file m = subst (λ (n : ℕ). 0 < n) (ap (λ (l : List ℕ). byte_at l 0) (sym (first_bytes file m.head m.front (0 ∷ m.rest) m.split m.is_head.size)) ∙ get_or-take 16 file 0 0 (omega arith)) m.is_head.«open»

made_not_unmade : (kind : ℕ) (bodies : List (List ℕ)) (file : List ℕ) → IsMade kind bodies file → IsUnmade file → ⊥
made_not_unmade kind bodies file m (inl short) = absurd (omega (arith, short, made_long kind bodies file m))
made_not_unmade kind bodies file m (inr closed) = absurd (omega (arith, closed, made_open kind bodies file m))

pub stands_for_one : (kind : ℕ) (xs ys : List (List ℕ)) (file : List ℕ) → StandsFor kind xs file → StandsFor kind ys file → xs ≡ ys
stands_for_one kind xs ys file (inl a) (inl b) = a.1 ∙ sym b.1
stands_for_one kind xs ys file (inl a) (inr b) = absurd (made_not_unmade kind ys file b a.0)
stands_for_one kind xs ys file (inr a) (inl b) = absurd (made_not_unmade kind xs file a b.0)
stands_for_one kind xs ys file (inr a) (inr b) =
    frames_one xs ys a.front b.front a.rest b.rest a.frames b.frames (sym (behind_head file a.head a.front (0 ∷ a.rest) a.split a.is_head.size) ∙ behind_head file b.head b.front (0 ∷ b.rest) b.split b.is_head.size)

-- a made file that stands for a list has no harm in its header
pub made_harmless : (kind : ℕ) (bodies : List (List ℕ)) (file : List ℕ) → IsMade kind bodies file → harm_of_file kind file ≡ None
made_harmless kind bodies file m =
    let long = made_long kind bodies file m in
    let none : harm_of_head kind (take 16 file) ≡ None = ap (harm_of_head kind) (first_bytes file m.head m.front (0 ∷ m.rest) m.split m.is_head.size) ∙ m.is_head.harmless in
    not_short (length file) (harm_of_head kind (take 16 file)) long none
  where
    not_short : (n : ℕ) (o : Option Harm) → 17 ≤ n → o ≡ None → (if nat_lt n 17 then Some Header else o) ≡ None
    not_short n o long none = grind (arith, nat_tests)

pub sound : (kind : ℕ) (bodies : List (List ℕ)) (file : List ℕ) (at : ℕ) (harm : Harm) → StandsFor kind bodies file → IsDamaged kind file at harm → ⊥
sound kind bodies file at harm (inl (inl short, none)) d = absurd (omega (arith, short, d.long))
sound kind bodies file at harm (inl (inr closed, none)) d = absurd (omega (arith, closed, d.«open»))
sound kind bodies file at harm (inr m) d = by_cases harm d.found
  where
    none : harm_of_file kind file ≡ None
    none = made_harmless kind bodies file m

    by_cases : (h : Harm) → HasHarm kind file at h → ⊥
    by_cases Length is = frames_whole bodies is.1.bodies m.front is.1.front m.rest is.1.rest m.frames is.1.frames
        (sym (behind_head file m.head m.front (0 ∷ m.rest) m.split m.is_head.size) ∙ behind_head file is.1.head is.1.front is.1.rest is.1.split is.1.size) is.1.broken
    by_cases Magic is = absurd (let e = sym is.0 ∙ none in cc)
    by_cases Version is = absurd (let e = sym is.0 ∙ none in cc)
    by_cases Kind is = absurd (let e = sym is.0 ∙ none in cc)
    by_cases Header is = absurd (let e = sym is.0 ∙ none in cc)
    by_cases SameSide is = is
    by_cases Content is = is
    by_cases Unsafe is = is

-- of two readings of the first harm, each is the other
data Case (kind : ℕ) (file : List ℕ) (at : ℕ) (harm : Harm) : Type 0 where
  in_header : harm_of_file kind file ≡ Some harm → at ≡ 0 → Case kind file at harm
  in_frames : harm_of_file kind file ≡ None → BreaksAt at file → harm ≡ Length → Case kind file at harm

case_of : (kind : ℕ) (file : List ℕ) (at : ℕ) (harm : Harm) → HasHarm kind file at harm → Case kind file at harm
case_of kind file at Length is = in_frames is.0 is.1 refl
case_of kind file at Magic is = in_header is.0 is.1
case_of kind file at Version is = in_header is.0 is.1
case_of kind file at Kind is = in_header is.0 is.1
case_of kind file at Header is = in_header is.0 is.1
case_of kind file at SameSide is = absurd is
case_of kind file at Content is = absurd is
case_of kind file at Unsafe is = absurd is

one_case : (kind : ℕ) (file : List ℕ) (at at' : ℕ) (harm harm' : Harm) → Case kind file at harm → Case kind file at' harm' → (at ≡ at') × (harm ≡ harm')
one_case kind file at at' harm harm' (in_header h z) (in_header h' z') = (z ∙ sym z', let e = sym h ∙ h' in cc)
one_case kind file at at' harm harm' (in_header h z) (in_frames none b l) = absurd (let e = sym h ∙ none in cc)
one_case kind file at at' harm harm' (in_frames none b l) (in_header h z) = absurd (let e = sym h ∙ none in cc)
one_case kind file at at' harm harm' (in_frames none b l) (in_frames none' b' l') = (
  b.place ∙ ap (λ (n : ℕ). 16 + n) (frames_break b.bodies b'.bodies b.front b'.front b.rest b'.rest b.frames b'.frames
      (sym (behind_head file b.head b.front b.rest b.split b.size) ∙ behind_head file b'.head b'.front b'.rest b'.split b'.size) b.broken b'.broken) ∙ sym b'.place,
  l ∙ sym l',
)

pub one_harm : (kind : ℕ) (file : List ℕ) (at at' : ℕ) (harm harm' : Harm) → IsDamaged kind file at harm → IsDamaged kind file at' harm' → (at ≡ at') × (harm ≡ harm')
one_harm kind file at at' harm harm' d d' = one_case kind file at at' harm harm' (case_of kind file at harm d.found) (case_of kind file at' harm' d'.found)
