-- Frames that are read from their bodies.
use Rattle.std.proofs.Common.{◌≡◌, ℕ, zero, suc, ◌+◌, ◌<◌, List, [], ◌∷◌, ◌++◌, length, take, get_or, map, Vec, sym, ap, ◌∙◌, arith}
use Rattle.std.specs.List.{AllByRecursion}
use Rattle.std.specs.declared.alloc.Global.{Global}
use Rattle.std.proofs.lemmas.List.{map-append, take_more, get_or-map, length-map}
use Rattle.cw_bytes.specs.declared.applied.Applied.{Applied}
use Rattle.cw_bytes.specs.Spelling.{AreRecords, records_bytes}
use Rattle.cw_compact.specs.Bodies.{AreBodiesOf, bodies_in}

all-push : {A : Type 0} (P : A → Type 0) (xs : List A) (x : A) → AllByRecursion P xs → P x → AllByRecursion P (xs ++ x ∷ [])
all-push P [] x all here = (here, tt)
all-push P (y ∷ xs) x all here = (all.0, all-push P xs x all.1 here)

all-at : {A : Type 0} (P : A → Type 0) (xs : List A) (i : ℕ) (d : A) → AllByRecursion P xs → i < length xs → P (get_or xs i d)
all-at P [] i d all within = absurd (omega (arith, within))
all-at P (x ∷ xs) zero d all within = all.0
all-at P (x ∷ xs) (suc i) d all within = all-at P xs i d all.1 (omega (arith, within))

-- one body more
pub read_one : (frames : List (List Applied)) (front : List (Vec ℕ Global)) (records : List Applied) (body : Vec ℕ Global)
    → AreBodiesOf frames (bodies_in front) → AreRecords records → body.items ≡ records_bytes records → AreBodiesOf (frames ++ records ∷ []) (bodies_in (front ++ body ∷ []))
read_one frames front records body before are spelled = record {
  spelled = all-push AreRecords frames records before.spelled are;
  bodies_are =
      map-append (λ (v : Vec ℕ Global). v.items) front (body ∷ [])
      ∙ ap (λ (l : List (List ℕ)). l ++ body.items ∷ []) before.bodies_are
      ∙ ap (λ (b : List ℕ). map records_bytes frames ++ b ∷ []) spelled
      ∙ sym (map-append records_bytes frames (records ∷ []));
}

module _ (frames : List (List Applied)) (bodies : List (Vec ℕ Global)) (known : AreBodiesOf frames (bodies_in bodies)) (i : ℕ) (body : Vec ℕ Global) (within : i < length bodies) (is : body ≡ get_or bodies i body) where
  pub same_length : length frames ≡ length bodies
  same_length = sym (length-map frames records_bytes) ∙ sym (ap length known.bodies_are) ∙ length-map bodies (λ (v : Vec ℕ Global). v.items)

  pub within_frames : i < length frames
  within_frames = omega (arith, within, same_length)

  -- the frame at the place of a body
  pub frame_at : AreRecords (get_or frames i [])
  frame_at = all-at AreRecords frames i [] known.spelled within_frames

  pub body_at : body.items ≡ records_bytes (get_or frames i [])
  body_at =
      ap (λ (v : Vec ℕ Global). v.items) is
      ∙ sym (get_or-map (λ (v : Vec ℕ Global). v.items) bodies i body [] within)
      ∙ ap (λ (l : List (List ℕ)). get_or l i []) known.bodies_are
      ∙ get_or-map records_bytes frames i [] [] within_frames

  -- one frame more
  pub taken : take (i + 1) frames ≡ take i frames ++ get_or frames i [] ∷ []
  taken = take_more frames i [] within_frames
