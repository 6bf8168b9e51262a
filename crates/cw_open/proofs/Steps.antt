-- What the steps of a walk make of it.
use Rattle.std.proofs.Common.{◌≡◌, ◌↔◌, ℕ, ◌+◌, ◌<◌, ◌≤◌, Bool, true, false, IsTrue, List, [], ◌∷◌, ◌++◌, length, take, get_or, refl, sym, ap, subst, ◌∙◌, append_assoc}
use Rattle.std.proofs.lemmas.List.{append-nil, take_all, take_more}
use Rattle.cw_bytes.specs.Frames.{EachFrom, joined}
use Rattle.cw_model.specs.StandsFor.{IsFirstLacking}
use Rattle.cw_open.specs.Judging.{Steps, StepsAll}
use Rattle.cw_open.proofs.Firsts.{taken_more, goes_on, stops, ends, first_lacks}
use Rattle.cw_laws.proofs.Written.{joined-push}

-- a test that says no, or yes
pub refuted : {Q : Type 0} (b : Bool) → (IsTrue b ↔ Q) → b ≡ false → Q → ⊥
refuted b test is q = let clash : true ≡ false = sym (test.1 q) ∙ is in cc

pub never : {Q : Type 0} → (Q → ⊥) → IsTrue false ↔ Q
never apart = (λ e. cc, λ q. absurd (apart q))

pub always : {Q : Type 0} → Q → IsTrue true ↔ Q
always q = (λ _. q, λ _. refl)

-- what was walked of a list, each member of which lacked nothing
pub record Walked {A : Type 0} (P : List A → A → Type 0) (old xs : List A) (at : ℕ) (value : List A) : Type 0 where
  pub each : EachFrom P old (take at xs)
  pub now : value ≡ old ++ take at xs

-- what was walked of frames
pub record WalkedFrames {A : Type 0} (P : List A → A → Type 0) (frames : List (List A)) (at : ℕ) (value : List A) : Type 0 where
  pub each : EachFrom (λ before frame. EachFrom P (joined before) frame) [] (take at frames)
  pub now : value ≡ joined (take at frames)

module _ {A : Type 0} (P : List A → A → Type 0) where
  -- one member more isn't taken, or is
  pub step_not : (old new : List A) (x : A) (b : Bool) → (IsTrue b ↔ P old x) → b ≡ false → Steps P old x new false
  step_not old new x b test is = record { fits = never (refuted b test is); taken = λ e. cc }

  pub step_taken : (old new : List A) (x : A) (b : Bool) → (IsTrue b ↔ P old x) → b ≡ true → new ≡ old ++ x ∷ [] → Steps P old x new true
  step_taken old new x b test is added = record { fits = always (test.0 is); taken = λ e. added }

  pub begins : (old xs : List A) → Walked P old xs 0 old
  begins old xs = record { each = tt; now = sym (append-nil old) }

  module _ (old xs : List A) (at : ℕ) (now : List A) (walked : Walked P old xs at now) (x : A) (within : at < length xs) (is : x ≡ get_or xs at x) where
    pub more : (new : List A) (b : Bool) → Steps P now x new b → b ≡ true → Walked P old xs (at + 1) new
    more new b step told = record {
      each = goes_on P old xs at walked.each x within is (subst (λ (l : List A). P l x) walked.now (step.fits.0 told));
      now = step.taken told ∙ ap (λ (l : List A). l ++ x ∷ []) walked.now ∙ append_assoc old (take at xs) (x ∷ [])
          ∙ ap (λ (l : List A). old ++ l) (sym (taken_more P old xs at walked.each x within is));
    }

    pub all_not : (new last : List A) (b : Bool) → Steps P now x new b → b ≡ false → StepsAll P old xs last false
    all_not new last b step not = record {
      fits = never (stops P old xs at walked.each x within is (λ here. refuted b step.fits not (subst (λ (l : List A). P l x) (sym walked.now) here)));
      taken = λ e. cc;
    }

  pub all_taken : (old xs : List A) (at : ℕ) (now : List A) → Walked P old xs at now → length xs ≤ at → StepsAll P old xs now true
  all_taken old xs at now walked all = record {
    fits = always (ends P old xs at walked.each all);
    taken = λ e. walked.now ∙ ap (λ (l : List A). old ++ l) (take_all at xs all);
  }

  -- a log whose frames have several members
  abbrev InFrames : List (List A) → List A → Type 0
  InFrames before frame = EachFrom P (joined before) frame

  pub frames_begin : (frames : List (List A)) → WalkedFrames P frames 0 []
  frames_begin frames = record { each = tt; now = refl }

  module _ (frames : List (List A)) (at : ℕ) (now : List A) (walked : WalkedFrames P frames at now) (frame : List A) (within : at < length frames) (is : frame ≡ get_or frames at frame) where
    pub frame_more : (new : List A) (b : Bool) → StepsAll P now frame new b → b ≡ true → WalkedFrames P frames (at + 1) new
    frame_more new b step told = record {
      each = goes_on InFrames [] frames at walked.each frame within is (subst (λ (l : List A). EachFrom P l frame) walked.now (step.fits.0 told));
      now = step.taken told ∙ ap (λ (l : List A). l ++ frame) walked.now ∙ sym (joined-push (take at frames) frame)
          ∙ ap (λ (l : List (List A)). joined l) (sym (taken_more InFrames [] frames at walked.each frame within is));
    }

    pub frame_lacks : (new : List A) (b : Bool) → StepsAll P now frame new b → b ≡ false → IsFirstLacking InFrames frames at
    frame_lacks new b step not =
        first_lacks InFrames frames at walked.each frame within is (λ here. refuted b step.fits not (subst (λ (l : List A). EachFrom P l frame) (sym walked.now) here))

  pub frames_end : (frames : List (List A)) (at : ℕ) (now : List A) → WalkedFrames P frames at now → length frames ≤ at → EachFrom InFrames [] frames
  frames_end frames at now walked all = ends InFrames [] frames at walked.each all

-- lists that grow member by member, and frame by frame
module _ {A : Type 0} where
  pub added_none : (old xs : List A) → old ≡ old ++ take 0 xs
  added_none old xs = sym (append-nil old)

  pub added_more : (old xs : List A) (at : ℕ) (now : List A) → now ≡ old ++ take at xs → (x : A) → at < length xs → x ≡ get_or xs at x → (new : List A) → new ≡ now ++ x ∷ [] → new ≡ old ++ take (at + 1) xs
  added_more old xs at now so_far x within is new added =
      added ∙ ap (λ (l : List A). l ++ x ∷ []) so_far ∙ append_assoc old (take at xs) (x ∷ [])
      ∙ ap (λ (l : List A). old ++ l) (sym (take_more xs at x within ∙ ap (λ (y : A). take at xs ++ y ∷ []) (sym is)))

  pub added_all : (old xs : List A) (at : ℕ) (now : List A) → now ≡ old ++ take at xs → length xs ≤ at → now ≡ old ++ xs
  added_all old xs at now so_far all = so_far ∙ ap (λ (l : List A). old ++ l) (take_all at xs all)

  pub joined_more : (frames : List (List A)) (at : ℕ) (now : List A) → now ≡ joined (take at frames) → (frame : List A) → at < length frames → frame ≡ get_or frames at frame → (new : List A) → new ≡ now ++ frame
      → new ≡ joined (take (at + 1) frames)
  joined_more frames at now so_far frame within is new added =
      added ∙ ap (λ (l : List A). l ++ frame) so_far ∙ sym (joined-push (take at frames) frame)
      ∙ ap (λ (l : List (List A)). joined l) (sym (take_more frames at frame within ∙ ap (λ (y : List A). take at frames ++ y ∷ []) (sym is)))

  pub joined_all : (frames : List (List A)) (at : ℕ) (now : List A) → now ≡ joined (take at frames) → length frames ≤ at → now ≡ joined frames
  joined_all frames at now so_far all = so_far ∙ ap (λ (l : List (List A)). joined l) (take_all at frames all)
