-- What the fronts of two files say of both, where the disks tell their content.
use Rattle.std.proofs.Common.{◌≡◌, ◌≤◌, ◌<◌, inl, inr, ℕ, List, Result, Ok, Err, IfOk, IfErr, MatchResult, Option, Some, None, is_some, length, refl, sym, ◌∙◌, ap, subst}
use Rattle.cw_disk.specs.Disk.{AddsOf}
use Rattle.cw_disk.proofs.Moments.{adds_weaker}
use Rattle.cw_log.specs.Log.{HasHead, IsDamaged, OnCause, OpensAs, StandAlike, byte_at}
use Rattle.cw_log.specs.declared.fault.Harm.{Harm}
use Rattle.cw_log.specs.declared.fault.Harm.TheVariants.{Length}
use Rattle.cw_log.specs.declared.fault.OpenCause.{OpenCause}
use Rattle.cw_log.specs.declared.fault.OpenCause.TheVariants.{Damaged, Failed, Memory}
use Rattle.cw_log.specs.declared.fault.AppendFault.{AppendFault}
use Rattle.cw_log.specs.declared.fault.AppendFault.TheVariants as appends
use Rattle.cw_log.specs.declared.fault.CompactFault.{CompactFault}
use Rattle.cw_log.specs.declared.fault.CompactFault.TheVariants as compacts
use Rattle.cw_log.specs.State.{OnAppendFault}
use Rattle.cw_log.specs.Compaction.{OnCompactFault}
use Rattle.cw_pair.specs.declared.choice.SideFault.{SideFault}
use Rattle.cw_pair.specs.Pair.{BreaksBeside, IsBehind, IsFirst, StandAlikeBeside}
use Rattle.cw_pair.proofs.Pairs.{broken_frame, image_beside, not_both, unmade_not}
use Rattle.cw_pair.proofs.Stretches.{adds_both}

-- what holds for each two files holds of those that the disks tell
pub ok_told : {A E : Type 0} (r : Result A E) (F G : List ℕ → Type 0) (P : List ℕ → List ℕ → A → Type 0) (Q : List ℕ → List ℕ → E → Type 0) → ((a b : List ℕ) → F a → G b → MatchResult r (P a b) (Q a b)) → IfOk r (λ x. (a : List ℕ) → F a → (b : List ℕ) → G b → P a b x)
ok_told (Ok x) F G P Q holds = λ a is b is'. holds a b is is'
ok_told (Err e) F G P Q holds = tt

caused_by : (cause : OpenCause) (F G : List ℕ → Type 0) (H : List ℕ → List ℕ → Harm → Type 0) (R : Type 0) → ((a b : List ℕ) → F a → G b → OnCause (λ at harm. H a b harm) ⊥ ⊥ cause) → OnCause (λ at harm. at ≡ 0) ⊥ ⊥ cause
    → OnCause (λ at harm. (at ≡ 0) × ((a : List ℕ) → F a → (b : List ℕ) → G b → H a b harm)) R ⊥ cause
caused_by (Damaged at harm) F G H R holds start = (start, λ a is b is'. holds a b is is')
caused_by Failed F G H R holds start = absurd start
caused_by Memory F G H R holds start = absurd start

pub caused : {A : Type 0} (r : Result A SideFault) (F G : List ℕ → Type 0) (P : List ℕ → List ℕ → A → Type 0) (H : List ℕ → List ℕ → ℕ → Harm → Type 0) (R : SideFault → Type 0)
    → ((a b : List ℕ) → F a → G b → MatchResult r (P a b) (λ fault. OnCause (λ at harm. H a b fault.side harm) ⊥ ⊥ fault.cause)) → IfErr r (λ fault. OnCause (λ at harm. at ≡ 0) ⊥ ⊥ fault.cause)
    → IfErr r (λ fault. OnCause (λ at harm. (at ≡ 0) × ((a : List ℕ) → F a → (b : List ℕ) → G b → H a b fault.side harm)) (R fault) ⊥ fault.cause)
caused (Ok x) F G P H R holds start = tt
caused (Err fault) F G P H R holds start = caused_by fault.cause F G (λ a b harm. H a b fault.side harm) (R fault) holds start

-- what is told of the one is told of the other
pub told_from : {A B : Type 0} (o : Option A) (p : Option B) (b : B) → is_some p ≡ is_some o → p ≡ Some b → (a : A) × (o ≡ Some a)
told_from None p b same is = absurd (let e = ap is_some is in cc)
told_from (Some a) p b same is = (a, refl)

-- the other side is behind the one that was opened
pub behind_opened : (kind number : ℕ) (file other : List ℕ) (now : Option (List ℕ)) → IsFirst kind file other → OpensAs kind number file now → IsBehind kind number other
behind_opened kind number file other now (inl none) opens = inl none.1
behind_opened kind number file other now (inr first) (inl unmade) = absurd (not_both first.number file unmade.0 first.head.side)
behind_opened kind number file other now (inr first) (inr made) = subst (λ (n : ℕ). IsBehind kind n other) (sym first.head.side.side ∙ made.0.side) first.behind

pub opened_adds : {D : Type 0} (moment : D → ℕ) (left_since : D → ℕ → List ℕ → Type 0) (old new : D) (kind : ℕ) (file other : List ℕ) → IsFirst kind file other → AddsOf moment left_since old new (StandAlike kind file)
    → (2 ≤ length file → 0 < byte_at file 0 → AddsOf moment left_since old new (HasHead file)) → AddsOf moment left_since old new (StandAlikeBeside kind other file)
opened_adds moment left_since old new kind file other (inl none) alike head =
    adds_weaker moment left_since old new (StandAlike kind file) (StandAlikeBeside kind other file) alike (λ image is. image_beside kind file other image (inl none) is (λ long some. absurd (unmade_not file none.0 long some)))
opened_adds moment left_since old new kind file other (inr first) alike head =
    adds_weaker moment left_since old new (λ image. StandAlike kind file image × HasHead file image) (StandAlikeBeside kind other file)
    (adds_both moment left_since old new (StandAlike kind file) (HasHead file) alike (head first.head.side.long first.head.side.«open»)) (λ image is. image_beside kind file other image (inr first) is.0 (λ long some. is.1))

pub broken_beside : (kind at : ℕ) (harm : Harm) (file other : List ℕ) → IsFirst kind file other → IsDamaged kind file at harm → (harm ≡ Length) × BreaksBeside kind at file other
broken_beside kind at harm file other (inl none) damaged = absurd (unmade_not file none.0 damaged.long damaged.«open»)
broken_beside kind at harm file other (inr first) damaged =
    let broken = broken_frame kind at harm file first.head.harmless damaged in
    (broken.0, record { greatest = first; breaks = broken.1 })

pub cause_weaker : (cause : OpenCause) (P Q : ℕ → Harm → Type 0) (F M : Type 0) → ((at : ℕ) (harm : Harm) → P at harm → Q at harm) → OnCause P F M cause → OnCause Q F M cause
cause_weaker (Damaged at harm) P Q F M weaker holds = weaker at harm holds
cause_weaker Failed P Q F M weaker holds = holds
cause_weaker Memory P Q F M weaker holds = holds

-- what a fault says, once it is known which one it is
pub append_memory : (fault : AppendFault) (F : Type 0) (L : ℕ → ℕ → Type 0) (S M : Type 0) → fault ≡ appends.Memory → OnAppendFault F L S M fault → M
append_memory appends.Failed F L S M is holds = cc
append_memory (appends.Full length frame) F L S M is holds = cc
append_memory appends.Shut F L S M is holds = cc
append_memory appends.Memory F L S M is holds = holds

pub compact_memory : (fault : CompactFault) (F S W M : Type 0) → fault ≡ compacts.Memory → OnCompactFault F S W M fault → M
compact_memory compacts.Failed F S W M is holds = cc
compact_memory compacts.Shut F S W M is holds = cc
compact_memory compacts.Worn F S W M is holds = cc
compact_memory compacts.Memory F S W M is holds = holds

pub compact_failed : (fault : CompactFault) (F S W M : Type 0) → fault ≡ compacts.Failed → OnCompactFault F S W M fault → F
compact_failed compacts.Failed F S W M is holds = holds
compact_failed compacts.Shut F S W M is holds = cc
compact_failed compacts.Worn F S W M is holds = cc
compact_failed compacts.Memory F S W M is holds = cc

pub compact_worn : (fault : CompactFault) (F S W M : Type 0) → fault ≡ compacts.Worn → OnCompactFault F S W M fault → W
compact_worn compacts.Failed F S W M is holds = cc
compact_worn compacts.Shut F S W M is holds = cc
compact_worn compacts.Worn F S W M is holds = holds
compact_worn compacts.Memory F S W M is holds = cc
