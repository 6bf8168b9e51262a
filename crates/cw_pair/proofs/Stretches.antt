-- What a stop leaves of two disks, of which one moves at a time.
use Rattle.std.proofs.Common.{◌≡◌, ◌⊎◌, ◌≤◌, inl, inr, ⊎_elim, ℕ, List, [], ◌∷◌, ◌++◌, length, drop, map, Option, Some, Bool, true, false, not, ◌==◌, if◌then◌else◌, refl, sym, ◌∙◌, ap, subst, arith, length-append}
use Rattle.std.proofs.lemmas.List.{drop-append-le, drop_all, map-append}
use Rattle.cw_disk.specs.Disk.{AddsOf}
use Rattle.cw_log.specs.State.{LogState}
use Rattle.cw_log.specs.State.{FailedOn}
use Rattle.cw_types.specs.Faults.{Rose}
use Rattle.cw_disk.specs.Told.{ReadsOf}
use Rattle.cw_pair.specs.Pair.{PairStandsFor, PairsStandAlike, StandAlikeBeside}
use Rattle.cw_pair.specs.State.{PairState, Sides, disks_of, side_of, sides_of, MayLeave, LeftBetween, HadLeft, OpensOf, PairStandsSince}

pub stands_across : (kind : ℕ) (list : List (List ℕ)) (a b : List ℕ) → PairStandsFor kind list a b → PairStandsFor kind list b a
stands_across kind list a b (inl this) = inr this
stands_across kind list a b (inr this) = inl this

module _ {D : Type 0} (may_leave : D → List ℕ → Type 0) (moment : D → ℕ) (left_since : D → ℕ → List ℕ → Type 0)
    (counts_now : (disk : D) (t : ℕ) (image : List ℕ) → t ≤ moment disk → may_leave disk image → left_since disk t image) (only_now : (disk : D) (image : List ℕ) → left_since disk (moment disk) image → may_leave disk image) where
  -- one moment more
  had_push : (past : List (Sides D)) (old now : Sides D) (a b : List ℕ) → HadLeft moment left_since (past ++ old ∷ []) now a b → HadLeft moment left_since past old a b ⊎ LeftBetween moment left_since old now a b
  had_push [] old now a b (inl between) = inr between
  had_push [] old now a b (inr none) = absurd none
  had_push (first ∷ []) old now a b (inl between) = inl (inl between)
  had_push (first ∷ []) old now a b (inr had) = ⊎_elim (λ none. absurd none) (λ between. inr between) (had_push [] old now a b had)
  had_push (first ∷ next ∷ past) old now a b (inl between) = inl (inl between)
  had_push (first ∷ next ∷ past) old now a b (inr had) = ⊎_elim (λ earlier. inl (inr earlier)) (λ between. inr between) (had_push (next ∷ past) old now a b had)

  -- a call adds only lists that have P
  pub grows : (kind : ℕ) (past : List (Sides D)) (old now : Sides D) (P : List (List ℕ) → Type 0) → moment old.a ≤ moment now.a → moment old.b ≤ moment now.b
      → ((a b : List ℕ) → LeftBetween moment left_since old now a b → MayLeave may_leave old a b ⊎ ((list : List (List ℕ)) → PairStandsFor kind list a b → P list))
      → (t : ℕ) (list : List (List ℕ)) → t ≤ length past → PairStandsSince may_leave moment left_since kind (past ++ old ∷ []) now t list → PairStandsSince may_leave moment left_since kind past old t list ⊎ P list
  grows kind past old now P later_a later_b step t list le since =
      ⊎_elim (λ may. here (record { a = counts_now now.a (moment old.a) since.a later_a may.a; b = counts_now now.b (moment old.b) since.b later_b may.b }))
      (λ had. ⊎_elim (λ earlier. inl (record { a = since.a; b = since.b; left = inr earlier; stands = since.stands })) here (had_push (drop t past) old now since.a since.b (subst (λ (l : List (Sides D)). HadLeft moment left_since l now since.a since.b) (drop-append-le t past (old ∷ []) le) had))) since.left
    where
      here : LeftBetween moment left_since old now since.a since.b → PairStandsSince may_leave moment left_since kind past old t list ⊎ P list
      here between = ⊎_elim (λ may. inl (record { a = since.a; b = since.b; left = inl may; stands = since.stands })) (λ p. inr (p list since.stands)) (step since.a since.b between)

  -- one disk moves, and the other stands still
  pub moves : (kind : ℕ) (on_b : Bool) (old now still : D) (Q : List ℕ → Type 0) (P : List (List ℕ) → Type 0) → AddsOf moment left_since old now Q
      → ((image other : List ℕ) → Q image → may_leave still other → (list : List (List ℕ)) → PairStandsFor kind list image other → P list)
      → (a b : List ℕ) → LeftBetween moment left_since (sides_of on_b old still) (sides_of on_b now still) a b → MayLeave may_leave (sides_of on_b old still) a b ⊎ ((list : List (List ℕ)) → PairStandsFor kind list a b → P list)
  moves kind false old now still Q P run step a b between =
      let b_left = only_now still b between.b in
      ⊎_elim (λ was. inl (record { a = only_now old a was; b = b_left })) (λ q. inr (λ list stands. step a b q b_left list stands)) (run.before (moment old) a (omega arith) between.a)
  moves kind true old now still Q P run step a b between =
      let a_left = only_now still a between.a in
      ⊎_elim (λ was. inl (record { a = a_left; b = only_now old b was })) (λ q. inr (λ list stands. step b a q a_left list (stands_across kind list a b stands))) (run.before (moment old) b (omega arith) between.b)

pub sides_swapped : {D : Type 0} (on_b : Bool) (chosen other : D) → sides_of on_b chosen other ≡ sides_of (not on_b) other chosen
sides_swapped true chosen other = refl
sides_swapped false chosen other = refl

pub sides_later : {D : Type 0} (moment : D → ℕ) (on_b : Bool) (old now still : D) → moment old ≤ moment now
    → (moment (sides_of on_b old still).a ≤ moment (sides_of on_b now still).a) × (moment (sides_of on_b old still).b ≤ moment (sides_of on_b now still).b)
sides_later moment true old now still later = (omega arith, later)
sides_later moment false old now still later = (later, omega arith)

-- both of two facts
pub adds_both : {D : Type 0} (moment : D → ℕ) (left_since : D → ℕ → List ℕ → Type 0) (old new : D) (P Q : List ℕ → Type 0) → AddsOf moment left_since old new P → AddsOf moment left_since old new Q → AddsOf moment left_since old new (λ image. P image × Q image)
adds_both moment left_since old new P Q first second = record {
  later = first.later;
  before = λ t image le left. ⊎_elim (λ was. inl was) (λ p. ⊎_elim (λ was. inl was) (λ q. inr (p, q)) (second.before t image le left)) (first.before t image le left);
}

module _ {D : Type 0} (may_leave : D → List ℕ → Type 0) (moment : D → ℕ) (left_since : D → ℕ → List ℕ → Type 0)
    (counts_now : (disk : D) (t : ℕ) (image : List ℕ) → t ≤ moment disk → may_leave disk image → left_since disk t image) (only_now : (disk : D) (image : List ℕ) → left_since disk (moment disk) image → may_leave disk image) where
  -- what a stop leaves of a pair since a moment
  abbrev pub Since : PairState D → ℕ → List (List ℕ) → Type 0
  Since pair t list = PairStandsSince may_leave moment left_since pair.log.kind pair.past (disks_of pair) t list

  -- a call in which one disk moves, while the other stands still
  call_adds : (old new : PairState D) (on_b : Bool) (from to still : D) (Q : List ℕ → Type 0) (P : List (List ℕ) → Type 0)
      → new.log.kind ≡ old.log.kind → new.past ≡ old.past ++ disks_of old ∷ [] → disks_of old ≡ sides_of on_b from still → disks_of new ≡ sides_of on_b to still
      → AddsOf moment left_since from to Q → ((image other : List ℕ) → Q image → may_leave still other → (list : List (List ℕ)) → PairStandsFor old.log.kind list image other → P list)
      → AddsOf (λ pair. length pair.past) Since old new P
  call_adds old new on_b from to still Q P kind past was now run step =
      let later = sides_later moment on_b from to still run.later in
      record {
        later = omega (arith, ap length past, length-append old.past (disks_of old ∷ []));
        before = λ t list le since.
            let grown = grows may_leave moment left_since counts_now only_now old.log.kind old.past (sides_of on_b from still) (sides_of on_b to still) P later.0 later.1 (moves may_leave moment left_since counts_now only_now old.log.kind on_b from to still Q P run step) t list le
            (subst (λ (n : ℕ). PairStandsSince may_leave moment left_since n (old.past ++ sides_of on_b from still ∷ []) (sides_of on_b to still) t list) kind
            (subst (λ (l : List (Sides D)). PairStandsSince may_leave moment left_since new.log.kind l (sides_of on_b to still) t list) (past ∙ ap (λ (disks : Sides D). old.past ++ disks ∷ []) was)
            (subst (λ (disks : Sides D). PairStandsSince may_leave moment left_since new.log.kind new.past disks t list) now since))) in
            subst (λ (disks : Sides D). PairStandsSince may_leave moment left_since old.log.kind old.past disks t list ⊎ P list) (sym was) grown;
      }

  -- the disk of the log moves
  pub chosen_adds : (old new : PairState D) (Q : List ℕ → Type 0) (P : List (List ℕ) → Type 0)
      → new.log.kind ≡ old.log.kind → new.past ≡ old.past ++ disks_of old ∷ [] → new.on_b ≡ old.on_b → new.other ≡ old.other
      → AddsOf moment left_since old.log.disk new.log.disk Q → ((image other : List ℕ) → Q image → may_leave old.other other → (list : List (List ℕ)) → PairStandsFor old.log.kind list image other → P list)
      → AddsOf (λ pair. length pair.past) Since old new P
  chosen_adds old new Q P kind past on_b other run step =
      call_adds old new old.on_b old.log.disk new.log.disk old.other Q P kind past refl (ap (λ (b : Bool). sides_of b new.log.disk new.other) on_b ∙ ap (sides_of old.on_b new.log.disk) other) run step

  -- the other disk moves
  pub other_adds : (old new : PairState D) (to : D) (Q : List ℕ → Type 0) (P : List (List ℕ) → Type 0)
      → new.log.kind ≡ old.log.kind → new.past ≡ old.past ++ disks_of old ∷ [] → disks_of new ≡ sides_of (not old.on_b) to old.log.disk
      → AddsOf moment left_since old.other to Q → ((image chosen : List ℕ) → Q image → may_leave old.log.disk chosen → (list : List (List ℕ)) → PairStandsFor old.log.kind list image chosen → P list)
      → AddsOf (λ pair. length pair.past) Since old new P
  other_adds old new to Q P kind past now run step = call_adds old new (not old.on_b) old.other to old.log.disk Q P kind past (sides_swapped old.on_b old.log.disk old.other) now run step

  -- at rest a stop leaves the log beside the other disk
  pub now_only : (pair : PairState D) (list found : List (List ℕ)) → Since pair (length pair.past) found
      → ((image other : List ℕ) → may_leave pair.log.disk image → may_leave pair.other other → PairStandsFor pair.log.kind found image other → found ≡ list) → found ≡ list
  now_only pair list found since step = by_side pair.on_b (⊎_elim (λ may. may) (λ had. absurd (none had)) since.left)
    where
      none : HadLeft moment left_since (drop (length pair.past) pair.past) (disks_of pair) since.a since.b → ⊥
      none had = subst (λ (l : List (Sides D)). HadLeft moment left_since l (disks_of pair) since.a since.b) (drop_all (length pair.past) pair.past (omega arith)) had

      by_side : (on_b : Bool) → MayLeave may_leave (sides_of on_b pair.log.disk pair.other) since.a since.b → found ≡ list
      by_side true may = step since.b since.a may.b may.a (stands_across pair.log.kind found since.a since.b since.stands)
      by_side false may = step since.a since.b may.a may.b since.stands

-- a pair by its parts
abbrev pub pair_of : {D : Type 0} → LogState D → D → Bool → List (Sides D) → Option (ℕ × ℕ) → PairState D
pair_of log other on_b past failed = record { log = log; other = other; on_b = on_b; past = past; failed = failed }

-- one snapshot more
pub past_pushed : {A B : Type 0} (f : A → B) (old new : List A) (x : A) → new ≡ old ++ x ∷ [] → map f new ≡ map f old ++ f x ∷ []
past_pushed f old new x is = ap (map f) is ∙ map-append f old (x ∷ [])

-- the faults of the chosen side's disk, and of the other one
pub faults_chosen : {D : Type 0} (count : D → ℕ) (on_b : Bool) (chosen other : D) → (if side_of on_b == 0 then count (sides_of on_b chosen other).a else count (sides_of on_b chosen other).b) ≡ count chosen
faults_chosen count true chosen other = refl
faults_chosen count false chosen other = refl

pub faults_other : {D : Type 0} (count : D → ℕ) (on_b : Bool) (chosen other : D) → (if side_of (not on_b) == 0 then count (sides_of on_b chosen other).a else count (sides_of on_b chosen other).b) ≡ count other
faults_other count true chosen other = refl
faults_other count false chosen other = refl

-- the other side's disk failed
pub failed_other : {D : Type 0} (count : D → ℕ) (on_b : Bool) (chosen other chosen' other' : D) (last : ℕ × ℕ) → last ≡ (side_of (not on_b), count other') → Rose (count other) (count other')
    → FailedOn (λ side. if side == 0 then count (sides_of on_b chosen other).a else count (sides_of on_b chosen other).b) (λ side. if side == 0 then count (sides_of on_b chosen' other').a else count (sides_of on_b chosen' other').b) (Some last)
failed_other count true chosen other chosen' other' last is rose = record { side = 0; last_is = ap Some is; rose = rose }
failed_other count false chosen other chosen' other' last is rose = record { side = 1; last_is = ap Some is; rose = rose }

-- an opening, in which the disks are only read up to some moment, and then one of them moves
module _ {D : Type 0} (holds : D → Option (List ℕ)) (may_leave : D → List ℕ → Type 0) (moment : D → ℕ) (left_since : D → ℕ → List ℕ → Type 0) (count reserved : D → ℕ)
    (only_now : (disk : D) (image : List ℕ) → left_since disk (moment disk) image → may_leave disk image)
    (kind : ℕ) (a b : List ℕ) (old read : Sides D) (reads_a : ReadsOf holds may_leave moment left_since count reserved old.a read.a) (reads_b : ReadsOf holds may_leave moment left_since count reserved old.b read.b) where
  pub opens_none : OpensOf holds may_leave moment left_since count reserved kind a b old read
  opens_none = record {
    read = read;
    reads_a = reads_a;
    reads_b = reads_b;
    alike = λ x y between. inl (record { a = reads_a.fewer x (only_now read.a x between.a); b = reads_b.fewer y (only_now read.b y between.b) });
  }

  pub opens_a : (to : D) → ((y : List ℕ) → may_leave read.b y → y ≡ b) → AddsOf moment left_since read.a to (StandAlikeBeside kind b a) → OpensOf holds may_leave moment left_since count reserved kind a b old (record { a = to; b = read.b })
  opens_a to only run = record {
    read = read;
    reads_a = reads_a;
    reads_b = reads_b;
    alike = λ x y between.
        let beside = only_now read.b y between.b in
        ⊎_elim (λ was. inl (record { a = reads_a.fewer x (only_now read.a x was); b = reads_b.fewer y beside }))
        (λ alike. inr (subst (λ (l : List ℕ). PairsStandAlike kind a b x l) (sym (only y beside)) (record { bodies = alike.bodies; this = inl alike.this; that = inl alike.that })))
        (run.before (moment read.a) x (omega arith) between.a);
  }

  pub opens_b : (to : D) → ((x : List ℕ) → may_leave read.a x → x ≡ a) → AddsOf moment left_since read.b to (StandAlikeBeside kind a b) → OpensOf holds may_leave moment left_since count reserved kind a b old (record { a = read.a; b = to })
  opens_b to only run = record {
    read = read;
    reads_a = reads_a;
    reads_b = reads_b;
    alike = λ x y between.
        let beside = only_now read.a x between.a in
        ⊎_elim (λ was. inl (record { a = reads_a.fewer x beside; b = reads_b.fewer y (only_now read.b y was) }))
        (λ alike. inr (subst (λ (l : List ℕ). PairsStandAlike kind a b l y) (sym (only x beside)) (record { bodies = alike.bodies; this = inr alike.this; that = inr alike.that })))
        (run.before (moment read.b) y (omega arith) between.b);
  }
