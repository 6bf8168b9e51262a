-- What the calls say behind one call more.
use Rattle.std.proofs.Common.{◌≡◌, ℕ, suc, ◌+◌, ◌≤◌, ◌<◌, Bool, true, false, cond, ◌&&◌, List, [], ◌∷◌, ◌++◌, length, Option, None, Some, nat_lt, refl, sym, ap, ◌∙◌, arith}
use Rattle.std.specs.Bool.{⊤}
use Rattle.std.specs.Option.{option_or, option_map, is_none, unwrap_or}
use Rattle.std.proofs.lemmas.Bool.Decides.{nat_tests}
use Rattle.cw_types.specs.declared.ids.Tag.{Tag}
use Rattle.cw_types.specs.declared.ids.PartKey.{PartKey}
use Rattle.cw_types.specs.Same.{same_tag, same_part}
use Rattle.cw_types.proofs.SameLemmas.{same_tag-Decides, same_tag-flip}
use Rattle.cw_offset.specs.declared.call.OffsetCall.{OffsetCall}
use Rattle.cw_offset.specs.declared.call.OffsetCall.TheVariants.{Stand, Put, Commit, Abort, Set}
use Rattle.cw_offset.specs.declared.under.Settled.{Settled}
use Rattle.cw_offset.specs.Offsets.{mark_in, marker_of, is_commit, said_in, said_of, committed}
use Rattle.cw_offset.specs.Rows.{value_at, value_in, later}
use Rattle.cw_offset.specs.Tables.{settled, is_stand_of, first_at, put_at, waits_at}
use Rattle.cw_offset.proofs.Replays.{option_or-none, option_or-assoc, marker_of-append}

pub marker_of-push : (tag : Tag) (calls : List OffsetCall) (last : OffsetCall) → marker_of tag (calls ++ last ∷ []) ≡ option_or (marker_of tag calls) (mark_in tag last)
marker_of-push tag calls last = marker_of-append tag calls (last ∷ []) ∙ ap (option_or (marker_of tag calls)) (option_or-none (mark_in tag last))

-- what a call says depends on whether its transaction is committed
pub said_in-commits : (part : PartKey) (m n : Tag → Option Bool) (call : OffsetCall) → ((tag : Tag) → is_commit (m tag) ≡ is_commit (n tag)) → said_in part m call ≡ said_in part n call
said_in-commits part m n (Stand tag) same = refl
said_in-commits part m n (Put tag other to) same = ap (λ (b : Bool). cond (same_part part other && b) (Some (Some to)) None) (same tag)
said_in-commits part m n (Commit tag) same = refl
said_in-commits part m n (Abort tag) same = refl
said_in-commits part m n (Set other to) same = refl

-- a value that a call says, at its place
abbrev own : ℕ → Option (Option ℕ) → Option Settled
own place said = option_map (value_at place) said

-- ---- a call that commits nothing

module _ (last : OffsetCall) (quiet : (tag : Tag) (o : Option Bool) → is_commit (option_or o (mark_in tag last)) ≡ is_commit o) (part : PartKey) where
  pub settled-push : (calls : List OffsetCall) (place : ℕ) → settled part place (calls ++ last ∷ []) ≡ option_or (settled part (place + length calls) (last ∷ [])) (settled part place calls)
  settled-push [] place = ap (λ (n : ℕ). settled part n (last ∷ [])) (omega arith) ∙ sym (option_or-none (settled part (place + 0) (last ∷ [])))
  settled-push (call ∷ calls) place =
      let said : said_in part (λ tag. marker_of tag (calls ++ last ∷ [])) call ≡ said_in part (λ tag. marker_of tag calls) call =
      said_in-commits part (λ tag. marker_of tag (calls ++ last ∷ [])) (λ tag. marker_of tag calls) call (λ tag. ap is_commit (marker_of-push tag calls last) ∙ quiet tag (marker_of tag calls)) in
      ap (λ o. option_or (settled part (place + 1) (calls ++ last ∷ [])) (own place o)) said
      ∙ ap (λ o. option_or o (own place (said_in part (λ tag. marker_of tag calls) call))) (settled-push calls (place + 1))
      ∙ option_or-assoc (settled part (place + 1 + length calls) (last ∷ [])) (settled part (place + 1) calls) (own place (said_in part (λ tag. marker_of tag calls) call))
      ∙ ap (λ (n : ℕ). option_or (settled part n (last ∷ [])) (settled part place (call ∷ calls))) (omega arith)

quiet_none : (o : Option Bool) → is_commit (option_or o None) ≡ is_commit o
quiet_none o = ap is_commit (option_or-none o)

quiet_abort : (b : Bool) (o : Option Bool) → is_commit (option_or o (cond b (Some false) None)) ≡ is_commit o
quiet_abort true None = refl
quiet_abort true (Some c) = refl
quiet_abort false o = quiet_none o

-- ---- what is said stands from the first place on

abbrev IsFrom : ℕ → Option Settled → Type 0
IsFrom place None = ⊤
IsFrom place (Some s) = place ≤ s.place

from_or : (place : ℕ) (a o : Option Settled) → IsFrom (place + 1) a → IsFrom place o → IsFrom place (option_or a o)
from_or place None o fa fo = fo
from_or place (Some s) o fa fo = omega (arith, fa)

own_from : (place : ℕ) (said : Option (Option ℕ)) → IsFrom place (own place said)
own_from place None = tt
own_from place (Some to) = omega arith

settled_from : (part : PartKey) (calls : List OffsetCall) (place : ℕ) → IsFrom place (settled part place calls)
settled_from part [] place = tt
settled_from part (call ∷ calls) place =
    from_or place (settled part (place + 1) calls) (own place (said_in part (λ tag. marker_of tag calls) call))
    (settled_from part calls (place + 1)) (own_from place (said_in part (λ tag. marker_of tag calls) call))

put_from : (tag : Tag) (part : PartKey) (place : ℕ) (b : Bool) (to : Option ℕ) → IsFrom place (cond b (Some (value_at place to)) None)
put_from tag part place true to = omega arith
put_from tag part place false to = tt

put_at_from : (tag : Tag) (part : PartKey) (place : ℕ) (call : OffsetCall) → IsFrom place (put_at tag part place call)
put_at_from tag part place (Stand other) = tt
put_at_from tag part place (Put other of to) = put_from tag part place (same_tag tag other && same_part part of) (Some to)
put_at_from tag part place (Commit other) = tt
put_at_from tag part place (Abort other) = tt
put_at_from tag part place (Set of to) = tt

chosen_from : (place : ℕ) (b : Bool) (o : Option Settled) → IsFrom place o → IsFrom place (cond b o None)
chosen_from place true o f = f
chosen_from place false o f = tt

waits_from : (tag : Tag) (part : PartKey) (calls : List OffsetCall) (place : ℕ) → IsFrom place (waits_at tag part place calls)
waits_from tag part [] place = tt
waits_from tag part (call ∷ calls) place =
    from_or place (waits_at tag part (place + 1) calls) (cond (is_none (marker_of tag calls)) (put_at tag part place call) None)
    (waits_from tag part calls (place + 1)) (chosen_from place (is_none (marker_of tag calls)) (put_at tag part place call) (put_at_from tag part place call))

-- ---- a commit

chosen_is : (b : Bool) (x y : Option Settled) → b ≡ true → cond b x y ≡ x
chosen_is true x y e = refl
chosen_is false x y e = cc e

chosen_isn't : (b : Bool) (x y : Option Settled) → b ≡ false → cond b x y ≡ y
chosen_isn't true x y e = cc e
chosen_isn't false x y e = refl

behind : (place : ℕ) (x w : Settled) → x.place ≤ place → place + 1 ≤ w.place → nat_lt x.place w.place ≡ true
behind place x w le lt = grind (arith, nat_tests, le, lt)

before : (place : ℕ) (s x : Settled) → x.place ≤ place → place + 1 ≤ s.place → nat_lt s.place x.place ≡ false
before place s x le lt = grind (arith, nat_tests, le, lt)

-- a value before both
later_past : (place : ℕ) (s w x : Option Settled) → IsFrom (place + 1) s → IsFrom (place + 1) w → ((v : Settled) → x ≡ Some v → v.place ≤ place) → option_or (later s w) x ≡ later (option_or s x) w
later_past place None None x fs fw past = refl
later_past place None (Some w) None fs fw past = refl
later_past place None (Some w) (Some x) fs fw past = sym (chosen_is (nat_lt x.place w.place) (Some w) (Some x) (behind place x w (past x refl) fw))
later_past place (Some s) None x fs fw past = refl
later_past place (Some s) (Some w) x fs fw past = by (nat_lt s.place w.place)
  where
    by : (b : Bool) → option_or (cond b (Some w) (Some s)) x ≡ cond b (Some w) (Some s)
    by true = refl
    by false = refl

-- a put before both that begins to count
later_put : (place : ℕ) (s w x : Option Settled) → IsFrom (place + 1) s → IsFrom (place + 1) w → ((v : Settled) → x ≡ Some v → v.place ≤ place) → option_or (later s w) x ≡ later s (option_or w x)
later_put place None (Some w) x fs fw past = refl
later_put place (Some s) (Some w) x fs fw past = by (nat_lt s.place w.place)
  where
    by : (b : Bool) → option_or (cond b (Some w) (Some s)) x ≡ cond b (Some w) (Some s)
    by true = refl
    by false = refl
later_put place None None None fs fw past = refl
later_put place None None (Some x) fs fw past = refl
later_put place (Some s) None None fs fw past = refl
later_put place (Some s) None (Some x) fs fw past = sym (chosen_isn't (nat_lt s.place x.place) (Some x) (Some s) (before place s x (past x refl) fs))

own_past : (place : ℕ) (said : Option (Option ℕ)) (v : Settled) → own place said ≡ Some v → v.place ≤ place
own_past place None v e = cc e
own_past place (Some to) v e = let is : value_at place to ≡ v = cc e in rw (← is) (omega arith)

nothing : (b : Bool) (w : Option Settled) → option_or w (cond b None None) ≡ w
nothing true w = option_or-none w
nothing false w = option_or-none w

marked : (mt : Option Bool) (b : Bool) (o w : Option Settled) → mt ≡ Some b → option_or w (cond (is_none mt) o None) ≡ w
marked None b o w e = cc e
marked (Some c) b o w e = option_or-none w

unmarked : (mt : Option Bool) (o w : Option Settled) → mt ≡ None → option_or w (cond (is_none mt) o None) ≡ option_or w o
unmarked None o w e = refl
unmarked (Some c) o w e = cc e

abbrev said_put : Bool → ℕ → Option (Option ℕ)
said_put b to = cond b (Some (Some to)) None

no_and : (p : Bool) → (p && false) ≡ false
no_and true = refl
no_and false = refl

put_as_said : (p : Bool) (place to : ℕ) → own place (said_put (p && true) to) ≡ cond p (Some (value_at place (Some to))) None
put_as_said true place to = refl
put_as_said false place to = refl

module _ (place to : ℕ) (s w : Option Settled) (fs : IsFrom (place + 1) s) (fw : IsFrom (place + 1) w) where
  past : (said : Option (Option ℕ)) → option_or (later s w) (own place said) ≡ later (option_or s (own place said)) w
  past said = later_past place s w (own place said) fs fw (own_past place said)

  none_said : (p : Bool) → own place (said_put (p && false) to) ≡ None
  none_said p = ap (λ (b : Bool). own place (said_put b to)) (no_and p)

  -- a put behind whose others a transaction is committed
  at_put : (m mt : Option Bool) (st p : Bool) → (st ≡ true → mt ≡ m)
      → option_or (later s w) (own place (said_put (p && is_commit (option_or m (cond st (Some true) None))) to))
      ≡ later (option_or s (own place (said_put (p && is_commit m) to))) (option_or w (cond (is_none mt) (cond (st && p) (Some (value_at place (Some to))) None) None))
  at_put (Some b) mt true p same =
      past (said_put (p && b) to)
      ∙ ap (later (option_or s (own place (said_put (p && b) to)))) (sym (marked mt b (cond p (Some (value_at place (Some to))) None) w (same refl)))
  at_put (Some b) mt false p same =
      past (said_put (p && b) to)
      ∙ ap (later (option_or s (own place (said_put (p && b) to)))) (sym (nothing (is_none mt) w))
  at_put None mt true p same =
      ap (option_or (later s w)) (put_as_said p place to)
      ∙ later_put place s w (cond p (Some (value_at place (Some to))) None) fs fw (λ v e. own_past place (said_put p to) v (sym (own_put p) ∙ e))
      ∙ ap (λ o. later o (option_or w (cond p (Some (value_at place (Some to))) None))) (sym (option_or-none s) ∙ ap (option_or s) (sym (none_said p)))
      ∙ ap (later (option_or s (own place (said_put (p && false) to)))) (sym (unmarked mt (cond p (Some (value_at place (Some to))) None) w (same refl)))
    where
      own_put : (q : Bool) → cond q (Some (value_at place (Some to))) None ≡ own place (said_put q to)
      own_put true = refl
      own_put false = refl
  at_put None mt false p same =
      past (said_put (p && false) to)
      ∙ ap (later (option_or s (own place (said_put (p && false) to)))) (sym (nothing (is_none mt) w))

module _ (part : PartKey) (t : Tag) where
  abbrev whole : ℕ → List OffsetCall → Option Settled
  whole place calls = settled part place calls

  abbrev waits : ℕ → List OffsetCall → Option Settled
  waits place calls = waits_at t part place calls

  at_other : (place : ℕ) (calls : List OffsetCall) (said : Option (Option ℕ)) → whole (place + 1) (calls ++ Commit t ∷ []) ≡ later (whole (place + 1) calls) (waits (place + 1) calls)
      → option_or (whole (place + 1) (calls ++ Commit t ∷ [])) (own place said)
      ≡ later (option_or (whole (place + 1) calls) (own place said)) (option_or (waits (place + 1) calls) (cond (is_none (marker_of t calls)) None None))
  at_other place calls said more =
      ap (λ o. option_or o (own place said)) more
      ∙ later_past place (whole (place + 1) calls) (waits (place + 1) calls) (own place said) (settled_from part calls (place + 1)) (waits_from t part calls (place + 1)) (own_past place said)
      ∙ ap (later (option_or (whole (place + 1) calls) (own place said))) (sym (nothing (is_none (marker_of t calls)) (waits (place + 1) calls)))

  pub settled-commit : (calls : List OffsetCall) (place : ℕ) → whole place (calls ++ Commit t ∷ []) ≡ later (whole place calls) (waits place calls)
  settled-commit [] place = refl
  settled-commit (Stand tag ∷ calls) place = at_other place calls None (settled-commit calls (place + 1))
  settled-commit (Put tag other to ∷ calls) place =
      ap (λ o. option_or o (own place (said_put (same_part part other && is_commit (marker_of tag (calls ++ Commit t ∷ []))) to))) (settled-commit calls (place + 1))
      ∙ ap (λ o. option_or (later (whole (place + 1) calls) (waits (place + 1) calls)) (own place (said_put (same_part part other && is_commit o) to))) (marker_of-push tag calls (Commit t))
      ∙ at_put place to (whole (place + 1) calls) (waits (place + 1) calls) (settled_from part calls (place + 1)) (waits_from t part calls (place + 1))
      (marker_of tag calls) (marker_of t calls) (same_tag tag t) (same_part part other) (λ same. ap (λ (q : Tag). marker_of q calls) (sym ((same_tag-Decides tag t).0 same)))
      ∙ ap (λ (b : Bool). later (whole place (Put tag other to ∷ calls)) (option_or (waits (place + 1) calls) (cond (is_none (marker_of t calls)) (cond (b && same_part part other) (Some (value_at place (Some to))) None) None)))
      (same_tag-flip tag t)
  settled-commit (Commit tag ∷ calls) place = at_other place calls None (settled-commit calls (place + 1))
  settled-commit (Abort tag ∷ calls) place = at_other place calls None (settled-commit calls (place + 1))
  settled-commit (Set other to ∷ calls) place = at_other place calls (cond (same_part part other) (Some to) None) (settled-commit calls (place + 1))

-- ---- what waits

is_none-marked : (o : Option Bool) (b : Bool) → is_none (option_or o (Some b)) ≡ false
is_none-marked None b = refl
is_none-marked (Some c) b = refl

and_none : (a b : Bool) → b ≡ false → (a && b) ≡ false
and_none true b e = e
and_none false b e = refl

-- a call that marks a transaction
module _ (t : Tag) (last : OffsetCall) (b : Bool) (marks : mark_in t last ≡ Some b) where
  no_more : (calls : List OffsetCall) → is_none (marker_of t (calls ++ last ∷ [])) ≡ false
  no_more calls = ap is_none (marker_of-push t calls last ∙ ap (option_or (marker_of t calls)) marks) ∙ is_none-marked (marker_of t calls) b

  pub first_at-marked : is_stand_of t last ≡ false → (calls : List OffsetCall) (place : ℕ) → first_at t place (calls ++ last ∷ []) ≡ None
  first_at-marked none [] place = ap (λ (c : Bool). cond (c && true) (Some place) None) none
  first_at-marked none (call ∷ calls) place =
      ap (λ (c : Bool). cond c (Some place) (first_at t (place + 1) (calls ++ last ∷ []))) (and_none (is_stand_of t call) (is_none (marker_of t (calls ++ last ∷ []))) (no_more calls))
      ∙ first_at-marked none calls (place + 1)

  pub waits_at-marked : (part : PartKey) → ((place : ℕ) → put_at t part place last ≡ None) → (calls : List OffsetCall) (place : ℕ) → waits_at t part place (calls ++ last ∷ []) ≡ None
  waits_at-marked part none [] place = none place
  waits_at-marked part none (call ∷ calls) place =
      ap (λ o. option_or o (cond (is_none (marker_of t (calls ++ last ∷ []))) (put_at t part place call) None)) (waits_at-marked part none calls (place + 1))
      ∙ ap (λ (c : Bool). cond c (put_at t part place call) None) (no_more calls)

-- a call that doesn't
module _ (t : Tag) (last : OffsetCall) (plain : mark_in t last ≡ None) where
  as_before : (calls : List OffsetCall) → is_none (marker_of t (calls ++ last ∷ [])) ≡ is_none (marker_of t calls)
  as_before calls = ap is_none (marker_of-push t calls last ∙ ap (option_or (marker_of t calls)) plain ∙ option_or-none (marker_of t calls))

  first_or : (b : Bool) (place : ℕ) (o more : Option ℕ) → cond b (Some place) (option_or o more) ≡ option_or (cond b (Some place) o) more
  first_or true place o more = refl
  first_or false place o more = refl

  pub first_at-push : (calls : List OffsetCall) (place : ℕ) → first_at t place (calls ++ last ∷ []) ≡ option_or (first_at t place calls) (cond (is_stand_of t last) (Some (place + length calls)) None)
  first_at-push [] place = with_true (is_stand_of t last) ∙ ap (λ (n : ℕ). cond (is_stand_of t last) (Some n) None) (omega arith)
    where
      with_true : (b : Bool) → cond (b && true) (Some place) None ≡ cond b (Some place) None
      with_true true = refl
      with_true false = refl
  first_at-push (call ∷ calls) place =
      ap (λ (b : Bool). cond (is_stand_of t call && b) (Some place) (first_at t (place + 1) (calls ++ last ∷ []))) (as_before calls)
      ∙ ap (cond (is_stand_of t call && is_none (marker_of t calls)) (Some place)) (first_at-push calls (place + 1))
      ∙ first_or (is_stand_of t call && is_none (marker_of t calls)) place (first_at t (place + 1) calls) (cond (is_stand_of t last) (Some (place + 1 + length calls)) None)
      ∙ ap (λ (n : ℕ). option_or (first_at t place (call ∷ calls)) (cond (is_stand_of t last) (Some n) None)) (omega arith)

  pub waits_at-push : (part : PartKey) (calls : List OffsetCall) (place : ℕ) → waits_at t part place (calls ++ last ∷ []) ≡ option_or (put_at t part (place + length calls) last) (waits_at t part place calls)
  waits_at-push part [] place = ap (λ (n : ℕ). put_at t part n last) (omega arith) ∙ sym (option_or-none (put_at t part (place + 0) last))
  waits_at-push part (call ∷ calls) place =
      ap (λ (b : Bool). option_or (waits_at t part (place + 1) (calls ++ last ∷ [])) (cond b (put_at t part place call) None)) (as_before calls)
      ∙ ap (λ o. option_or o (cond (is_none (marker_of t calls)) (put_at t part place call) None)) (waits_at-push part calls (place + 1))
      ∙ option_or-assoc (put_at t part (place + 1 + length calls) last) (waits_at t part (place + 1) calls) (cond (is_none (marker_of t calls)) (put_at t part place call) None)
      ∙ ap (λ (n : ℕ). option_or (put_at t part n last) (waits_at t part place (call ∷ calls))) (omega arith)

-- a first place is one of the calls
chosen_below : (b : Bool) (place n : ℕ) (o : Option ℕ) (top : ℕ) → cond b (Some place) o ≡ Some n → place < top → (o ≡ Some n → n < top) → n < top
chosen_below true place n o top e here more = let is : place ≡ n = cc e in omega (arith, is, here)
chosen_below false place n o top e here more = more e

pub first_at-below : (t : Tag) (calls : List OffsetCall) (place n : ℕ) → first_at t place calls ≡ Some n → n < place + length calls
first_at-below t [] place n e = cc e
first_at-below t (call ∷ calls) place n e =
    chosen_below (is_stand_of t call && is_none (marker_of t calls)) place n (first_at t (place + 1) calls) (place + suc (length calls)) e (omega arith)
    (λ more. let below = first_at-below t calls (place + 1) n more in omega (arith, below))

-- ---- the value that is committed

in_or : (s : Option Settled) (said : Option (Option ℕ)) (place : ℕ) (o : Option (Option ℕ)) → option_map (λ (v : Settled). v.to) s ≡ o → option_map (λ (v : Settled). v.to) (option_or s (own place said)) ≡ option_or o said
in_or None said place o e = by said ∙ ap (λ x. option_or x said) e
  where
    by : (q : Option (Option ℕ)) → option_map (λ (v : Settled). v.to) (own place q) ≡ q
    by None = refl
    by (Some to) = refl
in_or (Some v) said place o e = ap (λ x. option_or x said) e

said-settled : (part : PartKey) (calls : List OffsetCall) (place : ℕ) → option_map (λ (v : Settled). v.to) (settled part place calls) ≡ said_of part calls
said-settled part [] place = refl
said-settled part (call ∷ calls) place = in_or (settled part (place + 1) calls) (said_in part (λ tag. marker_of tag calls) call) place (said_of part calls) (said-settled part calls (place + 1))

value-settled : (s : Option Settled) → unwrap_or (option_map (λ (v : Settled). v.to) s) None ≡ value_in s
value-settled None = refl
value-settled (Some v) = refl

pub committed-settled : (part : PartKey) (calls : List OffsetCall) → committed part calls ≡ value_in (settled part 0 calls)
committed-settled part calls = ap (λ o. unwrap_or o None) (sym (said-settled part calls 0)) ∙ value-settled (settled part 0 calls)

-- what each kind of call leaves committed
pub quiet_stand : (t tag : Tag) (o : Option Bool) → is_commit (option_or o (mark_in tag (Stand t))) ≡ is_commit o
quiet_stand t tag o = quiet_none o

pub quiet_put : (t : Tag) (part : PartKey) (to : ℕ) (tag : Tag) (o : Option Bool) → is_commit (option_or o (mark_in tag (Put t part to))) ≡ is_commit o
quiet_put t part to tag o = quiet_none o

pub quiet_aborted : (t tag : Tag) (o : Option Bool) → is_commit (option_or o (mark_in tag (Abort t))) ≡ is_commit o
quiet_aborted t tag o = quiet_abort (same_tag tag t) o

pub quiet_set : (part : PartKey) (to : Option ℕ) (tag : Tag) (o : Option Bool) → is_commit (option_or o (mark_in tag (Set part to))) ≡ is_commit o
quiet_set part to tag o = quiet_none o
