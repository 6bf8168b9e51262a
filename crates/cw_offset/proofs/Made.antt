-- Rows that were made read as none, and those that go read as none as well.
use Rattle.std.proofs.Common.{◌≡◌, ℕ, Bool, true, false, cond, List, Option, None, Some, IsSome, refl, sym, ap, subst, ◌∙◌}
use Rattle.std.specs.Option.{is_none, unwrap_or}
use Rattle.std.specs.BTreeMap.{BTreeMap, get, is_at}
use Rattle.std.specs.Ordering.{nat_cmp}
use Rattle.std.proofs.lemmas.Bool.{true≢false}
use Rattle.cw_types.specs.declared.ids.Tag.{Tag}
use Rattle.cw_types.specs.declared.ids.PartKey.{PartKey}
use Rattle.cw_types.specs.Same.{same_tag}
use Rattle.cw_types.proofs.SameLemmas.{same_tag-Decides}
use Rattle.cw_offset.specs.declared.call.OffsetCall.{OffsetCall}
use Rattle.cw_offset.specs.declared.under.Settled.{Settled}
use Rattle.cw_offset.specs.declared.under.Under.{Under}
use Rattle.cw_offset.specs.declared.tables.Tables.{Tables}
use Rattle.cw_offset.specs.Rows.{settled_at, HasPart, if_begun}
use Rattle.cw_offset.specs.Tables.{first_in, put_in, under_at, stands_at, IsFresh, IsBacked, Changes, MakesRows, HasUnder, HasPartIn, Roomier, Keeps}

backed_more : (old new : BTreeMap PartKey (Option Settled)) → ((q : PartKey) → HasPart old q → HasPart new q) → (n : ℕ) (o : Option Under) → IsBacked old n o → IsBacked new n o
backed_more old new more n None backed = tt
backed_more old new more n (Some under) backed = (backed.0, (λ q s e. more q (backed.1 q s e)))

pub parts_roomier : (old : Tables) (parts : BTreeMap PartKey (Option Settled)) → ((q : PartKey) → settled_at parts q ≡ settled_at old.parts q) → ((q : PartKey) → HasPart old.parts q → HasPart parts q) → Roomier old (record old { parts = parts })
parts_roomier old parts same more = record {
  next = refl;
  settled = same;
  parts = more;
  first = λ t. refl;
  waits = λ t q. refl;
  backed = λ n t has. backed_more old.parts parts more n (under_at old.waiting t) has;
  under = λ t has. has;
  parts_in = λ t q has. has;
  stands = λ n. refl;
  places = λ n has. has;
}

pub order_roomier : (old : Tables) (order : BTreeMap ℕ (Option Tag)) → ((n : ℕ) → stands_at order n ≡ stands_at old.order n) → ((n : ℕ) → IsSome (get nat_cmp old.order n) → IsSome (get nat_cmp order n)) → Roomier old (record old { order = order })
order_roomier old order same more = record {
  next = refl;
  settled = λ q. refl;
  parts = λ q has. has;
  first = λ t. refl;
  waits = λ t q. refl;
  backed = λ n t has. has;
  under = λ t has. has;
  parts_in = λ t q has. has;
  stands = same;
  places = more;
}

-- ---- a row of a transaction that is new

fresh_first : (o : Option Under) → IsFresh o → first_in o ≡ None
fresh_first None fresh = refl
fresh_first (Some under) fresh = fresh.0

fresh_waits : (o : Option Under) → IsFresh o → (q : PartKey) → put_in o q ≡ None
fresh_waits None fresh q = refl
fresh_waits (Some under) fresh q = ap (λ (f : Option ℕ). if_begun f (settled_at under.parts q)) fresh.0

fresh_backed : (parts : BTreeMap PartKey (Option Settled)) (n : ℕ) (o : Option Under) → IsFresh o → IsBacked parts n o
fresh_backed parts n None fresh = tt
fresh_backed parts n (Some under) fresh =
    ((λ q s e. absurd (nothing s (sym (ap (λ o. unwrap_or o None) (fresh.1 q)) ∙ e))), (λ q s e. absurd (nothing s (sym (ap (λ o. unwrap_or o None) (fresh.1 q)) ∙ e))))
  where
    nothing : (s : Settled) → ◌≡◌ {A = Option Settled} None (Some s) → ⊥
    nothing s e = cc e

module _ (old : Tables) (waiting : BTreeMap Tag Under) (kept : (t : Tag) → HasUnder old.waiting t → under_at waiting t ≡ under_at old.waiting t) (fresh : (t : Tag) → under_at old.waiting t ≡ None → IsFresh (under_at waiting t)) where
  by_row : (t : Tag) (o : Option Under) → under_at old.waiting t ≡ o → (first_in (under_at waiting t) ≡ first_in o) × ((q : PartKey) → put_in (under_at waiting t) q ≡ put_in o q) × ((n : ℕ) → IsBacked old.parts n o → IsBacked old.parts n (under_at waiting t))
  by_row t None is = let new = fresh t is in (fresh_first (under_at waiting t) new, fresh_waits (under_at waiting t) new, (λ n backed. fresh_backed old.parts n (under_at waiting t) new))
  by_row t (Some under) is =
      let same : under_at waiting t ≡ Some under = kept t (ap Rattle.std.specs.Option.is_some is) ∙ is in
      (ap first_in same, (λ q. ap (λ o. put_in o q) same), (λ n backed. subst (IsBacked old.parts n) (sym same) backed))

  has_part : (t : Tag) (o : Option Under) (q : PartKey) → under_at old.waiting t ≡ o → HasPartIn o q → HasPartIn (under_at waiting t) q
  has_part t None q is has = absurd has
  has_part t (Some under) q is has = subst (λ o. HasPartIn o q) (sym (kept t (ap Rattle.std.specs.Option.is_some is) ∙ is)) has

  pub under_roomier : Roomier old (record old { waiting = waiting })
  under_roomier = record {
    next = refl;
    settled = λ q. refl;
    parts = λ q has. has;
    first = λ t. (by_row t (under_at old.waiting t) refl).0;
    waits = λ t q. (by_row t (under_at old.waiting t) refl).1 q;
    backed = λ n t has. (by_row t (under_at old.waiting t) refl).2 n has;
    under = λ t has. subst (λ o. IsSome o) (sym (kept t has)) has;
    parts_in = λ t q has. has_part t (under_at old.waiting t) q refl has;
    stands = λ n. refl;
    places = λ n has. has;
  }

-- ---- a row of a part in that of a transaction

made_waits : (f g : Option ℕ) (s t : Option Settled) → f ≡ g → s ≡ t → if_begun f s ≡ if_begun g t
made_waits f g s t one two = ap (λ h. if_begun h s) one ∙ ap (if_begun g) two

module _ (old : Tables) (waiting : BTreeMap Tag Under) (t : Tag) (change : Changes MakesRows t old.waiting waiting) where
  first_row : (b : Bool) (o : Option Under) → (b ≡ true → o ≡ Some change.was) → first_in (cond b (Some change.now) o) ≡ first_in o
  first_row true o there = change.change.first ∙ sym (ap first_in (there refl))
  first_row false o there = refl

  waits_row : (b : Bool) (o : Option Under) (q : PartKey) → (b ≡ true → o ≡ Some change.was) → put_in (cond b (Some change.now) o) q ≡ put_in o q
  waits_row true o q there =
      made_waits change.now.first change.was.first (settled_at change.now.parts q) (settled_at change.was.parts q) change.change.first (change.change.same q) ∙ sym (ap (λ x. put_in x q) (there refl))
  waits_row false o q there = refl

  backed_row : (b : Bool) (o : Option Under) (n : ℕ) → (b ≡ true → o ≡ Some change.was) → IsBacked old.parts n o → IsBacked old.parts n (cond b (Some change.now) o)
  backed_row true o n there backed =
      let was : IsBacked old.parts n (Some change.was) = subst (IsBacked old.parts n) (there refl) backed in
      ((λ q s e. was.0 q s (sym (change.change.same q) ∙ e)), (λ q s e. was.1 q s (sym (change.change.same q) ∙ e)))
  backed_row false o n there backed = backed

  there_row : (q : Tag) → same_tag q t ≡ true → under_at old.waiting q ≡ Some change.was
  there_row q same = ap (under_at old.waiting) ((same_tag-Decides q t).0 same) ∙ change.there

  some_row : (b : Bool) (o : Option Under) → IsSome o → IsSome (cond b (Some change.now) o)
  some_row true o has = refl
  some_row false o has = has

  part_row : (b : Bool) (o : Option Under) (q : PartKey) → (b ≡ true → o ≡ Some change.was) → HasPartIn o q → HasPartIn (cond b (Some change.now) o) q
  part_row true o q there has = change.change.kept q (subst (λ x. HasPartIn x q) (there refl) has)
  part_row false o q there has = has

  pub part_under_roomier : Roomier old (record old { waiting = waiting })
  part_under_roomier = record {
    next = refl;
    settled = λ q. refl;
    parts = λ q has. has;
    first = λ q. ap first_in (change.row q) ∙ first_row (same_tag q t) (under_at old.waiting q) (there_row q);
    waits = λ q p. ap (λ o. put_in o p) (change.row q) ∙ waits_row (same_tag q t) (under_at old.waiting q) p (there_row q);
    backed = λ n q has. subst (IsBacked old.parts n) (sym (change.row q)) (backed_row (same_tag q t) (under_at old.waiting q) n (there_row q) has);
    under = λ q has. subst (λ o. IsSome o) (sym (change.row q)) (some_row (same_tag q t) (under_at old.waiting q) has);
    parts_in = λ q p has. subst (λ o. HasPartIn o p) (sym (change.row q)) (part_row (same_tag q t) (under_at old.waiting q) p (there_row q) has);
    stands = λ n. refl;
    places = λ n has. has;
  }

-- ---- a row of a transaction that goes

past_first : (o : Option Under) → is_none (first_in o) ≡ true → first_in o ≡ None
past_first None past = refl
past_first (Some under) past = by under.first past
  where
    by : (f : Option ℕ) → is_none f ≡ true → f ≡ None
    by None e = refl
    by (Some n) e = absurd (true≢false (sym e))

past_waits : (o : Option Under) → first_in o ≡ None → (q : PartKey) → put_in o q ≡ None
past_waits None past q = refl
past_waits (Some under) past q = ap (λ (f : Option ℕ). if_begun f (settled_at under.parts q)) past

module _ (old : Tables) (waiting : BTreeMap Tag Under) (t : Tag) (past : is_none (first_in (under_at old.waiting t)) ≡ true) (row : (q : Tag) → under_at waiting q ≡ cond (same_tag q t) None (under_at old.waiting q)) where
  first_gone : (b : Bool) (o : Option Under) → (b ≡ true → first_in o ≡ None) → first_in (cond b None o) ≡ first_in o
  first_gone true o there = sym (there refl)
  first_gone false o there = refl

  waits_gone : (b : Bool) (o : Option Under) (p : PartKey) → (b ≡ true → first_in o ≡ None) → put_in (cond b None o) p ≡ put_in o p
  waits_gone true o p there = sym (past_waits o (there refl) p)
  waits_gone false o p there = refl

  backed_gone : (b : Bool) (o : Option Under) (n : ℕ) → IsBacked old.parts n o → IsBacked old.parts n (cond b None o)
  backed_gone true o n backed = tt
  backed_gone false o n backed = backed

  none_there : (q : Tag) → same_tag q t ≡ true → first_in (under_at old.waiting q) ≡ None
  none_there q same = ap (λ (k : Tag). first_in (under_at old.waiting k)) ((same_tag-Decides q t).0 same) ∙ past_first (under_at old.waiting t) past

  pub forgotten_keeps : (calls : List OffsetCall) → Keeps old calls → Keeps (record old { waiting = waiting }) calls
  forgotten_keeps calls kept = record {
    next = kept.next;
    settled = kept.settled;
    first = λ q. ap first_in (row q) ∙ first_gone (same_tag q t) (under_at old.waiting q) (none_there q) ∙ kept.first q;
    waits = λ q p. ap (λ o. put_in o p) (row q) ∙ waits_gone (same_tag q t) (under_at old.waiting q) p (none_there q) ∙ kept.waits q p;
    backed = λ q. subst (IsBacked old.parts old.next) (sym (row q)) (backed_gone (same_tag q t) (under_at old.waiting q) old.next (kept.backed q));
    stands = kept.stands;
    placed = kept.placed;
  }
