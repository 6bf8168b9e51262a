-- The tables behind each kind of call.
use Rattle.std.proofs.Common.{◌≡◌, ℕ, ◌+◌, ◌≤◌, ◌<◌, ◌==◌, Bool, true, false, cond, ◌&&◌, List, [], ◌∷◌, ◌++◌, length, Option, None, Some, refl, sym, ap, subst, ◌∙◌, arith}
use Rattle.std.specs.Option.{option_or, option_map, is_none, unwrap_or}
use Rattle.std.specs.BTreeMap.{BTreeMap, get, is_at}
use Rattle.cw_types.specs.declared.ids.Tag.{Tag}
use Rattle.cw_types.specs.declared.ids.PartKey.{PartKey}
use Rattle.cw_types.specs.Same.{same_tag, same_part, part_order}
use Rattle.cw_types.proofs.SameLemmas.{same_tag-Decides, part_at, same_part-flip, same_part-Decides}
use Rattle.cw_tables.proofs.RowLemmas.{value-set}
use Rattle.cw_offset.specs.declared.call.OffsetCall.{OffsetCall}
use Rattle.cw_offset.specs.declared.call.OffsetCall.TheVariants.{Stand, Put, Commit, Abort, Set}
use Rattle.cw_offset.specs.declared.under.Settled.{Settled}
use Rattle.cw_offset.specs.declared.under.Under.{Under}
use Rattle.cw_offset.specs.declared.tables.Tables.{Tables}
use Rattle.cw_offset.specs.Rows.{value_at, settled_at, HasPart, if_from, if_begun, begun, ended, AreEarly, later}
use Rattle.cw_offset.specs.Tables.{settled, first_at, first_in, put_in, under_at, stands_at, is_place, IsBacked, Puts, Changes, Keeps}
use Rattle.cw_offset.proofs.Replays.{option_or-none}
use Rattle.cw_offset.proofs.Pushed.{settled-push, settled-commit, quiet_stand, quiet_put, quiet_aborted, quiet_set, first_at-push, first_at-below, waits_at-push}
use Rattle.cw_offset.proofs.Kept.{Stood, stood_keeps, stood_begun, marked_keeps, begun_waits, put_row, put_early, put_waits, in_has, other_place, pushed_next}

module _ (old new : Tables) (calls : List OffsetCall) (kept : Keeps old calls) (t : Tag) (next : new.next ≡ old.next + 1) where
  pub stand_keeps : Changes (λ was now. now ≡ begun old.next was) t old.waiting new.waiting → (begins : Bool) → begins ≡ is_none (first_in (under_at old.waiting t))
      → ((m : ℕ) → stands_at new.order m ≡ cond (old.next == m) (cond begins (Some t) None) (stands_at old.order m)) → new.parts ≡ old.parts → Keeps new (calls ++ Stand t ∷ [])
  stand_keeps change begins is order parts =
      let same_parts : (q : PartKey) → settled_at new.parts q ≡ settled q 0 (calls ++ Stand t ∷ []) = λ q. ap (λ (p : BTreeMap PartKey (Option Settled)). settled_at p q) parts ∙ kept.settled q ∙ sym (settled-push (Stand t) (quiet_stand t) q calls 0) in
      let backed : (q : Tag) → IsBacked new.parts old.next (under_at old.waiting q) = λ q. subst (λ (p : BTreeMap PartKey (Option Settled)). IsBacked p old.next (under_at old.waiting q)) (sym parts) (kept.backed q) in
      stood_keeps old calls kept (Stand t) t (λ _. None) (λ _. refl) (λ _. refl) (λ q part. nothing (same_tag q t)) new change.was change.now change.there change.row
      (stood_begun new.parts old.next change.was change.now change.change (subst (IsBacked new.parts old.next) change.there (backed t)))
      begins is order next same_parts backed
    where
      nothing : (b : Bool) → ◌≡◌ {A = Option Settled} None (cond b None None)
      nothing true = refl
      nothing false = refl

  module _ (part : PartKey) (to : ℕ) (mid : BTreeMap Tag Under) (begin : Changes (λ was now. now ≡ begun old.next was) t old.waiting mid) (put : Changes (Puts old.next part to) t mid new.waiting) where
    twice : (b : Bool) (x y z : Option Under) → cond b x (cond b y z) ≡ cond b x z
    twice true x y z = refl
    twice false x y z = refl

    put_row_of : (q : Tag) → under_at new.waiting q ≡ cond (same_tag q t) (Some put.now) (under_at old.waiting q)
    put_row_of q = put.row q ∙ ap (cond (same_tag q t) (Some put.now)) (begin.row q) ∙ twice (same_tag q t) (Some put.now) (Some begin.now) (under_at old.waiting q)

    one_row : put.was ≡ begin.now
    one_row =
        let here : Some put.was ≡ Some begin.now = sym put.there ∙ begin.row t ∙ ap (λ (b : Bool). cond b (Some begin.now) (under_at old.waiting t)) ((same_tag-Decides t t).1 refl) in
        cc here

    begins_below : (f : Option ℕ) → ((m : ℕ) → f ≡ Some m → m < old.next) → unwrap_or f old.next ≤ old.next
    begins_below None below = omega arith
    begins_below (Some m) below = let before = below m refl in omega (arith, before)

    first_below : unwrap_or begin.was.first old.next ≤ old.next
    first_below = begins_below begin.was.first (λ m e.
        let at : first_at t 0 calls ≡ Some m = sym (kept.first t) ∙ ap first_in begin.there ∙ e in
        let below : m < 0 + length calls = first_at-below t calls 0 m at in
        let is : old.next ≡ length calls = kept.next in
        omega (arith, below, is))

    abbrev puts : PartKey → Option Settled
    puts q = cond (same_part q part) (Some (value_at old.next (Some to))) None

    first_is : put.now.first ≡ Some (unwrap_or begin.was.first old.next)
    first_is = put.change.first ∙ ap (λ (u : Under). u.first) (one_row ∙ begin.change)

    row_is : (q : PartKey) → settled_at put.now.parts q ≡ cond (same_part q part) (Some (value_at old.next (Some to))) (settled_at begin.was.parts q)
    row_is q = put_row old.next part to put.was put.now put.change q ∙ ap (λ (u : Under). cond (same_part q part) (Some (value_at old.next (Some to))) (settled_at u.parts q)) (one_row ∙ begin.change)

    early : AreEarly begin.was.parts old.next
    early = let backed : IsBacked old.parts old.next (Some begin.was) = subst (IsBacked old.parts old.next) begin.there (kept.backed t) in backed.0

    backs : (q : PartKey) (s : Settled) → settled_at begin.was.parts q ≡ Some s → HasPart old.parts q
    backs = let backed : IsBacked old.parts old.next (Some begin.was) = subst (IsBacked old.parts old.next) begin.there (kept.backed t) in backed.1

    put_stood : HasPart old.parts part → Stood old.parts old.next puts begin.was put.now
    put_stood has = record {
      first = first_is;
      waits = λ q.
          ap (λ (f : Option ℕ). if_begun f (settled_at put.now.parts q)) first_is
          ∙ ap (if_from (unwrap_or begin.was.first old.next)) (row_is q)
          ∙ put_waits old.next part to put.was put.now put.change (same_part q part) (unwrap_or begin.was.first old.next) 0 (settled_at begin.was.parts q) first_below
          ∙ ap (option_or (puts q)) (begun_waits old.next begin.was early q);
      backed = (
        (λ q v e. put_early old.next part to put.was put.now put.change (same_part q part) (settled_at begin.was.parts q) v (sym (row_is q) ∙ e) (early q v)),
        (λ q s e. in_has old.next part to put.was put.now put.change old.parts has (same_part q part) q (settled_at begin.was.parts q) s refl (backs q s) (sym (row_is q) ∙ e)),
      );
    }

    both_chosen : (a b : Bool) (x : Settled) → cond (a && b) (Some x) None ≡ cond a (cond b (Some x) None) None
    both_chosen true b x = refl
    both_chosen false b x = refl

    pub put_keeps : (begins : Bool) → begins ≡ is_none (first_in (under_at old.waiting t))
        → ((m : ℕ) → stands_at new.order m ≡ cond (old.next == m) (cond begins (Some t) None) (stands_at old.order m)) → new.parts ≡ old.parts → HasPart old.parts part → Keeps new (calls ++ Put t part to ∷ [])
    put_keeps begins is order parts has =
        let same_parts : (q : PartKey) → settled_at new.parts q ≡ settled q 0 (calls ++ Put t part to ∷ []) =
        λ q. ap (λ (p : BTreeMap PartKey (Option Settled)). settled_at p q) parts ∙ kept.settled q ∙ sym (settled-push (Put t part to) (quiet_put t part to) q calls 0 ∙ ap (λ o. option_or o (settled q 0 calls)) (unsaid q (same_part q part))) in
        stood_keeps old calls kept (Put t part to) t puts (λ _. refl) (λ _. refl)
        (λ q p. both_chosen (same_tag q t) (same_part p part) (value_at (0 + length calls) (Some to)) ∙ ap (λ (m : ℕ). cond (same_tag q t) (cond (same_part p part) (Some (value_at m (Some to))) None) None) (let at : old.next ≡ length calls = kept.next in omega (arith, at)))
        new begin.was put.now begin.there put_row_of
        (subst (λ (p : BTreeMap PartKey (Option Settled)). Stood p old.next puts begin.was put.now) (sym parts) (put_stood has))
        begins is order next same_parts (λ q. subst (λ (p : BTreeMap PartKey (Option Settled)). IsBacked p old.next (under_at old.waiting q)) (sym parts) (kept.backed q))
      where
        unsaid : (q : PartKey) (b : Bool) → option_or None (option_map (value_at (0 + length calls)) (cond (b && false) (Some (Some to)) None)) ≡ None
        unsaid q true = refl
        unsaid q false = refl

  -- a marker
  abbrev Ends : Type 0
  Ends = (q : Tag) → under_at new.waiting q ≡ cond (same_tag q t) (option_map ended (under_at old.waiting q)) (under_at old.waiting q)

  abbrev Empties : Type 0
  Empties = (m : ℕ) → stands_at new.order m ≡ cond (old.next == m) None (cond (is_place (first_in (under_at old.waiting t)) m) None (stands_at old.order m))

  backed_more : (parts : BTreeMap PartKey (Option Settled)) → ((q : PartKey) → HasPart old.parts q → HasPart parts q) → (n : ℕ) (o : Option Under) → IsBacked old.parts n o → IsBacked parts n o
  backed_more parts more n None backed = tt
  backed_more parts more n (Some under) backed = (backed.0, (λ q s e. more q (backed.1 q s e)))

  pub abort_keeps : Ends → Empties → new.parts ≡ old.parts → Keeps new (calls ++ Abort t ∷ [])
  abort_keeps rows order parts =
      marked_keeps old calls kept (Abort t) t false (λ _. refl) (λ _. refl) (λ _ _ _. refl) new rows order next
      (λ q. ap (λ (p : BTreeMap PartKey (Option Settled)). settled_at p q) parts ∙ kept.settled q ∙ sym (settled-push (Abort t) (quiet_aborted t) q calls 0))
      (λ q. subst (λ (p : BTreeMap PartKey (Option Settled)). IsBacked p old.next (under_at old.waiting q)) (sym parts) (kept.backed q))

  pub commit_keeps : Ends → Empties → ((q : PartKey) → settled_at new.parts q ≡ later (settled_at old.parts q) (put_in (under_at old.waiting t) q)) → ((q : PartKey) → HasPart old.parts q → HasPart new.parts q)
      → Keeps new (calls ++ Commit t ∷ [])
  commit_keeps rows order settles more =
      marked_keeps old calls kept (Commit t) t true (λ _. refl) (λ _. refl) (λ _ _ _. refl) new rows order next
      (λ q. settles q ∙ ap (λ o. later o (put_in (under_at old.waiting t) q)) (kept.settled q) ∙ ap (later (settled q 0 calls)) (kept.waits t q) ∙ sym (settled-commit q t calls 0))
      (λ q. backed_more new.parts more old.next (under_at old.waiting q) (kept.backed q))

module _ (old new : Tables) (calls : List OffsetCall) (kept : Keeps old calls) (part : PartKey) (to : Option ℕ) (next : new.next ≡ old.next + 1) (waiting : new.waiting ≡ old.waiting)
    (order : (m : ℕ) → stands_at new.order m ≡ cond (old.next == m) None (stands_at old.order m))
    (set : (q : PartKey) → get part_order new.parts q ≡ cond (is_at (part_order part) q) (Some (Some (value_at old.next to))) (get part_order old.parts q))
    (more : (q : PartKey) → HasPart old.parts q → HasPart new.parts q) where
  set_settled : (q : PartKey) → settled_at new.parts q ≡ settled q 0 (calls ++ Set part to ∷ [])
  set_settled q =
      value-set (get part_order) (λ (a b : PartKey). is_at (part_order a) b) same_part part_at same_part-flip same_part-Decides None old.parts new.parts part (Some (value_at old.next to)) set q
      ∙ ap (λ o. cond (same_part q part) (Some (value_at old.next to)) o) (kept.settled q)
      ∙ ap (λ (m : ℕ). cond (same_part q part) (Some (value_at m to)) (settled q 0 calls)) (let at : old.next ≡ length calls = kept.next in omega (arith, at))
      ∙ said (same_part q part)
      ∙ sym (settled-push (Set part to) (quiet_set part to) q calls 0)
    where
      said : (b : Bool) → cond b (Some (value_at (0 + length calls) to)) (settled q 0 calls) ≡ option_or (option_or None (option_map (value_at (0 + length calls)) (cond b (Some to) None))) (settled q 0 calls)
      said true = refl
      said false = refl

  first_same : (q : Tag) → first_at q 0 (calls ++ Set part to ∷ []) ≡ first_at q 0 calls
  first_same q = first_at-push q (Set part to) refl calls 0 ∙ option_or-none (first_at q 0 calls)

  none_at : (b : Bool) (o : Option Tag) (q : Tag) → cond b None o ≡ Some q → o ≡ Some q
  none_at true o q e = absurd (cc e)
  none_at false o q e = e

  backed_set : (n : ℕ) (o : Option Under) → IsBacked old.parts n o → IsBacked new.parts (n + 1) o
  backed_set n None backed = tt
  backed_set n (Some under) backed = ((λ q v e. let early = backed.0 q v e in omega (arith, early)), (λ q s e. more q (backed.1 q s e)))

  pub set_keeps : Keeps new (calls ++ Set part to ∷ [])
  set_keeps = record {
    next = next ∙ pushed_next old calls kept (Set part to);
    settled = set_settled;
    first = λ q. ap (λ (w : BTreeMap Tag Under). first_in (under_at w q)) waiting ∙ kept.first q ∙ sym (first_same q);
    waits = λ q p. ap (λ (w : BTreeMap Tag Under). put_in (under_at w q) p) waiting ∙ kept.waits q p ∙ sym (waits_at-push q (Set part to) refl p calls 0);
    backed = λ q. subst (λ (k : ℕ). IsBacked new.parts k (under_at new.waiting q)) (sym next)
        (subst (λ (w : BTreeMap Tag Under). IsBacked new.parts (old.next + 1) (under_at w q)) (sym waiting) (backed_set old.next (under_at old.waiting q) (kept.backed q)));
    stands = λ m q e. first_same q ∙ kept.stands m q (none_at (old.next == m) (stands_at old.order m) q (sym (order m) ∙ e));
    placed = λ m q e.
        let was : first_at q 0 calls ≡ Some m = sym (first_same q) ∙ e in
        order m ∙ ap (λ (b : Bool). cond b None (stands_at old.order m)) (other_place old calls kept q m was) ∙ kept.placed m q was;
  }
