-- What the hands of all passes have together, and links with their numbers.
use Rattle.std.proofs.Common.{◌≡◌, ℕ, zero, suc, ◌+◌, ◌≤◌, ◌≢◌, List, [], ◌∷◌, ◌++◌, length, map, set, All, true, sym, refl, ap, ◌∙◌, subst, append_assoc, arith}
use Rattle.std.specs.List.Sorted.{IsPermutation}
use Rattle.std.proofs.lemmas.List.{append-nil, length-append, map-append}
use Rattle.std.proofs.lemmas.List.Elements.{All-nil, All-cons, All-head, All-tail}
use Rattle.std.proofs.lemmas.List.Sorted.{All-permutation, IsPermutation-append_comm, IsPermutation-append_right, IsPermutation-sym, IsPermutation-to_front, IsPermutation-trans}
use mathlib.Core.Option.{some, some-injective, some-ne-none}
use lib.ListN.{get_elem?}
use Rattle.cw_line.specs.declared.rule.Hand.{Hand}
use Rattle.cw_line.specs.declared.rule.Ticket.{Ticket}
use Rattle.cw_line.specs.Numbers.{numbered, numbered_from, IsEachOnce, IsNumbered}
use Rattle.cw_line.specs.Hands.{all_parts, all_taken, hand, Accounts}
use Rattle.cw_line.specs.Sides.{accepting_of, acceptors_hand}

-- changes at two places, in whatever order
pub set_apart : {X : Type 0} (xs : List X) (i j : ℕ) (x y : X) → i ≢ j → set (set xs i x) j y ≡ set (set xs j y) i x
set_apart [] i j x y apart = refl
set_apart (a ∷ xs) zero zero x y apart = absurd (apart refl)
set_apart (a ∷ xs) zero (suc j) x y apart = refl
set_apart (a ∷ xs) (suc i) zero x y apart = refl
set_apart (a ∷ xs) (suc i) (suc j) x y apart = ap (λ l. a ∷ l) (set_apart xs i j x y (λ same. apart (ap suc same)))

module _ {L : Type 0} where
  -- ---- parts

  -- the sum after a change of one pass
  pub parts_set : (views : List (Hand L)) (port : ℕ) (v w : Hand L) → get_elem? views port ≡ some v → all_parts (set views port w) + v.parts ≡ all_parts views + w.parts
  parts_set [] port v w at = absurd (some-ne-none v (sym at))
  parts_set (x ∷ xs) zero v w at = let is = ap (λ (u : Hand L). u.parts) (some-injective x v at) in omega arith
  parts_set (x ∷ xs) (suc port) v w at = let r = parts_set xs port v w at in omega arith

  pub parts_snoc : (views : List (Hand L)) (w : Hand L) → all_parts (views ++ w ∷ []) ≡ all_parts views + w.parts
  parts_snoc [] w = omega arith
  parts_snoc (x ∷ xs) w = let r = parts_snoc xs w in omega arith

  -- no pass has more than all
  parts_has : (views : List (Hand L)) (port : ℕ) (v : Hand L) → get_elem? views port ≡ some v → v.parts ≤ all_parts views
  parts_has [] port v at = absurd (some-ne-none v (sym at))
  parts_has (x ∷ xs) zero v at = let is = ap (λ (u : Hand L). u.parts) (some-injective x v at) in omega arith
  parts_has (x ∷ xs) (suc port) v at = let r = parts_has xs port v at in omega arith

  -- ---- what was taken

  -- each hand with no part took nothing
  abbrev Idle : List (Hand L) → Type 0
  Idle views = (port : ℕ) (v : Hand L) → get_elem? views port ≡ some v → v.parts ≡ 0 → v.taken ≡ []

  taken_none : (views : List (Hand L)) → Idle views → all_parts views ≡ 0 → all_taken views ≡ []
  taken_none [] idle none = refl
  taken_none (x ∷ xs) idle none =
      ap (λ l. l ++ all_taken xs) (idle zero x refl (omega (arith, none))) ∙ taken_none xs (λ p v at. idle (suc p) v at) (omega (arith, none))

  -- where one pass has every part, it took all
  pub taken_whole : (views : List (Hand L)) (port : ℕ) (v : Hand L) → get_elem? views port ≡ some v → Idle views → all_parts views ≡ v.parts → all_taken views ≡ v.taken
  taken_whole [] port v at idle whole = absurd (some-ne-none v (sym at))
  taken_whole (x ∷ xs) zero v at idle whole =
      let is = some-injective x v at in
      let same = ap (λ (u : Hand L). u.parts) is in
      ap (λ l. x.taken ++ l) (taken_none xs (λ p u e. idle (suc p) u e) (omega (arith, whole, same))) ∙ append-nil x.taken ∙ ap (λ (u : Hand L). u.taken) is
  taken_whole (x ∷ xs) (suc port) v at idle whole =
      let has = parts_has xs port v at in
      ap (λ l. l ++ all_taken xs) (idle zero x refl (omega (arith, whole, has))) ∙ taken_whole xs port v at (λ p u e. idle (suc p) u e) (omega (arith, whole, has))

  -- one pass took more
  pub taken_more : (views : List (Hand L)) (port : ℕ) (v w : Hand L) (more : List (Ticket L)) → get_elem? views port ≡ some v → w.taken ≡ v.taken ++ more → IsPermutation (all_taken (set views port w)) (all_taken views ++ more)
  taken_more [] port v w more at is = absurd (some-ne-none v (sym at))
  taken_more (x ∷ xs) zero v w more at is =
      let rest = all_taken xs in
      let here : w.taken ++ rest ≡ x.taken ++ (more ++ rest) =
      ap (λ l. l ++ rest) (is ∙ ap (λ (u : Hand L). u.taken ++ more) (sym (some-injective x v at))) ∙ append_assoc x.taken more rest in
      subst (λ (p : List (Ticket L) × List (Ticket L)). IsPermutation p.0 p.1) (λ i. (sym here i, sym (append_assoc x.taken rest more) i))
      (IsPermutation-append_right x.taken (more ++ rest) (rest ++ more) (IsPermutation-append_comm more rest))
  taken_more (x ∷ xs) (suc port) v w more at is =
      subst (IsPermutation (x.taken ++ all_taken (set xs port w))) (sym (append_assoc x.taken (all_taken xs) more))
      (IsPermutation-append_right x.taken (all_taken (set xs port w)) (all_taken xs ++ more) (taken_more xs port v w more at is))

  -- one pass gave away what it took
  pub taken_less : (views : List (Hand L)) (port : ℕ) (v gone : Hand L) → get_elem? views port ≡ some v → gone.taken ≡ [] → IsPermutation (all_taken views) (all_taken (set views port gone) ++ v.taken)
  taken_less [] port v gone at none = absurd (some-ne-none v (sym at))
  taken_less (x ∷ xs) zero v gone at none =
      let rest = all_taken xs in
      subst (IsPermutation (x.taken ++ rest)) (λ i. (sym none i ++ rest) ++ (some-injective x v at i).taken) (IsPermutation-append_comm x.taken rest)
  taken_less (x ∷ xs) (suc port) v gone at none =
      subst (IsPermutation (x.taken ++ all_taken xs)) (sym (append_assoc x.taken (all_taken (set xs port gone)) v.taken))
      (IsPermutation-append_right x.taken (all_taken xs) (all_taken (set xs port gone) ++ v.taken) (taken_less xs port v gone at none))

  -- a pass that took nothing joins them
  pub taken_snoc : (views : List (Hand L)) (w : Hand L) → w.taken ≡ [] → all_taken (views ++ w ∷ []) ≡ all_taken views
  taken_snoc [] w none = ap (λ l. l ++ []) none
  taken_snoc (x ∷ xs) w none = ap (λ l. x.taken ++ l) (taken_snoc xs w none)

  -- ---- numbers

  -- one link more has the next number
  pub numbered_snoc : (n : ℕ) (links : List L) (ticket : Ticket L) → ticket.number ≡ n + length links → numbered_from n (links ++ ticket.link ∷ []) ≡ numbered_from n links ++ ticket ∷ []
  numbered_snoc n [] ticket is = let same : n ≡ ticket.number = omega (arith, is) in λ i. (record { number = same i; link = ticket.link }) ∷ []
  numbered_snoc n (x ∷ xs) ticket is = ap (λ l. (record { number = n; link = x }) ∷ l) (numbered_snoc (suc n) xs ticket (omega (arith, is)))

  pub links_numbered : (n : ℕ) (links : List L) → map (λ (ticket : Ticket L). ticket.link) (numbered_from n links) ≡ links
  links_numbered n [] = refl
  links_numbered n (x ∷ xs) = ap (λ l. x ∷ l) (links_numbered (suc n) xs)

  -- behind the front
  at_front : (front : List L) (x : L) (xs : List L) → get_elem? (front ++ x ∷ xs) (length front) ≡ some x
  at_front [] x xs = refl
  at_front (a ∷ front) x xs = at_front front x xs

  -- each stands at its number
  numbered_behind : (front links : List L) (n : ℕ) → n ≡ length front → All (IsNumbered (front ++ links)) (numbered_from n links)
  numbered_behind front [] n is = All-nil (IsNumbered (front ++ []))
  numbered_behind front (x ∷ xs) n is =
      let same = append_assoc front (x ∷ []) xs in
      let next : suc n ≡ length (front ++ x ∷ []) = omega (arith, is, length-append front (x ∷ [])) in
      All-cons (IsNumbered (front ++ x ∷ xs)) (record { number = n; link = x }) (numbered_from (suc n) xs)
      (ap (get_elem? (front ++ x ∷ xs)) is ∙ at_front front x xs)
      (subst (λ l. All (IsNumbered l) (numbered_from (suc n) xs)) same (numbered_behind (front ++ x ∷ []) xs (suc n) next))

  all_front : (P : Ticket L → Type 0) (xs ys : List (Ticket L)) → All P (xs ++ ys) → All P xs
  all_front P [] ys all = All-nil P
  all_front P (x ∷ xs) ys all = All-cons P x xs (All-head P x (xs ++ ys) all) (all_front P xs ys (All-tail P x (xs ++ ys) all))

  -- where none is left, each was taken once
  pub settles : (pushed : List L) (put taken left : List (Ticket L)) → put ≡ numbered pushed → left ≡ [] → Accounts put taken left → IsEachOnce pushed taken
  settles pushed put taken left put_is none accounts =
      subst (IsPermutation taken) (sym (append-nil accounts.got) ∙ ap (λ l. accounts.got ++ l) (sym none) ∙ sym accounts.in_order ∙ put_is) accounts.same

  -- one that was taken had been pushed
  pub comes : (pushed : List L) (ticket : Ticket L) (put taken left : List (Ticket L)) → put ≡ numbered pushed → Accounts put (taken ++ ticket ∷ []) left → IsNumbered pushed ticket
  comes pushed ticket put taken left put_is accounts =
      let P : Ticket L → Type 0 = IsNumbered pushed in
      let all = subst (All P) (sym put_is ∙ accounts.in_order) (numbered_behind [] pushed 0 refl) in
      let got = all_front P accounts.got left all in
      let front = IsPermutation-trans accounts.got (taken ++ ticket ∷ []) (ticket ∷ taken) (IsPermutation-sym (taken ++ ticket ∷ []) accounts.got accounts.same) (IsPermutation-to_front taken ticket) in
      All-head P ticket taken (All-permutation P accounts.got (ticket ∷ taken) front got)

  -- the hand of the side that accepts stays one behind a push
  pub pushed_hand : (v : Hand L) (ticket : Ticket L) → v ≡ acceptors_hand (accepting_of v) → ticket.number ≡ length (map (λ (t : Ticket L). t.link) v.put)
      → hand v.parts true (v.put ++ ticket ∷ []) v.taken ≡ acceptors_hand (accepting_of (hand v.parts true (v.put ++ ticket ∷ []) v.taken))
  pushed_hand v ticket is number =
      let links = map (λ (t : Ticket L). t.link) v.put in
      let more = map-append (λ (t : Ticket L). t.link) v.put (ticket ∷ []) in
      let put : v.put ++ ticket ∷ [] ≡ numbered (map (λ (t : Ticket L). t.link) (v.put ++ ticket ∷ [])) =
      ap (λ (w : Hand L). w.put ++ ticket ∷ []) is ∙ sym (numbered_snoc 0 links ticket (omega (arith, number))) ∙ ap numbered (sym more) in
      λ i. hand v.parts true (put i) v.taken

pub tickets-none : {L : Type 0} (tickets : List (Ticket L)) → length tickets ≡ 0 → tickets ≡ []
tickets-none [] none = refl
tickets-none (x ∷ xs) none = absurd (omega arith)
