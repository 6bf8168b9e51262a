-- Connections over links, one more and two lists of them together; and the receipts that they left, in whatever order.
use Rattle.std.proofs.Common.{◌≡◌, ℕ, suc, List, [], ◌∷◌, ◌++◌, map, Option, Result, Ok, Err, IfOk, length, refl, sym, ap, ◌∙◌, append_assoc, subst, arith}
use Rattle.std.specs.List.{AllPairs, flat_map}
use Rattle.std.proofs.lemmas.List.Elements.{All-map}
use Rattle.std.proofs.lemmas.List.Kept.{AllPairs-cons}
use Rattle.std.specs.List.Sorted.{IsPermutation}
use Rattle.std.proofs.lemmas.Grind.{flat_map-append}
use Rattle.std.proofs.lemmas.List.{append-nil, flat_map_more, map-append}
use Rattle.std.proofs.lemmas.List.Sorted.{IsPermutation-append_comm, IsPermutation-append_right, IsPermutation-map, IsPermutation-refl, IsPermutation-trans}
use Rattle.cw_conn.specs.Exchanges.{entries_of}
use Rattle.cw_conn.specs.Talked.{moment, Talked}
use Rattle.cw_conn.specs.declared.ends.ConnEnd.{ConnEnd}
use Rattle.cw_io.specs.declared.link.Link as link
use Rattle.cw_line.specs.declared.rule.Ticket.{Ticket}
use Rattle.cw_line.specs.Numbers.{IsEachOnce}
use Rattle.cw_model.specs.declared.journal.JournalEntry.{JournalEntry}
use Rattle.cw_net.specs.declared.listener.Listener as listener
use Rattle.cw_world.specs.Receipts.{ReceiptState}
use Rattle.cw_serve.specs.Following.{GoesOnFrom}
use Rattle.cw_serve.specs.Talking.{AreTalks, HaveTalked, IsTalk, Serves, Talk, entries_in}
use Rattle.cw_laws.proofs.Lists.{each-append}

-- ---- pairs

-- what is so of each pair of a list is so of its end
pairs_back : {X : Type 0} (R : X → X → Type 0) (xs ys : List X) → AllPairs R (xs ++ ys) → AllPairs R ys
pairs_back R [] ys pairs = pairs
pairs_back R (x ∷ xs) ys pairs = pairs_back R xs ys (λ i j d lt within. pairs (suc i) (suc j) d (omega arith) (omega arith))

-- and of what its members show
pub pairs_shown : {X Y : Type 0} (f : X → Y) (R : Y → Y → Type 0) (xs : List X) → AllPairs (λ x y. R (f x) (f y)) xs → AllPairs R (map f xs)
pairs_shown f R [] pairs = λ i j d lt within. absurd (omega arith)
pairs_shown f R (x ∷ xs) pairs =
    AllPairs-cons R (f x) (map f xs) (All-map (R (f x)) f xs (λ k d within. pairs 0 (suc k) d (omega arith) (omega arith)))
    (pairs_shown f R xs (λ i j d lt within. pairs (suc i) (suc j) d (omega arith) (omega arith)))

-- ---- one connection

-- what a desk answered behind other entries, it answered
pub served : {L : Type 0} (I : link.Ghosts L) (ticket : Ticket L) (end : ConnEnd) (left_now held_now : Option (List ℕ)) (before behind : List JournalEntry)
    → Talked 0 end (moment (I.left ticket.link) (I.held ticket.link) before) (moment left_now held_now behind) → AllPairs GoesOnFrom behind → Serves I ticket before behind
served I ticket end left_now held_now before behind talked follow = record {
  talk = record { ticket = ticket; end = end; behind = moment left_now held_now (entries_of talked.exchanges) };
  is = record {
    talked = record {
      exchanges = talked.exchanges;
      unanswered = talked.unanswered;
      read = talked.read;
      calls = talked.calls;
      grew = refl;
      ends = talked.ends;
    };
    follow = pairs_back GoesOnFrom before (entries_of talked.exchanges) (subst (AllPairs GoesOnFrom) talked.grew follow);
  };
  ticket_is = refl;
  grew = talked.grew;
}

-- ---- several

module _ {L : Type 0} (I : link.Ghosts L) where
  -- over no link
  pub no_talks : AreTalks I [] []
  no_talks = record { talks = []; each = tt; tickets_are = refl; entries_are = refl }

  pub both_talk : (tickets others : List (Ticket L)) (entries more : List JournalEntry) → AreTalks I tickets entries → AreTalks I others more → AreTalks I (tickets ++ others) (entries ++ more)
  both_talk tickets others entries more first then = record {
    talks = first.talks ++ then.talks;
    each = each-append (IsTalk I) first.talks then.talks first.each then.each;
    tickets_are = map-append (λ (t : Talk L). t.ticket) first.talks then.talks ∙ (λ i. first.tickets_are i ++ then.tickets_are i);
    entries_are = flat_map-append (λ (t : Talk L). t.behind.entries) first.talks then.talks ∙ (λ i. first.entries_are i ++ then.entries_are i);
  }

  -- one more, whose entries come behind those before and others
  pub one_more : (tickets now : List (Ticket L)) (ticket : Ticket L) (others before behind : List JournalEntry) → now ≡ tickets ++ ticket ∷ [] → AreTalks I tickets (others ++ before) → Serves I ticket before behind
      → AreTalks I now (others ++ behind)
  one_more tickets now ticket others before behind taken talks serves =
      let entries = serves.talk.behind.entries in
      let one : AreTalks I (ticket ∷ []) entries = record { talks = serves.talk ∷ []; each = (serves.is, tt); tickets_are = ap (λ t. t ∷ []) serves.ticket_is; entries_are = append-nil entries } in
      let grew = append_assoc others before entries ∙ ap (λ es. others ++ es) (sym serves.grew) in
      subst (λ (x : List (Ticket L) × List JournalEntry). AreTalks I x.0 x.1) (λ i. (sym taken i, grew i)) (both_talk tickets (ticket ∷ []) (others ++ before) entries talks one)

  -- receipts of no call add nothing
  pub beside_none : (tickets : List (Ticket L)) (entries : List JournalEntry) (receipts : List ReceiptState) → receipts ≡ [] → AreTalks I tickets entries → AreTalks I tickets (entries ++ entries_in receipts)
  beside_none tickets entries receipts none talks = subst (AreTalks I tickets) (sym (append-nil entries) ∙ ap (λ l. entries ++ entries_in l) (sym none)) talks

-- ---- what was kept in several lists

empty : {X : Type 0} (xs : List X) → length xs ≡ 0 → xs ≡ []
empty [] none = refl
empty (x ∷ xs) none = absurd (omega (arith, none))

module _ {X : Type 0} (f : X → List ReceiptState) where
  -- what one more list keeps comes behind
  kept_behind : (xs : List X) (x : X) → flat_map f (xs ++ x ∷ []) ≡ flat_map f xs ++ f x
  kept_behind xs x = sym (flat_map_more f [] xs x)

  module _ {L : Type 0} (I : link.Ghosts L) where
    -- before any link was taken and anything kept
    pub no_talks_yet : (tickets : List (Ticket L)) (xs : List X) → tickets ≡ [] → length xs ≡ 0 → AreTalks I tickets (entries_in (flat_map f xs))
    no_talks_yet tickets xs none nothing =
        subst (λ (x : List (Ticket L) × List X). AreTalks I x.0 (entries_in (flat_map f x.1))) (λ i. (sym none i, sym (empty xs nothing) i)) (no_talks I)

    -- the last list's entries are those of its receipts
    pub kept_last : (tickets : List (Ticket L)) (xs ys : List X) (x : X) → ys ≡ xs ++ x ∷ [] → AreTalks I tickets (entries_in (flat_map f xs) ++ entries_in (f x)) → AreTalks I tickets (entries_in (flat_map f ys))
    kept_last tickets xs ys x is talks =
        let all = ap (flat_map f) is ∙ kept_behind xs x in
        subst (AreTalks I tickets) (sym (ap entries_in all ∙ map-append (λ (r : ReceiptState). r.entry) (flat_map f xs) (f x))) talks

    -- a handler's connections come behind those that are known
    pub absorbed : (tickets others now : List (Ticket L)) (xs ys : List X) (x : X) → now ≡ tickets ++ others → ys ≡ xs ++ x ∷ [] → AreTalks I tickets (entries_in (flat_map f xs)) → AreTalks I others (entries_in (f x))
        → AreTalks I now (entries_in (flat_map f ys))
    absorbed tickets others now xs ys x taken is talks more =
        kept_last now xs ys x is (subst (λ l. AreTalks I l (entries_in (flat_map f xs) ++ entries_in (f x))) (sym taken) (both_talk I tickets others (entries_in (flat_map f xs)) (entries_in (f x)) talks more))

  -- the last list is put behind what is gathered
  pub gathered : (all room now : List ReceiptState) (xs rest : List X) (x : X) → now ≡ room ++ f x → xs ≡ rest ++ x ∷ [] → IsPermutation all (room ++ flat_map f xs)
      → IsPermutation all (now ++ flat_map f rest)
  gathered all room now xs rest x behind is same =
      let last = ap (flat_map f) is ∙ kept_behind rest x in
      let turned = IsPermutation-append_right room (flat_map f rest ++ f x) (f x ++ flat_map f rest) (IsPermutation-append_comm (flat_map f rest) (f x)) in
      subst (IsPermutation all) (sym (ap (λ l. l ++ flat_map f rest) behind ∙ append_assoc room (f x) (flat_map f rest)))
      (IsPermutation-trans all (room ++ (flat_map f rest ++ f x)) (room ++ (f x ++ flat_map f rest)) (subst (λ (l : List ReceiptState). IsPermutation all (room ++ l)) last same) turned)

  -- before the first list nothing is gathered
  pub none_gathered : (room : List ReceiptState) (xs : List X) → length room ≡ 0 → IsPermutation (flat_map f xs) (room ++ flat_map f xs)
  none_gathered room xs none = subst (λ (l : List ReceiptState). IsPermutation (flat_map f xs) (l ++ flat_map f xs)) (sym (empty room none)) (IsPermutation-refl (flat_map f xs))

  -- and behind the last, in whatever order they are told
  pub all_gathered : {V E : Type 0} (items : V → List ReceiptState) (all room : List ReceiptState) (xs : List X) (told : Result V E) → length xs ≡ 0 → IsPermutation all (room ++ flat_map f xs)
      → IfOk told (λ v. IsPermutation room (items v)) → IfOk told (λ v. IsPermutation all (items v))
  all_gathered items all room xs (Ok v) none same ordered =
      IsPermutation-trans all room (items v) (subst (IsPermutation all) (ap (λ l. room ++ flat_map f l) (empty xs none) ∙ append-nil room) same) ordered
  all_gathered items all room xs (Err e) none same ordered = tt

-- ---- all that were accepted

pub have_talked : {N L : Type 0} (K : listener.Ghosts N L) (I : link.Ghosts L) (agreed : Type 0) (old at new : N) (pushed : List L) (tickets : List (Ticket L)) (kept receipts : List ReceiptState) → K.given at ≡ K.given old ++ pushed → new ≡ at
    → IsEachOnce pushed tickets → AreTalks I tickets (entries_in kept) → (agreed → IsPermutation kept receipts) → HaveTalked K I agreed old new receipts
have_talked K I agreed old at new pushed tickets kept receipts given same once talks gathers = record {
  links = pushed;
  tickets = tickets;
  entries = entries_in kept;
  given = ap K.given same ∙ given;
  once = once;
  talks = talks;
  answered = λ is. IsPermutation-map (λ (r : ReceiptState). r.entry) kept receipts (gathers is);
}
