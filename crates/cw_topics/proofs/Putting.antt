-- Entries of the transaction list are put in one by one.
use Rattle.std.proofs.Common.{◌≡◌, ℕ, ◌+◌, ◌<◌, inl, inr, Bool, Some, true, false, List, [], ◌∷◌, ◌++◌, Contains, length, map, take, drop, zero, suc, refl, sym, ◌∙◌, ap, subst, arith, cond, append-nil, append_assoc, get_or}
use Rattle.std.specs.List.{IsDistinct, AllByRecursion}
use Rattle.std.proofs.lemmas.List.Elements.{All-from_recursion}
use Rattle.std.proofs.lemmas.Map.Keys.{IsDistinct-head, IsDistinct-tail}
use Rattle.cw_types.specs.declared.ids.Epoch.{Epoch}
use Rattle.cw_types.specs.declared.ids.PartKey.{PartKey}
use Rattle.cw_types.specs.declared.ids.Span.{Span}
use Rattle.cw_types.specs.declared.ids.Tag.{Tag}
use Rattle.cw_types.specs.declared.ids.Tid.{Tid}
use Rattle.cw_types.specs.Same.{same_part, same_tid}
use Rattle.cw_types.proofs.SameLemmas.{same_part-Decides, same_part-flip, same_tid-Decides}
use Rattle.cw_txn.specs.Allowed.{IsAllowedCommit}
use Rattle.cw_txn.specs.declared.entry.Entry.{Entry}
use Rattle.cw_txn.specs.declared.entry.Entry.TheVariants.{Bump}
use Rattle.cw_txn.specs.declared.history.History.{History}
use Rattle.cw_txn.specs.History.{history, after_span, GoesOn, SpansChain}
use Rattle.cw_txn.specs.Legal.{EachFrom, epoch_of}
use Rattle.cw_txn.specs.Transactions.{Transactions, Appends, AreNext, UsesUp}
use Rattle.cw_txn.proofs.Walks.{epoch_of-push}
use Rattle.cw_topics.specs.Entries.{IsReadied, with_readied}

-- so many entries of a frame are put in behind others, and memory is taken for the rest
pub record IsPut (before frame : List Entry) (k : ℕ) (now : Transactions) : Type 0 where
  pub entries : now.entries ≡ before ++ take k frame
  pub reserved : now.reserved ≡ drop k frame

-- ---- facts of each entry

-- behind the first ones the others have the fact
pub each-behind : (P : List Entry → Entry → Type 0) (before xs ys : List Entry) → EachFrom P before (xs ++ ys) → EachFrom P (before ++ xs) ys
each-behind P before [] ys each = subst (λ (l : List Entry). EachFrom P l ys) (sym (append-nil before)) each
each-behind P before (x ∷ xs) ys each =
    subst (λ (l : List Entry). EachFrom P l ys) (append_assoc before (x ∷ []) xs) (each-behind P (before ++ x ∷ []) xs ys each.1)

-- the entry of a place has it behind those before it
pub each-at : (P : List Entry → Entry → Type 0) (before xs : List Entry) (k : ℕ) (d : Entry) → EachFrom P before xs → k < length xs →
    P (before ++ take k xs) (get_or xs k d)
each-at P before [] k d each within = absurd (omega (arith, within))
each-at P before (x ∷ xs) zero d each within = subst (λ (l : List Entry). P l x) (sym (append-nil before)) each.0
each-at P before (x ∷ xs) (suc k) d each within =
    subst (λ (l : List Entry). P l (get_or xs k d)) (append_assoc before (x ∷ []) (take k xs))
    (each-at P (before ++ x ∷ []) xs k d each.1 (omega (arith, within)))

-- ---- memory that is used up in turn

pub uses-first : (entry : Entry) (old new : List Entry) → old ≡ entry ∷ drop 1 old → UsesUp entry old new → new ≡ drop 1 old
uses-first entry [] new ready uses = absurd (cc)
uses-first entry (x ∷ xs) new ready (inr none) = absurd (none.0 (0, omega arith, ap (λ (l : List Entry). get_or l 0 x) ready))
uses-first entry (x ∷ xs) new ready (inl used) = behind used.front used.back used.split used.first used.rest
  where
    behind : (front back : List Entry) → x ∷ xs ≡ front ++ entry ∷ back → (¬ Contains front entry) → new ≡ front ++ back → new ≡ xs
    behind [] back split first rest = rest ∙ sym (ap (λ (l : List Entry). drop 1 l) split)
    behind (y ∷ ys) back split first rest =
        absurd (first (0, omega arith, sym (ap (λ (l : List Entry). get_or l 0 x) split) ∙ ap (λ (l : List Entry). get_or l 0 x) ready))

-- ---- spans that may be committed

goes-on : (before : PartKey → History) (spans : List Span) → IsDistinct same_part (map (λ (s : Span). s.part) spans) →
    ((part : PartKey) → SpansChain part (before part) spans) → AllByRecursion (λ (s : Span). GoesOn (before s.part) s) spans
goes-on before [] distinct chain = tt
goes-on before (span ∷ spans) distinct chain = (
  (chain span.part).0 ((same_part-Decides span.part span.part).1 refl),
  others spans (IsDistinct-head same_part span.part (map (λ (s : Span). s.part) spans) distinct)
      (goes-on (λ part. after_span part (before part) span) spans (IsDistinct-tail same_part span.part (map (λ (s : Span). s.part) spans) distinct) (λ part. (chain part).1)),
)
  where
    apart : (s : Span) → same_part span.part s.part ≡ false → GoesOn (after_span s.part (before s.part) span) s → GoesOn (before s.part) s
    apart s other goes = subst (λ (h : History). GoesOn h s)
        (ap (λ (b : Bool). cond b (record { base = (before s.part).base; end = Some span.to }) (before s.part)) (same_part-flip s.part span.part ∙ other)) goes

    others : (list : List Span) → AllByRecursion (λ q. same_part span.part q ≡ false) (map (λ (s : Span). s.part) list) →
        AllByRecursion (λ (s : Span). GoesOn (after_span s.part (before s.part) span) s) list → AllByRecursion (λ (s : Span). GoesOn (before s.part) s) list
    others [] other each = tt
    others (s ∷ list) other each = (apart s other.0 each.0, others list other.1 each.1)

-- a commit that is allowed, and whose spans chain, is of spans that are next
pub next-spans : (entries : List Entry) (tag : Tag) (generation : ℕ) (spans : List Span) → IsAllowedCommit entries tag generation spans →
    ((part : PartKey) → SpansChain part (history part entries) spans) → AreNext entries spans
next-spans entries tag generation spans allowed chain = record {
  some = allowed.some;
  few = allowed.few;
  distinct = allowed.distinct;
  go_on = All-from_recursion (λ (s : Span). GoesOn (history s.part entries) s) spans (goes-on (λ part. history part entries) spans allowed.distinct chain);
}

-- ---- a bump

bumped-epoch : (tid : Tid) (entries : List Entry) → epoch_of tid (entries ++ Bump tid ∷ []) ≡ epoch_of tid entries + 1
bumped-epoch tid entries =
    let same : same_tid tid tid ≡ true = (same_tid-Decides tid tid).1 refl in
    let push : epoch_of tid (entries ++ Bump tid ∷ []) ≡ epoch_of tid entries + cond (same_tid tid tid) 1 0 = epoch_of-push tid entries (Bump tid) in
    rw same at push

-- ---- one entry

abbrev made : List Entry → List Entry → Transactions
made entries reserved = record { entries = entries; reserved = reserved }

pub readied-there : (entry : Entry) (t : Transactions) → IsReadied entry t → Contains t.reserved entry
readied-there entry t ready = subst (λ (l : List Entry). Contains l entry) (sym ready) (0, omega arith, refl)

-- what was appended from the memory that was taken for it first is put in
pub readied-put : (entry : Entry) (old new : Transactions) → IsReadied entry old → Appends entry old new → new ≡ with_readied entry old
readied-put entry old new ready put =
    ap (λ (l : List Entry). made l new.reserved) put.entries ∙
    ap (λ (l : List Entry). made (old.entries ++ entry ∷ []) l) (uses-first entry old.reserved new.reserved ready put.reserved)

-- ---- one entry after the other

take-next : {A : Type 0} (xs : List A) (k : ℕ) (d : A) → k < length xs → take (k + 1) xs ≡ take k xs ++ get_or xs k d ∷ []
take-next [] k d within = absurd (omega (arith, within))
take-next (x ∷ xs) zero d within = refl
take-next {A} (x ∷ xs) (suc k) d within =
    let next : suc k + 1 ≡ suc (k + 1) = omega arith in
    ap (λ (n : ℕ). take n (x ∷ xs)) next ∙ ap (λ (l : List A). x ∷ l) (take-next xs k d (omega (arith, within)))

pub drop-next : {A : Type 0} (xs : List A) (k : ℕ) (d : A) → k < length xs → drop k xs ≡ get_or xs k d ∷ drop (k + 1) xs
drop-next [] k d within = absurd (omega (arith, within))
drop-next (x ∷ xs) zero d within = refl
drop-next (x ∷ xs) (suc k) d within =
    let next : suc k + 1 ≡ suc (k + 1) = omega arith in
    drop-next xs k d (omega (arith, within)) ∙ ap (λ (n : ℕ). get_or xs k d ∷ drop n (x ∷ xs)) (sym next)

module _ (before frame : List Entry) (k : ℕ) (now : Transactions) (d : Entry) (so_far : IsPut before frame k now) (within : k < length frame) where
  rest : now.reserved ≡ get_or frame k d ∷ drop (k + 1) frame
  rest = so_far.reserved ∙ drop-next frame k d within

  left : drop 1 now.reserved ≡ drop (k + 1) frame
  left = ap (λ (l : List Entry). drop 1 l) rest

  -- memory was taken for the next one first
  pub ready-next : IsReadied (get_or frame k d) now
  ready-next = rest ∙ ap (λ (l : List Entry). get_or frame k d ∷ l) (sym left)

  -- what each has behind those before it, the next one has
  pub next-has : (P : List Entry → Entry → Type 0) → EachFrom P before frame → P now.entries (get_or frame k d)
  next-has P each = subst (λ (l : List Entry). P l (get_or frame k d)) (sym so_far.entries) (each-at P before frame k d each within)

  pub put-next : IsPut before frame (k + 1) (with_readied (get_or frame k d) now)
  put-next = record {
    entries = ap (λ (l : List Entry). l ++ get_or frame k d ∷ []) so_far.entries ∙ append_assoc before (take k frame) (get_or frame k d ∷ []) ∙
        ap (λ (l : List Entry). before ++ l) (sym (take-next frame k d within));
    reserved = left;
  }

-- ---- the epoch that a bump gave

abbrev numbered : ℕ → Epoch
numbered n = record { 0 = n }

pub bump-gave : (tid : Tid) (entries frame after : List Entry) (epoch : Epoch) → frame ≡ Bump tid ∷ [] → after ≡ entries ++ frame →
    epoch.0 ≡ epoch_of tid after → epoch ≡ record { 0 = epoch_of tid entries + 1 }
bump-gave tid entries frame after epoch one all is =
    ap numbered (is ∙ ap (λ (l : List Entry). epoch_of tid l) (all ∙ ap (λ (f : List Entry). entries ++ f) one) ∙ bumped-epoch tid entries)
