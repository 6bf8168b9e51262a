-- The tables of the transaction list behind an entry of each kind.
use Rattle.std.proofs.Common.{◌≡◌, ℕ, ◌+◌, Bool, true, false, cond, ◌&&◌, ◌||◌, leb, List, [], ◌∷◌, ◌++◌, length, take, drop, Option, None, Some, IsSome, refl, sym, ap, subst, ◌∙◌, arith}
use Rattle.std.specs.Option.{option_map_or, unwrap_or}
use Rattle.std.specs.List.{list_any, position}
use Rattle.std.specs.BTreeMap.{BTreeMap, get, Updates}
use Rattle.std.proofs.lemmas.List.Folds.{list_any-append}
use Rattle.std.proofs.lemmas.List.Sums.{sum_by_push}
use Rattle.cw_types.specs.declared.ids.Tid.{Tid}
use Rattle.cw_types.specs.declared.ids.Tag.{Tag}
use Rattle.cw_types.specs.declared.ids.PartKey.{PartKey}
use Rattle.cw_types.specs.declared.ids.Span.{Span}
use Rattle.cw_types.specs.declared.ids.Epoch.{Epoch}
use Rattle.cw_types.specs.Same.{same_tid, same_tag, same_part, tid_order, tag_order, part_order}
use Rattle.cw_types.proofs.SameLemmas.{tid_at, tag_at, part_at, same_tid-flip, same_tag-flip, same_part-flip, same_tid-Decides, same_tag-Decides, same_part-Decides}
use Rattle.cw_txn.specs.declared.entry.Entry.{Entry}
use Rattle.cw_txn.specs.declared.entry.Entry.TheVariants.{Bump, Commit, Set}
use Rattle.cw_txn.specs.declared.entry.SetOffset.{SetOffset}
use Rattle.cw_txn.specs.Legal.{is_bump_of, is_commit_of, epoch_of}
use Rattle.cw_offset.specs.declared.body.OffsetEntry.{OffsetEntry}
use Rattle.cw_offset.specs.Log.{is_marked}
use Rattle.cw_offset.specs.Compaction.{stores}
use Rattle.cw_compact.specs.declared.stored.StoredTag.{StoredTag}
use Rattle.cw_compact.specs.declared.outcomes.Outcomes.{Outcomes}
use Rattle.cw_compact.specs.Stored.{AreStored, marked_at, stores_at}
use Rattle.cw_compact.specs.Outcomes.{changes_part, epoch_at, first_of, AreTables, AreOutcomes}
use Rattle.cw_compact.proofs.Placed.{position-push, any_from}

-- what is true of the one and of the others
picked : {A : Type 0} (b : Bool) (x y z : A) → (b ≡ true → x ≡ z) → (b ≡ false → y ≡ z) → cond b x y ≡ z
picked true x y z one other = one refl
picked false x y z one other = other refl

first_none : (o : Option ℕ) → first_of o None ≡ o
first_none None = refl
first_none (Some place) = refl

first_some : (o next : Option ℕ) → IsSome o → o ≡ first_of o next
first_some None next some = cc
first_some (Some place) next some = refl

-- ---- single rows

pub raised : (tid : Tid) (old new : BTreeMap Tid ℕ) (epoch : ℕ) → epoch ≡ epoch_at old tid + 1 → Updates tid_order old new tid (Some epoch)
    → (q : Tid) → epoch_at new q ≡ cond (same_tid tid q) (epoch_at old q + 1) (epoch_at old q)
raised tid old new epoch is updates q =
    ap (λ (o : Option ℕ). unwrap_or o 0) (updates.0 q ∙ ap (λ (b : Bool). cond b (Some epoch) (get tid_order old q)) (tid_at tid q))
    ∙ by_test (same_tid tid q) refl
  where
    by_test : (b : Bool) → same_tid tid q ≡ b → unwrap_or (cond b (Some epoch) (get tid_order old q)) 0 ≡ cond b (epoch_at old q + 1) (epoch_at old q)
    by_test true one = is ∙ ap (λ (t : Tid). epoch_at old t + 1) ((same_tid-Decides tid q).0 one)
    by_test false other = refl

pub first_kept : (tag : Tag) (commits : BTreeMap Tag ℕ) (place : ℕ) → IsSome (get tag_order commits tag)
    → (q : Tag) → get tag_order commits q ≡ first_of (get tag_order commits q) (cond (same_tag tag q) (Some place) None)
first_kept tag commits place some q = by_test (same_tag tag q) refl
  where
    by_test : (b : Bool) → same_tag tag q ≡ b → get tag_order commits q ≡ first_of (get tag_order commits q) (cond b (Some place) None)
    by_test true one = first_some (get tag_order commits q) (Some place) (subst (λ (t : Tag). IsSome (get tag_order commits t)) ((same_tag-Decides tag q).0 one) some)
    by_test false other = sym (first_none (get tag_order commits q))

pub first_put : (tag : Tag) (old new : BTreeMap Tag ℕ) (place : ℕ) → get tag_order old tag ≡ None → Updates tag_order old new tag (Some place)
    → (q : Tag) → get tag_order new q ≡ first_of (get tag_order old q) (cond (same_tag tag q) (Some place) None)
first_put tag old new place none updates q =
    updates.0 q ∙ ap (λ (b : Bool). cond b (Some place) (get tag_order old q)) (tag_at tag q) ∙ by_test (same_tag tag q) refl
  where
    by_test : (b : Bool) → same_tag tag q ≡ b → cond b (Some place) (get tag_order old q) ≡ first_of (get tag_order old q) (cond b (Some place) None)
    by_test true one = sym (ap (λ (o : Option ℕ). first_of o (Some place)) (ap (get tag_order old) (sym ((same_tag-Decides tag q).0 one)) ∙ none))
    by_test false other = sym (first_none (get tag_order old q))

-- ---- an entry more

bumps-push : (q : Tid) (entries : List Entry) (e : Entry) → epoch_of q (entries ++ e ∷ []) ≡ epoch_of q entries + cond (is_bump_of q e) 1 0
bumps-push q entries e = sum_by_push (λ (x : Entry). cond (is_bump_of q x) 1 0) entries e

one_if : (b : Bool) (n : ℕ) → cond b (n + 1) n ≡ n + cond b 1 0
one_if true n = refl
one_if false n = omega arith

module _ (old new : Outcomes) (log : List OffsetEntry) (entries : List Entry) (before : AreOutcomes old log entries) where
  -- a table of changes in which a part is changed at this place
  changed : (e : Entry) (test : PartKey → Bool) → ((q : PartKey) → changes_part log q e ≡ test q)
      → ((q : PartKey) → get part_order new.changes q ≡ cond (test q) (Some old.count) (get part_order old.changes q))
      → (q : PartKey) (from : ℕ) → list_any (changes_part log q) (drop from (entries ++ e ∷ [])) ≡ option_map_or (leb from) (get part_order new.changes q) false
  changed e test is puts q from =
      any_from (changes_part log q) entries e (get part_order old.changes q) (before.tables.changes q) from
      ∙ ap (λ (b : Bool). option_map_or (leb from) (cond b (Some (length entries)) (get part_order old.changes q)) false) (is q)
      ∙ ap (λ (n : ℕ). option_map_or (leb from) (cond (test q) (Some n) (get part_order old.changes q)) false) (sym before.count)
      ∙ ap (λ (o : Option ℕ). option_map_or (leb from) o false) (sym (puts q))

  same_epochs : (e : Entry) → ((q : Tid) → is_bump_of q e ≡ false) → new.epochs ≡ old.epochs → (q : Tid) → epoch_at new.epochs q ≡ epoch_of q (entries ++ e ∷ [])
  same_epochs e none same q =
      ap (λ (m : BTreeMap Tid ℕ). epoch_at m q) same ∙ before.tables.epochs q
      ∙ (let n : epoch_of q entries ≡ epoch_of q entries + 0 = omega arith in n)
      ∙ sym (bumps-push q entries e ∙ ap (λ (b : Bool). epoch_of q entries + cond b 1 0) (none q))

  same_commits : (e : Entry) → ((q : Tag) → is_commit_of q e ≡ false) → new.commits ≡ old.commits → (q : Tag) → get tag_order new.commits q ≡ position (is_commit_of q) (entries ++ e ∷ [])
  same_commits e none same q =
      ap (λ (m : BTreeMap Tag ℕ). get tag_order m q) same ∙ before.tables.commits q
      ∙ sym (position-push (is_commit_of q) entries e ∙ ap (λ (b : Bool). first_of (position (is_commit_of q) entries) (cond b (Some (length entries)) None)) (none q) ∙ first_none (position (is_commit_of q) entries))

  pub bumped : (tid : Tid) → ((q : Tid) → epoch_at new.epochs q ≡ cond (same_tid tid q) (epoch_at old.epochs q + 1) (epoch_at old.epochs q))
      → new.commits ≡ old.commits → new.changes ≡ old.changes → AreTables new log (entries ++ Bump tid ∷ [])
  bumped tid epochs commits changes = record {
    epochs = λ q.
        epochs q ∙ one_if (same_tid tid q) (epoch_at old.epochs q)
        ∙ ap (λ (n : ℕ). n + cond (same_tid tid q) 1 0) (before.tables.epochs q)
        ∙ ap (λ (b : Bool). epoch_of q entries + cond b 1 0) (same_tid-flip tid q)
        ∙ sym (bumps-push q entries (Bump tid));
    commits = same_commits (Bump tid) (λ q. refl) commits;
    changes = changed (Bump tid) (λ q. false) (λ q. refl) (λ q. ap (λ (m : BTreeMap PartKey ℕ). get part_order m q) changes);
  }

  pub set_entered : (tid : Tid) (epoch : Epoch) (list : List SetOffset) → new.epochs ≡ old.epochs → new.commits ≡ old.commits
      → ((q : PartKey) → get part_order new.changes q ≡ cond (list_any (λ (set : SetOffset). same_part q set.part) list) (Some old.count) (get part_order old.changes q))
      → AreTables new log (entries ++ Set tid epoch list ∷ [])
  set_entered tid epoch list epochs commits changes = record {
    epochs = same_epochs (Set tid epoch list) (λ q. refl) epochs;
    commits = same_commits (Set tid epoch list) (λ q. refl) commits;
    changes = changed (Set tid epoch list) (λ q. list_any (λ (set : SetOffset). same_part q set.part) list) (λ q. none_or (list_any (λ (set : SetOffset). same_part q set.part) list)) changes;
  }
    where
      none_or : (b : Bool) → (b || false) ≡ b
      none_or true = refl
      none_or false = refl

  pub commit_entered : (rows : BTreeMap Tag StoredTag) → AreStored rows log → (tag : Tag) (generation : ℕ) (spans : List Span) → new.epochs ≡ old.epochs
      → ((q : Tag) → get tag_order new.commits q ≡ first_of (get tag_order old.commits q) (cond (same_tag tag q) (Some old.count) None))
      → ((q : PartKey) → get part_order new.changes q ≡ cond (list_any (λ (span : Span). same_part q span.part) spans && (marked_at rows tag && stores_at rows tag q)) (Some old.count) (get part_order old.changes q))
      → AreTables new log (entries ++ Commit tag generation spans ∷ [])
  commit_entered rows stored tag generation spans epochs commits changes = record {
    epochs = same_epochs (Commit tag generation spans) (λ q. refl) epochs;
    commits = λ q.
        commits q
        ∙ ap (λ (o : Option ℕ). first_of o (cond (same_tag tag q) (Some old.count) None)) (before.tables.commits q)
        ∙ ap (λ (n : ℕ). first_of (position (is_commit_of q) entries) (cond (same_tag tag q) (Some n) None)) before.count
        ∙ ap (λ (b : Bool). first_of (position (is_commit_of q) entries) (cond b (Some (length entries)) None)) (same_tag-flip tag q)
        ∙ sym (position-push (is_commit_of q) entries (Commit tag generation spans));
    changes = changed (Commit tag generation spans) (λ q. list_any (λ (span : Span). same_part q span.part) spans && (marked_at rows tag && stores_at rows tag q))
        (λ q. grouped (list_any (λ (span : Span). same_part q span.part) spans) (is_marked tag log) (list_any (stores tag q) log)
        ∙ ap (λ (b : Bool). list_any (λ (span : Span). same_part q span.part) spans && (b && list_any (stores tag q) log)) (sym (stored.marked tag))
        ∙ ap (λ (b : Bool). list_any (λ (span : Span). same_part q span.part) spans && (marked_at rows tag && b)) (sym (stored.stored tag q))) changes;
  }
    where
      grouped : (a b c : Bool) → (a && b && c) ≡ (a && (b && c))
      grouped true b c = refl
      grouped false b c = refl

-- ---- parts more

-- one change more
pub part_more : {A : Type 0} (test : PartKey → A → Bool) (place : ℕ) (start : PartKey → Option ℕ) (xs : List A) (i : ℕ) (x : A) (old new : BTreeMap PartKey ℕ)
    → take (i + 1) xs ≡ take i xs ++ x ∷ []
    → ((q : PartKey) → get part_order old q ≡ cond (list_any (test q) (take i xs)) (Some place) (start q))
    → ((q : PartKey) → get part_order new q ≡ cond (test q x) (Some place) (get part_order old q))
    → (q : PartKey) → get part_order new q ≡ cond (list_any (test q) (take (i + 1) xs)) (Some place) (start q)
part_more {A} test place start xs i x old new more before puts q =
    puts q
    ∙ ap (cond (test q x) (Some place)) (before q)
    ∙ nested (list_any (test q) (take i xs)) (test q x)
    ∙ ap (λ (b : Bool). cond b (Some place) (start q)) (sym (list_any-append (test q) (take i xs) (x ∷ [])))
    ∙ ap (λ (l : List A). cond (list_any (test q) l) (Some place) (start q)) (sym more)
  where
    nested : (a b : Bool) → cond b (Some place) (cond a (Some place) (start q)) ≡ cond (a || (b || false)) (Some place) (start q)
    nested true true = refl
    nested true false = refl
    nested false true = refl
    nested false false = refl

pub any_and : {A : Type 0} (test : A → Bool) (ok : Bool) (xs : List A) → list_any (λ x. test x && ok) xs ≡ (list_any test xs && ok)
any_and test ok [] = refl
any_and test ok (x ∷ xs) = ap (λ (b : Bool). (test x && ok) || b) (any_and test ok xs) ∙ split (test x) (list_any test xs) ok
  where
    split : (a b c : Bool) → ((a && c) || (b && c)) ≡ ((a || b) && c)
    split true true true = refl
    split true true false = refl
    split true false true = refl
    split true false false = refl
    split false b c = refl

pub part_at_place : (part q : PartKey) (old new : BTreeMap PartKey ℕ) (place : ℕ) → Updates part_order old new part (Some place)
    → get part_order new q ≡ cond (same_part q part) (Some place) (get part_order old q)
part_at_place part q old new place updates =
    updates.0 q ∙ ap (λ (b : Bool). cond b (Some place) (get part_order old q)) (part_at part q ∙ same_part-flip part q)

-- a part that passes a test, at each part
pub where_it_is : (part q : PartKey) (test : PartKey → Bool) (x y : Option ℕ) → test part ≡ true → cond (same_part q part) x y ≡ cond (same_part q part && test q) x y
where_it_is part q test x y is = by_test (same_part q part) refl
  where
    by_test : (b : Bool) → same_part q part ≡ b → cond b x y ≡ cond (b && test q) x y
    by_test true one = ap (λ (b : Bool). cond b x y) (sym (ap test ((same_part-Decides q part).0 one) ∙ is))
    by_test false other = refl
