-- The coordinator's invariant behind its steps.
use Rattle.std.proofs.Common.{◌≡◌, ℕ, ◌+◌, ◌<◌, ◌^◌, List, [], ◌∷◌, ◌++◌, length, take, drop, Contains, sym, subst, ◌∙◌, arith, length-append, ⊎_elim}
use Rattle.std.proofs.lemmas.List.{take-append-drop}
use Rattle.std.proofs.lemmas.List.Elements.{All-weaker, Contains-push_cases, Contains-append_left, Contains-append_right, Contains-append_cases, Contains-get_or}
use Rattle.cw_types.specs.declared.ids.PartKey.{PartKey}
use Rattle.cw_types.specs.declared.ids.Span.{Span}
use Rattle.cw_txn.specs.declared.entry.Entry.{Entry}
use Rattle.cw_txn.specs.declared.entry.Entry.TheVariants.{Bump, Commit, Set}
use Rattle.cw_txn.specs.declared.entry.SetOffset.{SetOffset}
use Rattle.cw_txn.specs.declared.tables.Tables.{Tables}
use Rattle.cw_txn.specs.Legal.{IsLegal, Chains, IsLegalBehind, ChainsBehind}
use Rattle.cw_txn.specs.Transactions.{WithoutFirst}
use Rattle.cw_txn.specs.Tables.{Keeps, HasPart, HasRows, KeepsRows, SameRows, IsFirstAt, IsCoordinator}
use Rattle.cw_types.proofs.Lists.{cut_at}
use Rattle.cw_txn.proofs.Walks.{Each-push}

pub HasRows-kept : (old new : Tables) → KeepsRows old new → (entry : Entry) → HasRows old entry → HasRows new entry
HasRows-kept old new keeps (Bump tid) has = keeps.epochs tid has
HasRows-kept old new keeps (Commit tag generation spans) has =
    (keeps.committed tag has.0, All-weaker (λ (span : Span). HasPart old.parts span.part) (λ (span : Span). HasPart new.parts span.part) (λ span. keeps.parts span.part) spans has.1)
HasRows-kept old new keeps (Set tid epoch list) has =
    All-weaker (λ (set : SetOffset). HasPart old.parts set.part) (λ (set : SetOffset). HasPart new.parts set.part) (λ set. keeps.parts set.part) list has

module _ (tables : Tables) (entries reserved : List Entry) (count : ℕ) (was : IsCoordinator tables entries reserved count) where
  -- with tables that read as before
  pub with_rows : (now : Tables) → SameRows tables now → KeepsRows tables now → IsCoordinator now entries reserved count
  with_rows now same keeps = record {
    legal = was.legal;
    chains = was.chains;
    kept = record {
      epochs = λ q. same.epochs q ∙ was.kept.epochs q;
      committed = λ q. same.committed q ∙ was.kept.committed q;
      parts = λ q. same.parts q ∙ was.kept.parts q;
    };
    rows = λ entry there. HasRows-kept tables now keeps entry (was.rows entry there);
    counted = was.counted;
    few = was.few;
  }

  -- with an entry reserved
  pub reserved_one : (entry : Entry) (more : List Entry) → more ≡ reserved ++ entry ∷ [] → HasRows tables entry → length entries + length reserved + 1 < 2 ^ 64 → IsCoordinator tables entries more count
  reserved_one entry more is has room = rw is record {
    legal = was.legal;
    chains = was.chains;
    kept = was.kept;
    rows = λ e there. ⊎_elim (λ old. was.rows e old) (λ (one : entry ≡ e). subst (λ (x : Entry). HasRows tables x) one has) (Contains-push_cases reserved entry e there);
    counted = was.counted;
    few = simp length-append (omega (arith, room));
  }

  -- with an entry written
  pub settled : (now : Tables) (entry : Entry) (longer held rest : List Entry) (more : ℕ) → longer ≡ entries ++ entry ∷ [] → Keeps now longer → KeepsRows tables now
      → entries ≡ held → IsLegalBehind held entry → ((part : PartKey) → ChainsBehind part held entry)
      → ((e : Entry) → Contains rest e → Contains reserved e) → more ≡ count + 1 → length entries + 1 + length rest < 2 ^ 64
      → IsCoordinator now longer rest more
  settled now entry longer held rest more is kept keeps same legal chains fewer counted room = record {
    legal = subst IsLegal (sym is) (Each-push IsLegalBehind entries entry was.legal (subst (λ (l : List Entry). IsLegalBehind l entry) (sym same) legal));
    chains = λ part. subst (Chains part) (sym is) (Each-push (ChainsBehind part) entries entry (was.chains part) (subst (λ (l : List Entry). ChainsBehind part l entry) (sym same) (chains part)));
    kept = kept;
    rows = λ e there. HasRows-kept tables now keeps e (was.rows e (fewer e there));
    counted = rw is (simp length-append (omega (arith, was.counted, counted)));
    few = rw is (simp length-append room);
  }

-- an entry that has a first place is in the list
pub is_there : (entries : List Entry) (at : ℕ) (entry : Entry) → IsFirstAt entry entries at → Contains entries entry
is_there entries at entry first = subst (Contains entries) first.there (Contains-get_or entries at entry first.within)

-- a list without its element at a place
module _ (entries rest : List Entry) (at : ℕ) (taken : rest ≡ take at entries ++ drop (at + 1) entries) where
  pub without : (entry : Entry) → IsFirstAt entry entries at → WithoutFirst entry entries rest
  without entry first = record {
    front = take at entries;
    back = drop (at + 1) entries;
    split = cut_at entries at entry first.within first.there;
    first = first.first;
    rest = taken;
  }

  pub fewer : (e : Entry) → Contains rest e → Contains entries e
  fewer e there = ⊎_elim
      (λ (front : Contains (take at entries) e). subst (λ (l : List Entry). Contains l e) (take-append-drop at entries) (Contains-append_left (take at entries) (drop at entries) e front))
      (λ (back : Contains (drop (at + 1) entries) e). subst (λ (l : List Entry). Contains l e) (take-append-drop (at + 1) entries) (Contains-append_right (take (at + 1) entries) (drop (at + 1) entries) e back))
      (Contains-append_cases (take at entries) (drop (at + 1) entries) e (subst (λ (l : List Entry). Contains l e) taken there))
