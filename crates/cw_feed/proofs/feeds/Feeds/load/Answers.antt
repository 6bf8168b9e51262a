use Rattle.std.proofs.Common.{◌≡◌, ℕ, ◌+◌, ◌<◌, ◌≤◌, List, [], ◌∷◌, ◌++◌, length, get_or, take, Some, sym, ◌∙◌, ap, subst, arith}
use Rattle.std.specs.List.{zip}
use Rattle.std.proofs.lemmas.List.{take_all, length_push}
use Rattle.std.proofs.lemmas.List.Elements.{all_zip_more}
use Rattle.cw_io.specs.Shelf.{Files, names_of, bytes_of, AreRising}
use Rattle.cw_feed.proofs.Lookups.{AreLoaded, zip-loaded}
use Rattle.cw_feed.proofs.feeds.Feeds.load.Goals as goal

-- one more content that the files hold
one_more : (held : Files) (names contents new : List (List ℕ)) (i : ℕ) (name content : List ℕ) → i < length names → name ≡ get_or names i name
    → AreLoaded held (take i names) contents → bytes_of name held ≡ Some content → new ≡ contents ++ content ∷ [] → AreLoaded held (take (i + 1) names) new
one_more held names contents new i name content within is loaded found added =
    subst (AreLoaded held (take (i + 1) names)) (sym added)
    (all_zip_more (λ name content. bytes_of name held ≡ Some content) names contents i name content within is loaded found)

pub loop-name-preserved : goal.loop-name-preserved
loop-name-preserved g c = record {
  kept = c.load.ensures.kept ∙ c.loop-name.invariant.kept;
  later = omega (arith, c.load.ensures.later, c.loop-name.invariant.later);
  loaded = λ held told.
      one_more held c.deref-name-items.result.now c.loop-name.contents.items _ c.loop-name.name-index c.name-item.result c.in_ok-load.field-0.items c.loop-name-test.true c.name-item.is
      (c.loop-name.invariant.loaded held told) (c.in_ok-load.ensures.bytes held (c.loop-name.invariant.kept ∙ told)) c.in_ok-add.ensures;
  count = ap length c.in_ok-add.ensures ∙ length_push c.loop-name.contents.items c.in_ok-load.field-0.items ∙ ap (λ n. n + 1) c.loop-name.invariant.count;
}

-- all contents, and so the files
all_held : (held : Files) (names items contents : List (List ℕ)) (n : ℕ) → items ≡ names → names ≡ names_of held → AreRising names → length items ≤ n → AreLoaded held (take n items) contents → zip names contents ≡ held
all_held held names items contents n same are rising all loaded =
    ap (λ xs. zip xs contents) are
    ∙ zip-loaded held contents (subst AreRising are rising) (subst (λ (xs : List (List ℕ)). AreLoaded held xs contents) (take_all n items all ∙ same ∙ are) loaded)

pub returns-clause-loaded : goal.returns-clause-loaded
returns-clause-loaded g c = λ held told.
    all_held held c.in_ok-names.names.items c.deref-name-items.result.now c.loop-name.contents.items c.loop-name.name-index c.deref-name-items.ensures.value
    (c.in_ok-names.ensures.names held told) c.in_ok-names.ensures.rising c.loop-name-test.false (c.loop-name.invariant.loaded held told)
