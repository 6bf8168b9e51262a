-- One entry more in a list.
use Rattle.std.proofs.Common.{◌≡◌, ℕ, ◌+◌, ◌<◌, ◌^◌, Bool, true, false, ◌||◌, cond, List, [], ◌∷◌, ◌++◌, Some, refl, sym, ap, ◌∙◌, unwrap_or, arith, length-append}
use Rattle.std.specs.List.{list_any}
use Rattle.std.specs.BTreeMap.{BTreeMap, get, is_at}
use Rattle.std.proofs.lemmas.List.Folds.{list_any-append}
use Rattle.cw_types.specs.declared.ids.Tid.{Tid}
use Rattle.cw_types.specs.declared.ids.Tag.{Tag}
use Rattle.cw_types.specs.Same.{same_tid, same_tag, tid_order}
use Rattle.cw_types.proofs.SameLemmas.{tid_at, same_tid-flip, same_tid-Decides}
use Rattle.cw_txn.specs.declared.entry.Entry.{Entry}
use Rattle.cw_txn.specs.declared.entry.Entry.TheVariants.{Bump, Commit, Set}
use Rattle.cw_txn.specs.declared.entry.SetOffset.{SetOffset}
use Rattle.cw_types.specs.declared.ids.Span.{Span}
use Rattle.cw_types.specs.declared.ids.Epoch.{Epoch}
use Rattle.cw_txn.specs.Legal.{is_bump_of, is_commit_of}
use Rattle.cw_txn.proofs.Walks.{epoch_of-push, epoch_of_le, is_committed-push}
use Rattle.cw_open.specs.Entries.{AreListed, Notes}
use Rattle.cw_open.proofs.TagLemmas.{or_false}
use Rattle.cw_txn.specs.Tables.{epoch_at}

add_none : (n : ℕ) → n ≡ n + 0
add_none n = omega arith

module _ (old new : BTreeMap Tid ℕ) (tid : Tid) (rows : (q : Tid) → get tid_order new q ≡ cond (is_at (tid_order tid) q) (Some (epoch_at old tid + 1)) (get tid_order old q)) where
  raised : (q : Tid) → (b : Bool) → same_tid tid q ≡ b → epoch_at new q ≡ epoch_at old q + cond b 1 0
  raised q true same = ap (λ o. unwrap_or o 0) (rows q ∙ ap (λ (b : Bool). cond b (Some (epoch_at old tid + 1)) (get tid_order old q)) (tid_at tid q ∙ same))
      ∙ ap (λ (t : Tid). epoch_at old t + 1) ((same_tid-Decides tid q).0 same)
  raised q false same = ap (λ o. unwrap_or o 0) (rows q ∙ ap (λ (b : Bool). cond b (Some (epoch_at old tid + 1)) (get tid_order old q)) (tid_at tid q ∙ same))
      ∙ add_none (epoch_at old q)

  pub notes_bump : (tags : List Tag) → Notes (Bump tid) old tags new tags
  notes_bump tags = record {
    bumps = λ q. raised q (same_tid tid q) refl ∙ ap (λ (b : Bool). epoch_at old q + cond b 1 0) (same_tid-flip tid q);
    commits = λ tag. sym (or_false (list_any (same_tag tag) tags));
  }

pub notes_commit : (epochs : BTreeMap Tid ℕ) (tags new : List Tag) (tag : Tag) (generation : ℕ) (spans : List Span) → new ≡ tags ++ tag ∷ [] → Notes (Commit tag generation spans) epochs tags epochs new
notes_commit epochs tags new tag generation spans added = record {
  bumps = λ q. add_none (epoch_at epochs q);
  commits = λ q. ap (list_any (same_tag q)) added ∙ list_any-append (same_tag q) tags (tag ∷ []) ∙ ap (λ (b : Bool). list_any (same_tag q) tags || b) (or_false (same_tag q tag));
}

pub notes_set : (epochs : BTreeMap Tid ℕ) (tags : List Tag) (tid : Tid) (epoch : Epoch) (list : List SetOffset) → Notes (Set tid epoch list) epochs tags epochs tags
notes_set epochs tags tid epoch list = record { bumps = λ q. add_none (epoch_at epochs q); commits = λ tag. sym (or_false (list_any (same_tag tag) tags)) }

module _ (entries : List Entry) (epochs : BTreeMap Tid ℕ) (tags : List Tag) (count : ℕ) (listed : AreListed epochs tags entries count) where
  pub few_bumps : count + 1 < 2 ^ 64 → (tid : Tid) → epoch_at epochs tid + 1 < 2 ^ 64
  few_bumps few tid = let most = epoch_of_le tid entries in omega (arith, most, listed.bumps tid, listed.counted)

  pub list_more : (entry : Entry) (new : BTreeMap Tid ℕ) (behind : List Tag) → Notes entry epochs tags new behind → count + 1 < 2 ^ 64
      → AreListed new behind (entries ++ entry ∷ []) (count + 1)
  list_more entry new behind notes few = record {
    bumps = λ tid. notes.bumps tid ∙ ap (λ (n : ℕ). n + cond (is_bump_of tid entry) 1 0) (listed.bumps tid) ∙ sym (epoch_of-push tid entries entry);
    commits = λ tag. notes.commits tag ∙ ap (λ (b : Bool). b || is_commit_of tag entry) (listed.commits tag) ∙ sym (is_committed-push tag entries entry);
    counted = let long = length-append entries (entry ∷ []) in omega (arith, long, listed.counted);
    few = let long = length-append entries (entry ∷ []) in omega (arith, long, listed.counted);
  }
