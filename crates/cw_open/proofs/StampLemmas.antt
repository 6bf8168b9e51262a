-- Stamps of the config log, frame by frame.
use Rattle.std.proofs.Common.{◌≡◌, ◌↔◌, ℕ, ◌+◌, ◌<◌, ◌≤◌, Bool, true, false, IsTrue, List, [], length, take, get_or, All, sym, subst}
use Rattle.std.proofs.lemmas.List.Elements.{recursion_from_All, All-from_recursion}
use Rattle.cw_bytes.specs.declared.applied.Applied.{Applied}
use Rattle.cw_bytes.specs.Frames.{EachFrom}
use Rattle.cw_txn.specs.declared.entry.Entry.{Entry}
use Rattle.cw_model.specs.StandsFor.{IsFirstLacking, AreStamped}
use Rattle.cw_open.proofs.Firsts.{goes_on, first_lacks}
use Rattle.cw_open.proofs.Steps.{refuted}

module _ (entries : List Entry) where
  abbrev pub HasStamps : List (List Applied) → List Applied → Type 0
  HasStamps before frame = AreStamped entries frame

  module _ (end : ℕ) (of : end ≡ length entries) (frames : List (List Applied)) (at : ℕ) (each : EachFrom HasStamps [] (take at frames)) (frame : List Applied) (within : at < length frames) (is : frame ≡ get_or frames at frame) (b : Bool) (test : IsTrue b ↔ All (λ (a : Applied). a.stamp ≤ end) frame) where
    pub stamped_more : b ≡ true → EachFrom HasStamps [] (take (at + 1) frames)
    stamped_more told = goes_on HasStamps [] frames at each frame within is
        (recursion_from_All (λ (a : Applied). a.stamp ≤ length entries) frame (subst (λ (n : ℕ). All (λ (a : Applied). a.stamp ≤ n) frame) of (test.0 told)))

    pub stamp_lacks : b ≡ false → IsFirstLacking HasStamps frames at
    stamp_lacks not = first_lacks HasStamps frames at each frame within is
        (λ stamped. refuted b test not (subst (λ (n : ℕ). All (λ (a : Applied). a.stamp ≤ n) frame) (sym of) (All-from_recursion (λ (a : Applied). a.stamp ≤ length entries) frame stamped)))
