-- A task of the newest generation that finds nothing more: what is committed of its source's parts reaches their ends.
use Rattle.std.proofs.Common.{◌≡◌, ℕ, ◌+◌, ◌==◌, ◌≤◌, Bool, true, false, cond, List, [], ◌∷◌, length, take, drop, zero, suc, nat_lt, Option, refl, ap, ◌∙◌, subst, arith}
use Rattle.std.specs.Prelude.{min}
use Rattle.std.specs.Option.{option_map_or}
use Rattle.std.specs.List.{AllByRecursion, zip}
use Rattle.std.proofs.lemmas.Bool.Decides.{nat_tests}
use Rattle.cw_types.specs.declared.ids.PartKey.{PartKey}
use Rattle.cw_types.specs.declared.ids.PartKey.TheVariants.{Raw, File, Seq, Sink}
use Rattle.cw_types.specs.declared.ids.TaskId.{TaskId}
use Rattle.cw_io.specs.Shelf.{Files}
use Rattle.cw_data.specs.declared.entry.DataEntry.{DataEntry}
use Rattle.cw_feed.specs.declared.cut.CutAnswer.TheVariants.{Cut, AtEnd, LineTooLong}
use Rattle.cw_feed.specs.Feeds.{feed_of}
use Rattle.cw_feed.specs.Cut.{lengths_behind, line_lengths, fitting, longest_line, most_bytes, cut_of_rest}
use Rattle.cw_plugin.specs.declared.task.TaskSpec.{TaskSpec}
use Rattle.cw_model.specs.State.{Setting, Cluster}
use Rattle.cw_model.specs.Phases.{is_fetched}
use Rattle.cw_model.specs.Lookups.{instance_of, no_instance, end_or_start}
use Rattle.cw_model.specs.Tasks.{parts_of}
use Rattle.cw_model.specs.Facts.{AreFacts}
use Rattle.cw_model.specs.FactsRows.{IsSoundInstance}
use Rattle.cw_model.specs.FactsProducers.{IsNewest}
use Rattle.cw_model.specs.Quiet.{HasNoMore, PollsNothing, IsReadThrough, IsThrough}
use Rattle.cw_laws.proofs.Lists.{each-at}

-- ---- bytes without a whole line

-- where no line ends, none does whatever stands before
lengths-none : (n m : ℕ) (bytes : List ℕ) → lengths_behind n bytes ≡ [] → lengths_behind m bytes ≡ []
unfolding lengths_behind
lengths-none n m [] none = refl
lengths-none n m (b ∷ bytes) none = pick (b == 10) none (lengths-none (n + 1) (m + 1) bytes) where
  pick : (c : Bool) → cond c ((n + 1) ∷ lengths_behind 0 bytes) (lengths_behind (n + 1) bytes) ≡ [] → (lengths_behind (n + 1) bytes ≡ [] → lengths_behind (m + 1) bytes ≡ []) →
      cond c ((m + 1) ∷ lengths_behind 0 bytes) (lengths_behind (m + 1) bytes) ≡ []
  pick true none rest = absurd (cc)
  pick false none rest = rest none

lengths-tail : (n b : ℕ) (bytes : List ℕ) → lengths_behind n (b ∷ bytes) ≡ [] → lengths_behind n bytes ≡ []
unfolding lengths_behind
lengths-tail n b bytes none = pick (b == 10) none where
  pick : (c : Bool) → cond c ((n + 1) ∷ lengths_behind 0 bytes) (lengths_behind (n + 1) bytes) ≡ [] → lengths_behind n bytes ≡ []
  pick true none = absurd (cc)
  pick false none = lengths-none (n + 1) n bytes none

lengths-drop : (k : ℕ) (bytes : List ℕ) → line_lengths bytes ≡ [] → line_lengths (drop k bytes) ≡ []
lengths-drop zero bytes none = none
lengths-drop (suc k) [] none = none
lengths-drop (suc k) (b ∷ bytes) none = lengths-drop k bytes (lengths-tail 0 b bytes none)

-- behind a place without a whole line there is none further on
lengths-further : (from end : ℕ) (bytes : List ℕ) → from ≤ end → line_lengths (drop from bytes) ≡ [] → line_lengths (drop end bytes) ≡ []
lengths-further zero end bytes le none = lengths-drop end bytes none
lengths-further (suc from) zero bytes le none = absurd (omega arith)
lengths-further (suc from) (suc end) [] le none = none
lengths-further (suc from) (suc end) (b ∷ bytes) le none = lengths-further from end bytes (omega arith) none

-- ---- a part that gives nothing

rest-at_end : (from max : ℕ) (rest lengths : List ℕ) → cut_of_rest from max rest lengths ≡ AtEnd → lengths ≡ []
rest-at_end from max rest [] is = refl
rest-at_end from max rest (n ∷ lengths) is = absurd (pick (nat_lt longest_line n) is) where
  pick : (b : Bool) → cond b (LineTooLong from) (Cut (from + fitting most_bytes (take max (n ∷ lengths)))) ≡ AtEnd → ⊥
  pick true is = cc
  pick false is = cc

sequence-at_end : (b : Bool) (to : ℕ) → cond b (Cut to) AtEnd ≡ AtEnd → b ≡ false
sequence-at_end true to is = absurd (cc)
sequence-at_end false to is = refl

reached : (from count end : ℕ) → nat_lt from count ≡ false → from ≤ end → count ≤ end
reached from count end none le = omega (arith, enough from count none) where
  enough : (a b : ℕ) → nat_lt a b ≡ false → b ≤ a
  enough a b is = grind (arith, nat_tests)

read-through : (feeds : Files) (log : List DataEntry) (task : TaskSpec) (part : PartKey) (position end : ℕ) → position ≤ end → HasNoMore feeds log task part position →
    IsReadThrough feeds task.count part end
read-through feeds log task (Raw n) position end le none = tt
read-through feeds log task (File connector feed) position end le none =
    lengths-further position end (feed_of feed feeds) le (rest-at_end position task.batch (drop position (feed_of feed feeds)) (line_lengths (drop position (feed_of feed feeds))) none)
read-through feeds log task (Seq connector index) position end le none =
    reached position task.count end (sequence-at_end (nat_lt position task.count) (min task.count (position + task.batch)) none) le
read-through feeds log task (Sink connector topic) position end le none = tt

-- ---- all its parts

each-through : (feeds : Files) (log : List DataEntry) (task : TaskSpec) (ends : PartKey → ℕ) (parts : List PartKey) (positions : List ℕ) → length positions ≡ length parts →
    AllByRecursion (λ p. HasNoMore feeds log task p.0 p.1) (zip parts positions) → AllByRecursion (λ p. p.1 ≤ ends p.0) (zip parts positions) →
    AllByRecursion (λ part. IsReadThrough feeds task.count part (ends part)) parts
each-through feeds log task ends [] positions size none behind = tt
each-through feeds log task ends (part ∷ parts) [] size none behind = absurd (omega arith)
each-through feeds log task ends (part ∷ parts) (position ∷ positions) size none behind =
    (read-through feeds log task part position (ends part) behind.0 none.0, each-through feeds log task ends parts positions (omega arith) none.1 behind.1)

-- the fourth law
pub newest-through : (setting : Setting) (s : Cluster) (n : ℕ) (id : TaskId) → AreFacts setting s → IsNewest s n id → (polls : PollsNothing setting s (instance_of n s)) →
    IsThrough setting s polls.task
newest-through setting s n id f newest polls =
    let sound : IsSoundInstance s (instance_of n s) = each-at (IsSoundInstance s) s.instances n no_instance newest.is_task.within f.rows.instances in
    let parts : parts_of (instance_of n s) ≡ polls.task.parts = ap (λ (o : Option TaskSpec). option_map_or (λ task. task.parts) o []) polls.is_task in
    let size : length (instance_of n s).positions ≡ length polls.task.parts = sound.positions (ap is_fetched polls.polls) ∙ ap length parts in
    each-through setting.feeds s.batches polls.task (λ part. end_or_start part s.entries) polls.task.parts (instance_of n s).positions size polls.nothing
    (subst (λ (parts : List PartKey). AllByRecursion (λ p. p.1 ≤ end_or_start p.0 s.entries) (zip parts (instance_of n s).positions)) parts (f.producers.not_ahead n id newest))
