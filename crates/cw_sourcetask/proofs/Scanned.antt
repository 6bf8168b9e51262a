-- What a scan finds is of one of the task's parts, and what a poll takes.
use Rattle.std.proofs.Common.{if◌then◌else◌, ◌≡◌, ℕ, ◌-◌, ◌<◌, Bool, true, false, length, Option, Some, None, refl, sym, ◌∙◌, ap}
use Rattle.cw_io.specs.Shelf.{Files}
use Rattle.cw_feed.specs.declared.cut.CutAnswer.{CutAnswer}
use Rattle.cw_laws.proofs.TaskSteps.{found-holds, turns-within}
use Rattle.cw_model.specs.declared.instance.Instance.{Instance}
use Rattle.cw_model.specs.State.{Setting, Cluster}
use Rattle.cw_model.specs.Lookups.{instance_of}
use Rattle.cw_model.specs.Polls.{turns_of, cut_at, is_something, source_turn, gathered}
use Rattle.cw_model.specs.Steps.{takes_cut, polls_source, polls_sink, polls}
use Rattle.cw_model.specs.Tasks.{parts_of, is_sink}
use Rattle.cw_sourcetask.specs.Sourced.{found_at, scan}

-- ---- it is of a part

pub turn-within : (feeds : Files) (i : Instance) (turn : ℕ) → source_turn feeds i ≡ Some turn → turn < length (parts_of i)
turn-within feeds i turn is =
    (found-holds (λ turn. turn < length (parts_of i)) (λ turn. is_something (cut_at feeds i turn)) (turns_of i) turn (turns-within i) is).0

pub scan-within : (feeds : Files) (i : Instance) → is_something (scan feeds i).1 ≡ true → (scan feeds i).0 < length (parts_of i)
scan-within feeds i = at (source_turn feeds i) refl where
  at : (o : Option ℕ) → source_turn feeds i ≡ o → is_something (found_at feeds i o).1 ≡ true → (found_at feeds i o).0 < length (parts_of i)
  at None is some = absurd (let no : false ≡ true = some in cc)
  at (Some turn) is some = turn-within feeds i turn is

-- ---- a poll takes it

found-takes : (setting : Setting) (i : ℕ) (s : Cluster) (o : Option ℕ) → polls_source setting i s o ≡
    takes_cut setting i s (found_at setting.feeds (instance_of i s) o).0 (found_at setting.feeds (instance_of i s) o).1
found-takes setting i s None = refl
found-takes setting i s (Some turn) = refl

pub polls-takes : (setting : Setting) (i : ℕ) (s : Cluster) → is_sink (instance_of i s) ≡ false → polls setting i s ≡
    takes_cut setting i s (scan setting.feeds (instance_of i s)).0 (scan setting.feeds (instance_of i s)).1
polls-takes setting i s source =
    ap (λ (b : Bool). if b then polls_sink i s (gathered (instance_of i s) s.batches) else polls_source setting i s (source_turn setting.feeds (instance_of i s))) source ∙
    found-takes setting i s (source_turn setting.feeds (instance_of i s))

pub polls-found : (setting : Setting) (i : ℕ) (s : Cluster) → is_sink (instance_of i s) ≡ false → (feeds : Files) (own : Instance) (found : ℕ × CutAnswer) →
    feeds ≡ setting.feeds → own ≡ instance_of i s → found ≡ scan feeds own → polls setting i s ≡ takes_cut setting i s found.0 found.1
polls-found setting i s source feeds own found same_feeds same_own is =
    let all : found ≡ scan setting.feeds (instance_of i s) =
    is ∙ ap (λ (files : Files). scan files own) same_feeds ∙ ap (scan setting.feeds) same_own in
    polls-takes setting i s source ∙ ap (λ (p : ℕ × CutAnswer). takes_cut setting i s p.0 p.1) (sym all)
