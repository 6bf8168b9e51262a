-- Which part a task takes when it polls: the first behind the one that it took last, in its order and round about,
-- that has something. A source's part has what its feed or sequence yields behind the position (Kafka Connect's
-- SourceTask); a sink's topic has committed records that are stable (SinkTask). That a task takes one part at a time,
-- and a sink at most 500 records, is this project's own.
use Rattle.std.specs.Prelude.{ℕ, ◌+◌, ◌-◌, ◌&&◌, Bool, true, false, List, ◌++◌, length, map, take, min, nat_le, Option}
use Rattle.std.specs.Prelude.{is_some, option_map}
use Rattle.std.specs.Option.{option_map_or}
use Rattle.std.specs.List.{filter, find, fold, range_with_len, enumerate_from}
use Rattle.cw_io.specs.Shelf.{Files}
use Rattle.cw_data.specs.declared.entry.DataEntry.{DataEntry}
use Rattle.cw_data.specs.Log.{records, stable, marker_of, is_commit, taken}
use Rattle.cw_feed.specs.declared.cut.CutAnswer.{CutAnswer}
use Rattle.cw_feed.specs.declared.cut.CutAnswer.TheVariants.{Cut, AtEnd, LineTooLong}
use Rattle.cw_feed.specs.Cut.{next_cut}
use Rattle.cw_model.specs.declared.instance.Instance.{Instance}
use Rattle.cw_model.specs.Tasks.{parts_of, part_at, position_at, count_of, batch_limit_of}
use Rattle.cw_model.specs.EventsSinks.{topic_in}

-- ---- whose turn it is

-- the turn behind the last one that was taken; the first one where none was
abbrev pub turn_behind : Option ℕ → ℕ
turn_behind last = option_map_or (λ turn. turn + 1) last 0

-- the turns of so many parts, from one on and round about
abbrev pub turns_from : (first count : ℕ) → List ℕ
turns_from first count = range_with_len (min first count) (count - first) ++ range_with_len 0 (min first count)

-- the turns of a task, in the order in which it polls
abbrev pub turns_of : Instance → List ℕ
turns_of i = turns_from (turn_behind i.last) (length (parts_of i))

-- ---- a source

-- what is cut of a source's part from its position on
abbrev pub cut_at : Files → Instance → (turn : ℕ) → CutAnswer
cut_at feeds i turn = next_cut feeds (part_at turn i) (count_of i) (position_at turn i) (batch_limit_of i)

-- whether a cut is something: a part with a line that is too long has that
abbrev pub is_something : CutAnswer → Bool
is_something (Cut to) = true
is_something AtEnd = false
is_something (LineTooLong at) = true

-- the turn that a source takes, where a part has something
abbrev pub source_turn : Files → Instance → Option ℕ
source_turn feeds i = find (λ turn. is_something (cut_at feeds i turn)) (turns_of i)

-- ---- a sink

-- the most records that a sink takes at once
abbrev pub most_records : ℕ
most_records = 500

-- the committed records of a topic below its last stable offset and from a place on, each with its place
abbrev pub records_from : (topic : List ℕ) → (from : ℕ) → List DataEntry → List (ℕ × List ℕ)
records_from topic from log = map (λ p. (p.0, p.1.value))
    (filter (λ p. nat_le from p.0 && is_commit (marker_of p.1.tag log))
    (enumerate_from 0 (take (stable topic log) (records topic log))))

-- what a sink hands out of one of its topics, up to behind the last record
pub record Delivery : Type 0 where
  pub turn : ℕ
  pub topic : List ℕ
  pub from : ℕ
  pub to : ℕ
  pub lines : List (List ℕ)

-- some records of a topic, as they are handed out
abbrev pub delivery_with : Instance → (turn : ℕ) → List (ℕ × List ℕ) → Delivery
delivery_with i turn records = record {
  turn = turn;
  topic = topic_in (part_at turn i);
  from = position_at turn i;
  to = fold (λ end p. p.0 + 1) (position_at turn i) records;
  lines = map (λ p. p.1) records;
}

-- the records that a sink takes of a turn
abbrev pub delivery_at : Instance → List DataEntry → (turn : ℕ) → Delivery
delivery_at i log turn = delivery_with i turn
    (take most_records (records_from (topic_in (part_at turn i)) (position_at turn i) log))

-- what a sink gathers: of the first topic that has such a record; of none where it is at its end
abbrev pub gathered : Instance → List DataEntry → Option Delivery
gathered i log = option_map (delivery_at i log)
    (find (λ turn. is_some (taken (topic_in (part_at turn i)) (position_at turn i) log)) (turns_of i))
