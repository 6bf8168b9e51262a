-- What an instance of a task works on: its parts, its position in each, the transaction that it writes under, and what
-- the feeds yield to it (KIP-618). An instance that is no task has no parts.
use Rattle.std.specs.Prelude.{ℕ, ◌-◌, ◌==◌, Bool, false, not, List, [], length, take, slice_index, slice_index_or}
use Rattle.std.specs.Prelude.{slice_set, Some, unwrap_or, option_and_then}
use Rattle.std.specs.Option.{option_map_or}
use Rattle.std.specs.List.{slice_split}
use Rattle.cw_types.specs.declared.ids.Tag.{Tag}
use Rattle.cw_types.specs.declared.ids.PartKey.{PartKey}
use Rattle.cw_types.specs.declared.ids.PartKey.TheVariants.{Raw, File, Seq, Sink}
use Rattle.cw_types.specs.declared.ids.Span.{Span}
use Rattle.cw_io.specs.Shelf.{Files}
use Rattle.cw_feed.specs.Feeds.{feed_of}
use Rattle.cw_feed.specs.Yield.{between, records_between}
use Rattle.cw_plugin.specs.Classes.{row_of as class_row_of}
use Rattle.cw_model.specs.declared.instance.Cut.{Cut}
use Rattle.cw_model.specs.declared.instance.Instance.{Instance}
use Rattle.cw_model.specs.declared.instance.InstancePhase.{InstancePhase}
use Rattle.cw_model.specs.Updates.{tid_of}

-- the parts of a task, in its order
abbrev pub parts_of : Instance → List PartKey
parts_of i = option_map_or (λ task. task.parts) i.task []

-- the part of a turn
abbrev pub part_at : (turn : ℕ) → Instance → PartKey
part_at turn i = slice_index_or (parts_of i) turn (Raw 0)

-- a task's position in the part of a turn
abbrev pub position_at : (turn : ℕ) → Instance → ℕ
position_at turn i = slice_index i.positions turn

-- the topic that a source writes
abbrev pub topic_of : Instance → List ℕ
topic_of i = unwrap_or (option_and_then (λ task. task.topic) i.task) []

-- how many records each of its sequences has
abbrev pub count_of : Instance → ℕ
count_of i = option_map_or (λ task. task.count) i.task 0

-- how many records a batch of it has at most
abbrev pub batch_limit_of : Instance → ℕ
batch_limit_of i = option_map_or (λ task. task.batch) i.task 0

-- whether it is a task of a source
abbrev pub is_source : Instance → Bool
is_source i = option_map_or (λ task. (class_row_of task.class).is_source) i.task false

-- whether it is a task of a sink
abbrev pub is_sink : Instance → Bool
is_sink i = option_map_or (λ task. not (class_row_of task.class).is_source) i.task false

-- the transaction that it writes under
abbrev pub tag_of : Instance → Tag
tag_of i = record { number = i.number; epoch = unwrap_or i.epoch (record { 0 = 0 }); tid = tid_of i.item }

-- what it took last
abbrev pub cut_of : Instance → Cut
cut_of i = unwrap_or i.cut (record { turn = 0; from = 0; to = 0 })

-- the span of what it took last
abbrev pub span_of : Instance → Span
span_of i = record { part = part_at (cut_of i).turn i; from = (cut_of i).from; to = (cut_of i).to }

-- a task that has taken a cut
abbrev pub taking : InstancePhase → Cut → Instance → Instance
taking phase cut i = record i { phase = phase; last = Some cut.turn; cut = Some cut }

-- a task that goes on from a position in the part that it took last
abbrev pub polling_from : InstancePhase → ℕ → Instance → Instance
polling_from phase position i = record i { phase = phase; positions = slice_set i.positions (cut_of i).turn position }

-- bytes that end with a line end, cut at each line end
abbrev pub lines_in : List ℕ → List (List ℕ)
lines_in bytes = take (length (slice_split (λ byte. byte == 10) bytes) - 1) (slice_split (λ byte. byte == 10) bytes)

-- what a part yields between two positions, where it yields anything
abbrev pub yielded : Files → PartKey → (from to : ℕ) → List (List ℕ)
yielded feeds (File connector feed) from to = lines_in (between (feed_of feed feeds) from to)
yielded feeds (Seq connector index) from to = records_between index from to
yielded feeds (Raw n) from to = []
yielded feeds (Sink connector topic) from to = []
