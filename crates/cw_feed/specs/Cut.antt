-- Where a poll of a source cuts: behind the whole lines that it takes (Kafka Connect's FileStreamSourceTask takes at
-- most batch.size; the limits in bytes are this project's own).
use Rattle.std.specs.Prelude.{◌≡◌, ◌+◌, ◌-◌, ◌==◌, ◌<◌, ◌≤◌, ℕ, List, [], ◌∷◌, ◌++◌, length, take, drop, min, sum}
use Rattle.std.specs.Prelude.{nat_le, nat_lt, if◌then◌else◌}
use Rattle.cw_io.specs.Shelf.{Files}
use Rattle.cw_types.specs.declared.ids.PartKey.{PartKey}
use Rattle.cw_types.specs.declared.ids.PartKey.TheVariants.{Raw, File, Seq, Sink}
use Rattle.cw_feed.specs.declared.cut.CutAnswer.{CutAnswer}
use Rattle.cw_feed.specs.declared.cut.CutAnswer.TheVariants.{Cut, AtEnd, LineTooLong}
use Rattle.cw_feed.specs.Feeds.{feed_of}

-- how many bytes each whole line has, its `\n` counted; n bytes of the first one stand before these bytes
unfoldable pub lengths_behind : ℕ → List ℕ → List ℕ
lengths_behind n [] = []
lengths_behind n (byte ∷ bytes) = if byte == 10 then (n + 1) ∷ lengths_behind 0 bytes else lengths_behind (n + 1) bytes

-- how many bytes each whole line of some bytes has, its `\n` counted; what stands behind the last `\n` is no whole line
abbrev pub line_lengths : List ℕ → List ℕ
line_lengths bytes = lengths_behind 0 bytes

-- the first line of bytes that begin so ends in this part, and has so many bytes
pub record LineEndsIn (part : List ℕ) (n : ℕ) : Type 0 where
  pub some : 0 < n
  pub within : n ≤ length part
  pub first : (more : List ℕ) → line_lengths (part ++ more) ≡ n ∷ line_lengths (drop n part ++ more)

-- no line ends in this part: the first line of bytes that begin so is longer
pub record NoLineEndsIn (part : List ℕ) : Type 0 where
  pub none : line_lengths part ≡ []
  pub later : (more : List ℕ) (n : ℕ) (lengths : List ℕ) → line_lengths (part ++ more) ≡ n ∷ lengths → length part < n

-- how many bytes those first lines have that are together at most so long
unfoldable pub fitting : ℕ → List ℕ → ℕ
fitting room [] = 0
fitting room (n ∷ lengths) = if nat_le n room then n + fitting (room - n) lengths else 0

-- the longest line, and the most bytes of one cut
abbrev pub longest_line : ℕ
longest_line = 65536

abbrev pub most_bytes : ℕ
most_bytes = 1048576

-- the cut of the rest of a feed, whose whole lines are so long: it is judged by its first line, or without one by its
-- length
abbrev pub cut_of_rest : ℕ → ℕ → List ℕ → List ℕ → CutAnswer
cut_of_rest from max rest [] = if nat_lt longest_line (length rest) then LineTooLong from else AtEnd
cut_of_rest from max rest (n ∷ lengths) =
    if nat_lt longest_line n then LineTooLong from else Cut (from + fitting most_bytes (take max (n ∷ lengths)))

-- the cut of a feed; behind its end there is nothing
abbrev pub cut_of_feed : List ℕ → ℕ → ℕ → CutAnswer
cut_of_feed bytes from max = cut_of_rest from max (drop from bytes) (line_lengths (drop from bytes))

-- the cut of a sequence of so many records
abbrev pub cut_of_sequence : ℕ → ℕ → ℕ → CutAnswer
cut_of_sequence count from max = if nat_lt from count then Cut (min count (from + max)) else AtEnd

-- the cut of a part from a position, of at most max records
abbrev pub next_cut : Files → PartKey → ℕ → ℕ → ℕ → CutAnswer
next_cut feeds (File _ feed) count from max = cut_of_feed (feed_of feed feeds) from max
next_cut feeds (Seq _ _) count from max = cut_of_sequence count from max
next_cut feeds (Raw _) count from max = AtEnd
next_cut feeds (Sink _ _) count from max = AtEnd

-- k is how many of the first lines there are in at most max lines and at most room bytes: no more of them fit
pub record IsMostOf (max room : ℕ) (lengths : List ℕ) (k : ℕ) : Type 0 where
  pub there : k ≤ length lengths
  pub few : k ≤ max
  pub short : sum (take k lengths) ≤ room
  pub most : (j : ℕ) → j ≤ length lengths → j ≤ max → sum (take j lengths) ≤ room → j ≤ k

-- a cut of a feed takes the most whole lines behind a position
pub record TakesMost (bytes : List ℕ) (from max to : ℕ) : Type 0 where
  pub lines : ℕ
  pub some : 0 < lines
  pub most : IsMostOf max most_bytes (line_lengths (drop from bytes)) lines
  pub behind : to ≡ from + sum (take lines (line_lengths (drop from bytes)))
