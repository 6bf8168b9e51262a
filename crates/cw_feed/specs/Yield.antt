-- What a source yields between two positions. A position in a feed is a count of bytes, and a record is a line (Kafka
-- Connect's FileStreamSourceTask); a position in a sequence is a count of records, each a text (this project's own).
use Rattle.std.specs.Prelude.{◌≡◌, ◌≢◌, ◌-◌, ◌<◌, ◌≤◌, ℕ, List, [], ◌∷◌, ◌++◌, length, take, drop, map, All}
use Rattle.std.specs.Prelude.{slice_index, decimal, codes}
use Rattle.std.specs.List.{range_with_len}
use Rattle.cw_io.specs.Shelf.{Files}
use Rattle.cw_types.specs.declared.ids.PartKey.{PartKey}
use Rattle.cw_types.specs.declared.ids.PartKey.TheVariants.{Raw, File, Seq, Sink}
use Rattle.cw_feed.specs.Feeds.{feed_of}

-- a text in which no line ends
abbrev pub IsLine : List ℕ → Type 0
IsLine text = All (λ byte. byte ≢ 10) text

-- lines one after the other, each with the `\n` that ends it
unfoldable pub joined : List (List ℕ) → List ℕ
joined [] = []
joined (line ∷ lines) = line ++ 10 ∷ joined lines

-- bytes cut at each `\n`, without it
pub record AreLinesOf (bytes : List ℕ) (lines : List (List ℕ)) : Type 0 where
  pub whole : bytes ≡ joined lines
  pub each : All IsLine lines

-- the bytes from one position up to another
abbrev pub between : List ℕ → ℕ → ℕ → List ℕ
between bytes from to = take (to - from) (drop from bytes)

-- a feed yields something between these positions: where they differ, a line ends at the second
pub record EndsLine (bytes : List ℕ) (from to : ℕ) : Type 0 where
  pub ordered : from ≤ to
  pub within : from < to → to ≤ length bytes
  pub ended : from < to → slice_index bytes (to - 1) ≡ 10

-- the text of a record of a sequence
abbrev pub record_text : ℕ → ℕ → List ℕ
record_text index k = decimal index ++ codes "-" ++ decimal k

-- the records of a sequence from one position up to another
abbrev pub records_between : ℕ → ℕ → ℕ → List (List ℕ)
records_between index from to = map (record_text index) (range_with_len from (to - from))

-- whether a part yields something between these positions
abbrev pub HasYield : Files → PartKey → ℕ → ℕ → Type 0
HasYield feeds (File _ feed) from to = EndsLine (feed_of feed feeds) from to
HasYield feeds (Seq _ _) from to = from ≤ to
HasYield feeds (Raw _) from to = ⊥
HasYield feeds (Sink _ _) from to = ⊥

-- what a part yields between these positions
abbrev pub Yield : Files → PartKey → ℕ → ℕ → List (List ℕ) → Type 0
Yield feeds (File _ feed) from to lines =
    EndsLine (feed_of feed feeds) from to × AreLinesOf (between (feed_of feed feeds) from to) lines
Yield feeds (Seq _ index) from to lines = (from ≤ to) × (lines ≡ records_between index from to)
Yield feeds (Raw _) from to lines = ⊥
Yield feeds (Sink _ _) from to lines = ⊥
