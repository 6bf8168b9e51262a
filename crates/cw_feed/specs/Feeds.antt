-- The feeds of file sources, as a shelf tells them: a missing feed is empty. This project's own rule.
use Rattle.std.specs.Prelude.{ℕ, List, [], unwrap_or}
use Rattle.cw_io.specs.Shelf.{Files, bytes_of}
use Rattle.cw_types.specs.declared.ids.PartKey.{PartKey}
use Rattle.cw_types.specs.declared.ids.PartKey.TheVariants.{Raw, File, Seq, Sink}

-- the bytes of the feed of this name, none where it is missing
abbrev pub feed_of : List ℕ → Files → List ℕ
feed_of name feeds = unwrap_or (bytes_of name feeds) []

-- a part of a source: a feed or a sequence
abbrev pub IsOfSource : PartKey → Type 0
IsOfSource (File _ _) = Unit {0}
IsOfSource (Seq _ _) = Unit {0}
IsOfSource (Raw _) = ⊥
IsOfSource (Sink _ _) = ⊥
