use Rattle.std.proofs.Common.{◌≡◌, ℕ, ◌<◌, arith}
use Rattle.cw_types.specs.declared.ids.PartKey.{PartKey}
use Rattle.cw_types.specs.declared.ids.PartKey.TheVariants.{Raw, File, Seq, Sink}
use Rattle.cw_io.specs.Shelf.{Files}
use Rattle.cw_feed.specs.declared.cut.CutAnswer.TheVariants.{Cut}
use Rattle.cw_feed.specs.Feeds.{feed_of}
use Rattle.cw_feed.specs.Cut.{next_cut}
use Rattle.cw_feed.specs.Yield.{HasYield}
use Rattle.cw_feed.proofs.CutLaws.{feed_cut-further, feed_cut-ends, sequence_cut-further}
use Rattle.cw_feed.proofs.laws.cuts_have_yields.Goals as goal

further : (feeds : Files) (part : PartKey) (count from max to : ℕ) → 0 < max → next_cut feeds part count from max ≡ Cut to → from < to
further feeds (File connector feed) count from max to some is = feed_cut-further (feed_of feed feeds) from max to some is
further feeds (Seq connector index) count from max to some is = sequence_cut-further count from max to some is
further feeds (Raw n) count from max to some is = absurd (cc)
further feeds (Sink connector topic) count from max to some is = absurd (cc)

yields : (feeds : Files) (part : PartKey) (count from max to : ℕ) → 0 < max → next_cut feeds part count from max ≡ Cut to → HasYield feeds part from to
yields feeds (File connector feed) count from max to some is = feed_cut-ends (feed_of feed feeds) from max to some is
yields feeds (Seq connector index) count from max to some is = omega (arith, sequence_cut-further count from max to some is)
yields feeds (Raw n) count from max to some is = absurd (cc)
yields feeds (Sink connector topic) count from max to some is = absurd (cc)

pub returns-clause-further : goal.returns-clause-further
returns-clause-further c = further

pub returns-clause-yields : goal.returns-clause-yields
returns-clause-yields c = yields
