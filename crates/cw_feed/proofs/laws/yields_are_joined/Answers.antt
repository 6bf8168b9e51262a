use Rattle.std.proofs.Common.{ℕ, List, ◌++◌, ap, ◌∙◌, arith}
use Rattle.cw_types.specs.declared.ids.PartKey.{PartKey}
use Rattle.cw_types.specs.declared.ids.PartKey.TheVariants.{Raw, File, Seq, Sink}
use Rattle.cw_io.specs.Shelf.{Files}
use Rattle.cw_feed.specs.Feeds.{feed_of}
use Rattle.cw_feed.specs.Yield.{Yield, records_between}
use Rattle.cw_feed.proofs.YieldLaws.{EndsLine-joined, lines-joined, records-joined}
use Rattle.cw_feed.proofs.laws.yields_are_joined.Goals as goal

joined_yields : (feeds : Files) (part : PartKey) (from middle to : ℕ) (records more : List (List ℕ)) → Yield feeds part from middle records → Yield feeds part middle to more → Yield feeds part from to (records ++ more)
joined_yields feeds (File connector feed) from middle to records more first second =
    (EndsLine-joined (feed_of feed feeds) from middle to first.0 second.0, lines-joined (feed_of feed feeds) from middle to records more first.0 second.0 first.1 second.1)
joined_yields feeds (Seq connector index) from middle to records more first second =
    (omega (arith, first.0, second.0), ap (λ xs. xs ++ more) first.1 ∙ ap (λ xs. records_between index from middle ++ xs) second.1 ∙ records-joined index from middle to first.0 second.0)
joined_yields feeds (Raw n) from middle to records more first second = absurd first
joined_yields feeds (Sink connector topic) from middle to records more first second = absurd first

pub returns : goal.returns
returns c = joined_yields
