use Rattle.std.proofs.Common.{◌≡◌, ℕ, List, refl, sym, ◌∙◌}
use Rattle.cw_types.specs.declared.ids.PartKey.{PartKey}
use Rattle.cw_types.specs.declared.ids.PartKey.TheVariants.{Raw, File, Seq, Sink}
use Rattle.cw_io.specs.Shelf.{Files}
use Rattle.cw_feed.specs.Feeds.{feed_of}
use Rattle.cw_feed.specs.Yield.{HasYield, Yield, between, records_between}
use Rattle.cw_feed.proofs.YieldLaws.{Lines, feed_yields, AreLinesOf-one}
use Rattle.cw_feed.proofs.laws.yields_are_one.Goals as goal

exist : (feeds : Files) (part : PartKey) (from to : ℕ) → HasYield feeds part from to → (records : List (List ℕ)) × Yield feeds part from to records
exist feeds (File connector feed) from to has = let found : Lines (between (feed_of feed feeds) from to) = feed_yields (feed_of feed feeds) from to has in (found.lines, (has, found.are))
exist feeds (Seq connector index) from to has = (records_between index from to, (has, refl))
exist feeds (Raw n) from to has = absurd has
exist feeds (Sink connector topic) from to has = absurd has

one : (feeds : Files) (part : PartKey) (from to : ℕ) (records others : List (List ℕ)) → Yield feeds part from to records → Yield feeds part from to others → records ≡ others
one feeds (File connector feed) from to records others first second = AreLinesOf-one (between (feed_of feed feeds) from to) records others first.1 second.1
one feeds (Seq connector index) from to records others first second = first.1 ∙ sym second.1
one feeds (Raw n) from to records others first second = absurd first
one feeds (Sink connector topic) from to records others first second = absurd first

pub returns-clause-exist : goal.returns-clause-exist
returns-clause-exist c = exist

pub returns-clause-one : goal.returns-clause-one
returns-clause-one c = one
