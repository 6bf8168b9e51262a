use Rattle.std.proofs.Common.{sym, ◌∙◌, subst}
use Rattle.std.proofs.lemmas.Map.Made.{keys_of-zip}
use Rattle.cw_io.specs.Shelf.{AreRising}
use Rattle.cw_feed.proofs.feeds.Feeds.names.Goals as goal

pub returns-clause-names : goal.returns-clause-names
returns-clause-names c = rw (← c.self.view_is) (c.as_slice.ensures.value ∙ sym (keys_of-zip c.self.inside.names.items c.self.inside.contents.items c.self.invariant.0))

pub returns-clause-rising : goal.returns-clause-rising
returns-clause-rising c = rw (← c.self.view_is) (subst AreRising (sym (keys_of-zip c.self.inside.names.items c.self.inside.contents.items c.self.invariant.0)) c.self.invariant.1)
