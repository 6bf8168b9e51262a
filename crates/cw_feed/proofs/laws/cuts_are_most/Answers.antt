use Rattle.cw_feed.specs.Feeds.{feed_of}
use Rattle.cw_feed.proofs.CutLaws.{feed_cut-most}
use Rattle.cw_feed.proofs.laws.cuts_are_most.Goals as goal

pub returns : goal.returns
returns c = λ feeds connector feed count from max to some is. feed_cut-most (feed_of feed feeds) from max to some is
