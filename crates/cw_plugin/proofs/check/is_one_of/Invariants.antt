use Rattle.std.proofs.Common.{◌≡◌, drop}
use Rattle.cw_plugin.specs.Checks.{is_among}
use Rattle.cw_plugin.proofs.check.is_one_of.Given as goal

abbrev pub invariant-loop-feed : goal.invariant-loop-feed
invariant-loop-feed l = is_among (drop l.feed-index l.feeds) l.text ≡ is_among l.feeds l.text
