use Rattle.std.proofs.Common.{ℕ, ◌<◌, ◌^◌, List, All, length, take}
use Rattle.cw_feed.proofs.feeds.Feeds.are_short.Given as goal

-- those that were looked at are short
abbrev pub invariant-loop-content : goal.invariant-loop-content
invariant-loop-content l = All (λ (content : List ℕ). length content < 2 ^ 64) (take l.content-index l.content-items)
