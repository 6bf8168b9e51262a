-- What a view of the cluster shows a call: the lists for which its states stand.
use Rattle.cw_rest.specs.Seen.{Seen}
use Rattle.cw_reply.specs.declared.view.View.{View}

-- what is seen in a view
abbrev pub seen_in : View → Seen
seen_in view = record {
  configs = view.config.now;
  statuses = view.statuses.now.applied;
  entries = view.txn.now.entries;
  feeds = view.feeds.now;
}
