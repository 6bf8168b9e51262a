use Rattle.std.proofs.Common.{◌<◌, ◌^◌, List, ℕ, length, sym, subst}
use Rattle.cw_topics.proofs.StatusLists.{key-short}
use Rattle.cw_topics.proofs.status_topic.spelled.Goals as goal

pub returns-in-Ok-clause-short : goal.returns-in-Ok-clause-short
returns-in-Ok-clause-short c =
    subst (λ (l : List ℕ). length l < 2 ^ 32) (sym c.in-Ok.ensures.key) (key-short c.args.item.now c.is_named.ensures)
