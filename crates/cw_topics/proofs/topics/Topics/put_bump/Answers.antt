use Rattle.std.proofs.Common.{List, sym, ap, subst, ◌∙◌}
use Rattle.cw_txn.specs.Allowed.{IsAllowedBehind}
use Rattle.cw_txn.specs.declared.entry.Entry.{Entry}
use Rattle.cw_txn.specs.Legal.{EachFrom, ChainsBehind}
use Rattle.cw_topics.specs.Topics.{TopicsState}
use Rattle.cw_topics.proofs.Putting.{bump-gave}
use Rattle.cw_topics.proofs.topics.Topics.put_bump.Goals as goal

pub put_entries-entries-requires-clause-allowed : goal.put_entries-entries-requires-clause-allowed
put_entries-entries-requires-clause-allowed c =
    subst (λ (f : List Entry). EachFrom IsAllowedBehind c.args.self.now.entries.entries f) (sym c.requires.bump.1) (tt, tt)

pub put_entries-entries-requires-clause-chains : goal.put_entries-entries-requires-clause-chains
put_entries-entries-requires-clause-chains c part =
    subst (λ (f : List Entry). EachFrom (ChainsBehind part) c.args.self.now.entries.entries f) (sym c.requires.bump.1) (tt, tt)

pub returns-clause-epoch : goal.returns-clause-epoch
returns-clause-epoch c tid one = bump-gave tid c.args.self.now.entries.entries c.args.frame c.put_entries-entries.new.self.entries.entries c.epoch_given.result one
    (ap (λ (t : TopicsState). t.entries.entries) c.put_entries-entries.ensures.put) (c.epoch_given.ensures tid (c.as_slice.ensures ∙ c.put_entries-entries.ensures.entries ∙ one))
