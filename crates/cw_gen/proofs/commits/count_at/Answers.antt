use Rattle.std.proofs.Common.{◌≡◌, List, [], get_or, ◌∙◌}
use Rattle.std.proofs.lemmas.Result.{IfOk-weaker}
use Rattle.cw_txn.specs.declared.entry.Entry.{Entry}
use Rattle.cw_gen.specs.Counts.{HasFrames, IsBodyOf, commit_count}
use Rattle.cw_gen.proofs.Counting.{body-at}
use Rattle.cw_gen.proofs.commits.count_at.Goals as goal

pub count_in-requires : goal.count_in-requires
count_in-requires c = (
  get_or c.requires.frames.0 c.args.index [],
  body-at c.args.log.now c.requires.frames.0 c.requires.frames.1 c.args.index c.requires.within c.as_slice.result.now
      (λ bodies told. c.as_slice.ensures.value ∙ c.in-Ok.ensures.body bodies told),
)

pub returns-in-Ok-clause-count : goal.returns-in-Ok-clause-count
returns-in-Ok-clause-count c =
    IfOk-weaker c.count_in.result
    (λ n. (entries : List Entry) → IsBodyOf c.as_slice.result.now entries → n ≡ commit_count entries)
    (λ n. (frames : List (List Entry)) → HasFrames c.args.log.now frames → n ≡ commit_count (get_or frames c.args.index []))
    (λ n is frames has. is (get_or frames c.args.index []) (body-at c.args.log.now frames has c.args.index c.requires.within c.as_slice.result.now
    (λ bodies told. c.as_slice.ensures.value ∙ c.in-Ok.ensures.body bodies told)))
    c.count_in.ensures
