use Rattle.std.proofs.Common.{rules, ◌≡◌, length}
use Rattle.cw_serve.proofs.Talking.{all_gathered, gathered, none_gathered}
use Rattle.cw_serve.proofs.ending.gather.Goals as goal

pub loop-kept-init : goal.loop-kept-init
loop-kept-init g c =
    let none : length c.args.left.room.items ≡ 0 = search rules in (
      search rules,
      search rules,
      search rules,
      search rules,
      search rules,
      none_gathered _ c.args.left.room.items c.args.books.items none,
    )

pub loop-kept-preserved : goal.loop-kept-preserved
loop-kept-preserved g c = (
  search rules,
  search rules,
  search rules,
  search rules,
  search rules,
  gathered _ _ c.loop-kept.room.items _ c.loop-kept.books.items c.pop.new.self.items c.in-Some.kept c.take_in.ensures.behind c.in-Some.ensures.items c.loop-kept.invariant.5,
)

pub returns-clause-same : goal.returns-clause-same
returns-clause-same g c =
    let none : length c.loop-kept.books.items ≡ 0 = search rules in
    all_gathered _ (λ receipts. receipts.items) _ c.loop-kept.room.items c.loop-kept.books.items c.compared-receipts.result none c.loop-kept.invariant.5 c.compared-receipts.ensures.same
