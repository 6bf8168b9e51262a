use Rattle.std.proofs.Common.{Some, ap, subst, refl}
use Rattle.std.proofs.lemmas.Result.{err_from_is_err_and}
use Rattle.cw_model.specs.State.{Setting}
use Rattle.cw_gen.specs.Playing.{AreSums, EndsSo}
use Rattle.cw_gen.specs.Scripts.{making, run_of}
use Rattle.cw_gen.proofs.Summed.{held-frames, sums-so}
use Rattle.cw_gen.proofs.summing.sum_up.Goals as goal

pub open-requires-clause-empty : goal.open-requires-clause-empty
open-requires-clause-empty c = λ name. ap Some (c.empty_disks.ensures name)

pub count_commits-requires : goal.count_commits-requires
count_commits-requires c =
    let s = c.in_ok-world.world.setting in (
      (run_of s (making s c.args.start c.args.count).lines).store.txn,
      held-frames _ s c.args.start c.args.count c.in_ok-behind.behind c.in_ok-behind.ensures.behind (λ disk. disk.held.bytes.items) (λ disk. refl),
    )

pub returns-clause-sums : goal.returns-clause-sums
returns-clause-sums c =
    let s = c.in_ok-world.world.setting in
    let behind = c.in_ok-behind.behind in
    let held = held-frames _ s c.args.start c.args.count behind c.in_ok-behind.ensures.behind (λ disk. disk.held.bytes.items) (λ disk. refl) in
    let counted = c.in_ok-commits.ensures (run_of s (making s c.args.start c.args.count).lines).store.txn held in
    subst (λ (t : Setting). AreSums t c.args.start c.args.count (record { commits = c.in_ok-commits.commits; fenced = behind.fenced; records = behind.records }))
    c.in_ok-world.ensures.setting (sums-so _ s c.args.start c.args.count behind c.in_ok-behind.ensures.behind c.in_ok-commits.commits counted)

pub returns-in_err-behind-clause-ends : goal.returns-in_err-behind-clause-ends
returns-in_err-behind-clause-ends c =
    let p = err_from_is_err_and c.from_residual-in_err-behind.result c.from_residual-in_err-behind.ensures.1 in
    rw (p.1, p.2)
    (subst (λ (s : Setting). EndsSo (run_of s (making s c.args.start c.args.count).lines) c.in_err-behind.field-0.0) c.in_ok-world.ensures.setting c.in_err-behind.ensures.ends)
