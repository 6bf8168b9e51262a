use Rattle.std.proofs.Common.{◌≡◌, ℕ, ◌-◌, List, take, drop, map, Vec, Global, sym, ap, subst, arith}
use Rattle.cw_feed.specs.Yield.{AreLinesOf, between}
use Rattle.cw_feed.proofs.Joined.{no_lines}
use Rattle.cw_feed.proofs.yields.lines_between.Goals as goal

pub returns-then-from-to : goal.returns-then-from-to
returns-then-from-to c =
    let empty : c.args.to - c.args.from ≡ 0 = omega arith in
    subst (λ (lines : List (Vec ℕ Global)). AreLinesOf (between c.args.bytes.now c.args.from c.args.to) (map (λ line. line.items) lines)) (sym c.new.ensures.items)
    (no_lines (between c.args.bytes.now c.args.from c.args.to) (ap (λ n. take n (drop c.args.from c.args.bytes.now)) empty))
