use Rattle.std.proofs.Common.{◌≡◌, ◌+◌, ◌-◌, take, drop, ap, ◌∙◌, arith, lit≤}
use Rattle.std.proofs.lemmas.List.{length-take}
use Rattle.cw_feed.specs.Cut.{line_lengths, fitting, most_bytes, longest_line}
use Rattle.cw_feed.proofs.Cuts.{wider, window_goes_on, line_in_window, window_stops, fitting-none}
use Rattle.cw_feed.proofs.cut.lines_end.Goals as goal

pub loop-taken-init : goal.loop-taken-init
loop-taken-init c = record {
  within = wider longest_line most_bytes c.args.first c.args.rest.now (lit≤ tt) c.requires.within;
  so_far = ap (λ n. c.args.first + fitting (most_bytes - c.args.first) (take n (line_lengths (drop c.args.first c.args.rest.now)))) (omega arith);
}

pub overflow_add-to : goal.overflow_add-to
overflow_add-to c =
    omega (arith, line_in_window most_bytes c.loop-taken.to 0 c.args.rest.now c.front-window.result.now c.front-window.ensures c.loop-taken.invariant.within c.in-Some.line c.in-Some.ensures, length-take most_bytes c.args.rest.now)

pub loop-taken-preserved : goal.loop-taken-preserved
loop-taken-preserved c = record {
  within = line_in_window most_bytes c.loop-taken.to 0 c.args.rest.now c.front-window.result.now c.front-window.ensures c.loop-taken.invariant.within c.in-Some.line c.in-Some.ensures;
  so_far =
      c.loop-taken.invariant.so_far
      ∙ window_goes_on most_bytes c.loop-taken.to (c.args.more - c.loop-taken.taken) c.args.rest.now c.front-window.result.now c.front-window.ensures c.loop-taken.invariant.within c.in-Some.line (c.args.more - (c.loop-taken.taken + 1)) (omega arith) c.in-Some.ensures;
}

pub returns-in-None-clause-end : goal.returns-in-None-clause-end
returns-in-None-clause-end c =
    omega (arith, c.loop-taken.invariant.so_far, window_stops most_bytes c.loop-taken.to (c.args.more - c.loop-taken.taken) c.args.rest.now c.front-window.result.now c.front-window.ensures c.loop-taken.invariant.within c.in-None.ensures)

pub returns-in-None-clause-within : goal.returns-in-None-clause-within
returns-in-None-clause-within c = omega (arith, c.loop-taken.invariant.within, length-take most_bytes c.args.rest.now)

pub returns-clause-end : goal.returns-clause-end
returns-clause-end c =
    let left : c.args.more - c.loop-taken.taken ≡ 0 = omega arith in
    omega (arith, c.loop-taken.invariant.so_far ∙ ap (λ n. c.loop-taken.to + fitting (most_bytes - c.loop-taken.to) (take n (line_lengths (drop c.loop-taken.to c.args.rest.now)))) left, fitting-none (most_bytes - c.loop-taken.to))

pub returns-clause-within : goal.returns-clause-within
returns-clause-within c = omega (arith, c.loop-taken.invariant.within, length-take most_bytes c.args.rest.now)
