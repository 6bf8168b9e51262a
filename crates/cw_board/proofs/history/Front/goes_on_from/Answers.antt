use Rattle.std.proofs.Common.{◌≤◌, List, length, ap, subst, arith}
use Rattle.std.proofs.lemmas.Bool.Decides.{nat_tests}
use mathlib.Core.List.{IsPrefix}
use Rattle.cw_board.specs.declared.posted.Posted.{Posted}
use Rattle.cw_board.specs.Books.{Begun}
use Rattle.cw_board.specs.Records.{IsFirstPart}
use Rattle.cw_board.proofs.Fronts.{shorter_part}
use Rattle.cw_board.proofs.history.Front.goes_on_from.Goals as goal

pub returns-clause-begins : goal.returns-clause-begins
returns-clause-begins c at =
    let both = c.learn.new.self.log in
    let mine = c.self.inside.seen.log in
    let theirs = c.earlier.inside.seen.log in
    let this : IsPrefix mine both = subst (λ (l : List Posted). IsPrefix l both) (ap (λ s. s.log) c.again-both.ensures) c.learn.ensures.2 in
    let count : c.earlier.inside.count ≤ c.self.inside.count = grind (arith, nat_tests, at) in
    let less : length theirs ≤ length mine = omega (arith, c.self.invariant, c.earlier.invariant, count) in
    let part : IsFirstPart theirs mine = shorter_part theirs mine both c.learn.ensures.3 this less in
    let as_mine : IsFirstPart theirs c.args.self.now.log = subst (λ (b : Begun). IsFirstPart theirs b.log) c.self.view_is part in
    subst (λ (b : Begun). IsFirstPart b.log c.args.self.now.log) c.earlier.view_is as_mine
