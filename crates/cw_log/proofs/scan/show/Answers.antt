use Rattle.std.proofs.Common.{◌+◌, ◌∙◌, List, ℕ, [], ◌∷◌, ◌++◌, subst, arith}
use Rattle.cw_log.proofs.Windows.{part_within}
use Rattle.cw_log.proofs.scan.show.Goals as goal

pub returns-clause-seen : goal.returns-clause-seen
returns-clause-seen g c file is bodies gate seen =
    let same = part_within file c.place_of.new.self.bytes.items c.place_of.new.self.start c.in_ok-from.from (c.args.at + 5) c.args.count c.place_of.new.self.filled c.in_ok-from.ensures.place.0 (c.in_ok-from.ensures.all file is (omega (arith, c.requires.whole file is))) (c.in_ok-from.ensures.window file is).shows in
    subst (λ (body : List ℕ). g.V.BodyVisitor.has_seen c.see-2.new.self (bodies ++ body ∷ [])) (c.shown.ensures ∙ same) (c.in_ok-see-2.ensures bodies gate seen)
