use Rattle.std.proofs.Common.{◌≡◌, ◌∙◌, Some}
use Rattle.cw_log.specs.Log.{kind_of}
use Rattle.cw_pair.specs.Pair.{IsHeadDamaged, IsRight}
use Rattle.cw_pair.proofs.Judged.{ok_told, caused}
use Rattle.cw_pair.proofs.choice.choose.Goals as goal

pub returns-clause-chosen : goal.returns-clause-chosen
returns-clause-chosen g c =
    ok_told c.judge.result (λ a. g.D.Disk.holds c.args.a.now ≡ Some a) (λ b. g.D.Disk.holds c.args.b.now ≡ Some b) (λ a b on_b. IsRight (kind_of c.args.name) on_b a b) _
    (λ a b is is'. c.judge.ensures.right (kind_of c.args.name) a b (c.in_ok-front_a.ensures.front a (c.settle.ensures.reads.same ∙ is)) (c.in_ok-front_b.ensures.front b (c.settle-2.ensures.reads.same ∙ is')))

pub returns-clause-cause : goal.returns-clause-cause
returns-clause-cause g c =
    caused c.judge.result (λ a. g.D.Disk.holds c.args.a.now ≡ Some a) (λ b. g.D.Disk.holds c.args.b.now ≡ Some b) (λ a b on_b. IsRight (kind_of c.args.name) on_b a b) (λ a b side harm. IsHeadDamaged (kind_of c.args.name) a b side harm) _
    (λ a b is is'. c.judge.ensures.right (kind_of c.args.name) a b (c.in_ok-front_a.ensures.front a (c.settle.ensures.reads.same ∙ is)) (c.in_ok-front_b.ensures.front b (c.settle-2.ensures.reads.same ∙ is'))) c.judge.ensures.start
