use Rattle.std.proofs.Common.{◌≡◌, ℕ, ◌≤◌, ap, subst, sym, ◌∙◌, arith}
use Rattle.std.proofs.lemmas.Result.{err_from_is_err_and}
use Rattle.cw_model.specs.State.{Setting}
use Rattle.cw_gen.specs.Playing.{HasTurned, StandsBehind, StopsSo}
use Rattle.cw_gen.specs.Scripts.{making}
use Rattle.cw_gen.proofs.Made.{IsMaking, ends-all, making-none, making-on, turned-one}
use Rattle.cw_gen.proofs.making.make.Goals as goal

pub loop-made-init : goal.loop-made-init
loop-made-init g c =
    let world = c.args.player.now.running.world in
    subst (λ (n : ℕ). IsMaking g.D.Disk world.setting c.args.start 0 n 0 world c.args.player.now.answers) (sym c.new-draws.ensures)
    (making-none g.D.Disk world.setting c.args.start world c.args.player.now.answers c.requires.begins c.requires.silent)

pub turn-requires-clause-no_feeds : goal.turn-requires-clause-no_feeds
turn-requires-clause-no_feeds g c = ap (λ (s : Setting). s.feeds) c.loop-made.invariant.stands.setting_is ∙ c.requires.no_feeds

pub turn-requires-clause-crowd : goal.turn-requires-clause-crowd
turn-requires-clause-crowd g c = omega (arith, c.loop-made.invariant.stands.crowd, c.loop-made.invariant.counted)

pub overflow_add-fenced : goal.overflow_add-fenced
overflow_add-fenced g c =
    let one : c.in_ok-fenced.field-0 ≤ 1 = turned-one g.D.Disk _ _ _ _ _ _ _ c.in_ok-fenced.ensures.turned in
    omega (arith, one, c.loop-made.invariant.few, c.loop-made-test.true, c.requires.few)

pub loop-made-preserved : goal.loop-made-preserved
loop-made-preserved g c =
    let setting : Setting = c.args.player.now.running.world.setting in
    let old = c.loop-made.player.running.world in
    let new = c.turn.new.player.running.world in
    let so = c.loop-made.invariant in
    making-on g.D.Disk setting c.args.start c.loop-made.made c.loop-made.draws c.turn.new.draws c.loop-made.fenced c.in_ok-fenced.field-0 old new c.loop-made.player.answers c.turn.new.player.answers so
    (subst (λ (s : Setting). HasTurned g.D.Disk s c.loop-made.made old.state c.loop-made.draws c.turn.new.draws c.in_ok-fenced.field-0 new) so.stands.setting_is c.in_ok-fenced.ensures.turned)
    c.in_ok-fenced.ensures.silent

pub returns-in_err-fenced-clause-ends : goal.returns-in_err-fenced-clause-ends
returns-in_err-fenced-clause-ends g c =
    let setting : Setting = c.args.player.now.running.world.setting in
    let old = c.loop-made.player.running.world in
    let so = c.loop-made.invariant in
    let p = err_from_is_err_and c.from_residual.result c.from_residual.ensures.1 in
    rw (p.1, p.2)
    (ends-all g.D.Disk setting c.args.start c.loop-made.made c.args.count c.loop-made.draws c.loop-made.fenced old c.loop-made.player.answers so c.loop-made-test.true c.in_err-fenced.field-0.0
    (subst (λ (s : Setting). StopsSo s c.loop-made.made old.state c.loop-made.draws c.in_err-fenced.field-0.0) so.stands.setting_is c.in_err-fenced.ensures.stops))

pub returns-clause-fenced : goal.returns-clause-fenced
returns-clause-fenced g c =
    let setting : Setting = c.args.player.now.running.world.setting in
    let all : c.loop-made.made ≡ c.args.count = omega arith in
    c.loop-made.invariant.fenced_is ∙ ap (λ (n : ℕ). (making setting c.args.start n).fenced) all

pub returns-clause-stands : goal.returns-clause-stands
returns-clause-stands g c =
    let setting : Setting = c.args.player.now.running.world.setting in
    let all : c.loop-made.made ≡ c.args.count = omega arith in
    subst (λ (n : ℕ). StandsBehind g.D.Disk setting (making setting c.args.start n).lines c.loop-made.player.running.world) all c.loop-made.invariant.stands
