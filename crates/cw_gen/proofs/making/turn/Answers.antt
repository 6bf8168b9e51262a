use Rattle.std.proofs.Common.{◌+◌, subst, sym, refl}
use Rattle.std.specs.List.{AllByRecursion}
use Rattle.cw_types.specs.Name.{IsName}
use Rattle.cw_io.specs.Shelf.{Files, names_of}
use Rattle.cw_script.specs.Spelling.{spelled}
use Rattle.cw_model.specs.Facts.{AreFacts}
use Rattle.cw_world.specs.World.{WorldState}
use Rattle.cw_gen.specs.Directives.{Due}
use Rattle.cw_gen.specs.Playing.{IsPlayable}
use Rattle.cw_gen.specs.Scripts.{next_in}
use Rattle.cw_gen.proofs.Turned.{crowd-next, if-stops, if-turned}
use Rattle.cw_gen.proofs.making.turn.Goals as goal

pub returns-clause-turned : goal.returns-clause-turned
returns-clause-turned g c =
    let old = c.args.player.now.running.world in
    let named = subst (λ (feeds : Files). AllByRecursion IsName (names_of feeds)) (sym c.requires.no_feeds) tt in
    let facts = subst (λ (w : WorldState g.row.D.Denot). AreFacts w.setting w.state) c.world.ensures c.is_safe.ensures.facts in
    let playable = subst (λ (n : Due). IsPlayable n.directive old.state) (sym c.in_ok-directive.ensures.due) c.in_ok-directive.ensures.playable in
    if-turned old.setting c.args.made c.args.draws.now c.next.new.draws c.in_ok-directive.directive (spelled c.in_ok-directive.directive) old.state
    c.in_ok-directive.ensures.due refl g.D.Disk c.act.result old c.act.new.player.running.world c.in_ok-directive.ensures.playable c.requires.tells refl
    (crowd-next old.setting old.state c.args.made c.args.draws.now c.requires.alive.alive c.requires.few playable c.lines_are_directives.ensures.again c.requires.crowd
    (c.each_line_is_a_run.ensures old.setting (c.args.made + 1) (spelled (next_in c.args.made old.state c.args.draws.now).directive) old.state named facts))
    c.act.ensures.played

pub returns-clause-stops : goal.returns-clause-stops
returns-clause-stops g c =
    let old = c.args.player.now.running.world in
    if-stops old.setting c.args.made c.args.draws.now c.next.new.draws c.in_ok-directive.directive (spelled c.in_ok-directive.directive) old.state
    c.in_ok-directive.ensures.due refl c.act.result c.in_ok-directive.ensures.playable c.act.ensures.ends
