use Rattle.std.proofs.Common.{◌≡◌, ◌∙◌, true, false, ap, subst, sym, rules}
use Rattle.cw_model.specs.Answers.{Answer}
use Rattle.cw_model.specs.EventsSinks.{deliver, MayDeliver}
use Rattle.cw_model.specs.State.{Cluster}
use Rattle.cw_turns.specs.Due.{IsToTell}
use Rattle.cw_turns.proofs.Delivered.{deliver-keeps, deliver-on, is-delivered, not-refused}
use Rattle.cw_turns.proofs.delivering.deliver.Goals as goal

pub deliver-requires-clause-may : goal.deliver-requires-clause-may
deliver-requires-clause-may g c = let d = c.args.delivery.now in let passes : c.may_deliver.result ≡ true = search rules in
    subst (λ (s : Cluster). MayDeliver c.args.i d.turn d.to s) c.cluster.ensures.state (c.may_deliver.ensures.may passes)

pub returns-clause-goes_on : goal.returns-clause-goes_on
returns-clause-goes_on g c =
    let d = c.args.delivery.now in let old = c.args.world.now in
    let passes : c.may_deliver.result ≡ true = search rules in
    let may = subst (λ (s : Cluster). MayDeliver c.args.i d.turn d.to s) c.cluster.ensures.state (c.may_deliver.ensures.may passes) in
    deliver-on g.D.Disk c.args.i d.turn d.to old c.deliver.new.self c.deliver.result c.requires.alive c.deliver.ensures (c.is_safe.ensures.holds c.requires.alive) may

pub returns-clause-kept : goal.returns-clause-kept
returns-clause-kept g c =
    let d = c.args.delivery.now in
    deliver-keeps g.D.Disk c.args.i d.turn d.to c.args.world.now c.deliver.new.self c.deliver.result c.requires.alive c.deliver.ensures

pub unreachable-requires : goal.unreachable-requires
unreachable-requires g c =
    let d = c.args.delivery.now in let old = c.args.world.now in
    let passes : c.may_deliver.result ≡ true = search rules in
    let may = subst (λ (s : Cluster). MayDeliver c.args.i d.turn d.to s) c.cluster.ensures.state (c.may_deliver.ensures.may passes) in
    not-refused (deliver c.args.i d.turn d.to old.state).0 c.deliver.result c.in-Err.field-0 (is-delivered c.args.i d.turn d.to old.state c.requires.alive may.polling)
    (ap (λ (a : Answer (Unit {0})). a.0) c.deliver.ensures.row) c.in-Err.is

pub returns-then-not-may_deliver-clause-due : goal.returns-then-not-may_deliver-clause-due
returns-then-not-may_deliver-clause-due g c = λ told.
    let passes = c.may_deliver.ensures.due (subst (λ (s : Cluster). IsToTell c.args.i s c.args.delivery.now) (sym c.cluster.ensures.state) told) in
    let fails : c.may_deliver.result ≡ false = search rules in sym fails ∙ passes
