use Rattle.std.proofs.Common.{◌≡◌, ◌∙◌, ap, rules, List, ℕ, true, None, subst}
use Rattle.cw_serve.specs.Sharing.{SharedState, goes_on}
use Rattle.std.specs.Vec.{with_items}
use Rattle.cw_serve.specs.Turning.{is_late}
use Rattle.cw_serve.proofs.Turned.{noted, expired, ticked}
use Rattle.cw_serve.proofs.Keeping.{alive-on, stays_shared}
use Rattle.cw_serve.proofs.shared.Shared.tick.Goals as goal

pub invariant_of-self : goal.invariant_of-self
invariant_of-self g c =
    let on : goes_on c.args.self.now ≡ true = search rules in
    let alive : c.self.inside.world.state.closed ≡ None = ap (λ (s : SharedState g.row.D.Denot). s.world.state.closed) c.self.view_is ∙ alive-on c.args.self.now on in
    stays_shared c.self.invariant alive c.is_safe.ensures.facts c.expire-expired.ensures.goes_on c.expire-expired.ensures.kept

pub invariant_of-self-2 : goal.invariant_of-self-2
invariant_of-self-2 g c =
    let on : goes_on c.args.self.now ≡ true = search rules in
    let alive : c.self.inside.world.state.closed ≡ None = ap (λ (s : SharedState g.row.D.Denot). s.world.state.closed) c.self.view_is ∙ alive-on c.args.self.now on in
    stays_shared c.self.invariant alive c.is_safe.ensures.facts c.herd-ticked.ensures.goes_on c.herd-ticked.ensures.kept

pub returns-in-Some-clause-turn : goal.returns-in-Some-clause-turn
returns-in-Some-clause-turn g c = λ on low.
    let inside = c.self.inside in
    let was : SharedState g.row.D.Denot = record {
      world = inside.world;
      ended = inside.ended;
      stop = inside.stop;
      moments = inside.moments.items;
      given = inside.given.items;
      lacks = inside.lacks;
    } in
    let moments = (with_items inside.moments c.note.new.moments).items in
    let notes = noted c.args.w c.args.now inside.moments c.deref_mut.result.now c.note.new.moments c.deref_mut.ensures.value c.deref_mut.ensures.len c.note.ensures in
    let late = subst (λ (ms : List ℕ). is_late c.args.now ms c.in-Some.member ≡ true) c.deref.ensures.value c.in-Some.ensures in
    expired g.D.Disk c.args.w c.args.now was c.args.self.now c.self.view_is moments notes c.expire-expired.new.world c.after_expiry.new.stop
    c.after_expiry.result c.expire-expired.result c.in-Some.member late c.expire-expired.ensures.does
    c.after_expiry.ensures.told c.after_expiry.ensures.wants c.after_expiry.ensures.keeps

pub returns-clause-turn : goal.returns-clause-turn
returns-clause-turn g c = λ on low.
    let inside = c.self.inside in
    let was : SharedState g.row.D.Denot = record {
      world = inside.world;
      ended = inside.ended;
      stop = inside.stop;
      moments = inside.moments.items;
      given = inside.given.items;
      lacks = inside.lacks;
    } in
    let moments = (with_items inside.moments c.note.new.moments).items in
    let notes = noted c.args.w c.args.now inside.moments c.deref_mut.result.now c.note.new.moments c.deref_mut.ensures.value c.deref_mut.ensures.len c.note.ensures in
    ticked g.D.Disk c.args.w c.args.now was c.args.self.now c.self.view_is moments notes c.herd-ticked.new.world c.after_tick.new.stop
    c.after_tick.result c.herd-ticked.result c.herd-ticked.ensures.acts
    c.after_tick.ensures.told c.after_tick.ensures.wants c.after_tick.ensures.keeps
