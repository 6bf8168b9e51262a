use Rattle.std.proofs.Common.{◌≡◌, ◌∙◌, false, Some, None, inl, sym, ap, rules}
use Rattle.cw_model.specs.State.{Cluster}
use Rattle.cw_model.specs.declared.row.Row.{Row}
use Rattle.cw_model.specs.declared.fault.WorldFault.TheVariants.{Closed, Dead}
use Rattle.cw_model.specs.Lookups.{row_of}
use Rattle.cw_edges.specs.Requests.{answers}
use Rattle.cw_herder.proofs.Asking.{closed-answers, dead-answers}
use Rattle.cw_herder.proofs.Replied.{refused-is}
use Rattle.cw_herder.proofs.submitting.submit.Goals as goal

pub returns-in-Some : goal.returns-in-Some
returns-in-Some g c =
    let old = c.args.world.now in
    let closed : old.state.closed ≡ Some (c.in-Some.disk, c.in-Some.count) =
    ap (λ (t : Cluster). t.closed) (sym c.cluster.ensures.state) ∙ sym c.closed.ensures ∙ c.in-Some.is in
    inl (refused-is g.D.Disk (answers old.setting c.args.w c.args.call.now) old (Closed c.in-Some.disk c.in-Some.count)
    (closed-answers old.setting c.args.w c.args.call.now old.state (c.in-Some.disk, c.in-Some.count) closed))

pub returns-then-not-row_of : goal.returns-then-not-row_of
returns-then-not-row_of g c =
    let old = c.args.world.now in
    let alive : old.state.closed ≡ None = search rules in
    let dead : (row_of c.args.w old.state).live ≡ false =
    ap (λ (t : Cluster). (row_of c.args.w t).live) (sym c.cluster-2.ensures.state) ∙
    ap (λ (row : Row). row.live) (sym c.row_of.ensures) ∙ c.if-not-row_of.true in
    inl (refused-is g.D.Disk (answers old.setting c.args.w c.args.call.now) old (Dead c.args.w)
    (dead-answers old.setting c.args.w c.args.call.now old.state alive dead))
