use Rattle.std.proofs.Common.{◌≡◌, ◌<◌, ℕ, length, sym, ap, subst, ◌∙◌}
use Rattle.cw_types.specs.declared.ids.Span.{Span}
use Rattle.cw_feed.specs.declared.cut.CutAnswer.TheVariants as cut
use Rattle.cw_model.specs.declared.instance.Instance.{Instance}
use Rattle.cw_model.specs.Lookups.{instance_of}
use Rattle.cw_model.specs.Steps.{span_to, takes_cut}
use Rattle.cw_model.specs.Tasks.{parts_of}
use Rattle.cw_sourcetask.proofs.Batches.{polls-source}
use Rattle.cw_tasks.proofs.Stepped.{looked}
use Rattle.cw_tasks.proofs.Told.{acts-is, out-of-memory}
use Rattle.cw_sourcetask.proofs.polling.take.Goals as goal

ends : (turn to : ℕ) (own : Instance) (span : Span) → span ≡ span_to turn to own → span.to ≡ to
ends turn to own span is = ap (λ (x : Span). x.to) is

span-is : (turn to : ℕ) (own other : Instance) (span : Span) → span ≡ span_to turn to own → own ≡ other → span ≡ span_to turn span.to other
span-is turn to own other span is same = is ∙ ap (span_to turn to) same ∙ ap (λ (n : ℕ). span_to turn n other) (sym (ends turn to own span is))

pub span_to-requires : goal.span_to-requires
span_to-requires g c = subst (λ (k : Instance). c.args.turn < length (parts_of k)) (sym (looked c.args.i c.args.world.now.state c.cluster.result.now.state c.cluster.ensures.state c.instance_of.result.now c.instance_of.ensures)) c.requires.turn

pub write-requires-clause-may : goal.write-requires-clause-may
write-requires-clause-may g c = record {
  polling = c.requires.polling;
  source = polls-source c.args.world.now.setting c.args.world.now.state c.args.i c.is_safe.ensures.facts c.requires.polling c.requires.source;
  turn = c.requires.turn;
}

pub write-requires-clause-span : goal.write-requires-clause-span
write-requires-clause-span g c = span-is c.args.turn c.args.to c.instance_of.result.now (instance_of c.args.i c.args.world.now.state) c.in-Ok.span c.in-Ok.ensures (looked c.args.i c.args.world.now.state c.cluster.result.now.state c.cluster.ensures.state c.instance_of.result.now c.instance_of.ensures)

pub returns-in-Ok : goal.returns-in-Ok
returns-in-Ok g c = acts-is g.D.Disk (λ s. takes_cut c.args.world.now.setting c.args.i s c.args.turn (cut.Cut c.in-Ok.span.to)) (λ s. takes_cut c.args.world.now.setting c.args.i s c.args.turn (cut.Cut c.args.to))
    c.args.world.now c.write.new.world c.write.result
    (ap (λ (n : ℕ). takes_cut c.args.world.now.setting c.args.i c.args.world.now.state c.args.turn (cut.Cut n)) (sym (ends c.args.turn c.args.to c.instance_of.result.now c.in-Ok.span c.in-Ok.ensures))) c.write.ensures

pub returns-in-Err : goal.returns-in-Err
returns-in-Err g c = out-of-memory g.D.Disk (λ s. takes_cut c.args.world.now.setting c.args.i s c.args.turn (cut.Cut c.args.to)) c.args.world.now
