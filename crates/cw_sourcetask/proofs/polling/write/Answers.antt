use Rattle.std.proofs.Common.{◌≡◌, ℕ, Result, Ok, refl, sym, ap, subst}
use Rattle.cw_types.specs.declared.ids.Span.{Span}
use Rattle.cw_types.specs.declared.logs.LogName.TheVariants.{Batches}
use Rattle.cw_disk.specs.declared.device.Disk.{Ghosts}
use Rattle.cw_feed.specs.declared.cut.CutAnswer.TheVariants as cut
use Rattle.cw_model.specs.declared.did.Did.{Did}
use Rattle.cw_model.specs.declared.did.Did.TheVariants as did
use Rattle.cw_model.specs.declared.fault.WorldFault.{WorldFault}
use Rattle.cw_model.specs.declared.instance.Cut.{Cut}
use Rattle.cw_model.specs.State.{Setting, Cluster}
use Rattle.cw_model.specs.Answers.{Answer}
use Rattle.cw_model.specs.EventsSinks.{sink_cut}
use Rattle.cw_model.specs.EventsSources.{produce, MayProduce}
use Rattle.cw_model.specs.Lookups.{instance_of}
use Rattle.cw_model.specs.Steps.{tells, span_to, takes_cut}
use Rattle.cw_world.specs.World.{WorldState, Writes, Acts}
use Rattle.cw_world.proofs.Acting.{writes-acts}
use Rattle.cw_sourcetask.proofs.Many.{produce-many}
use Rattle.cw_tasks.proofs.Staying.{still-there}
use Rattle.cw_tasks.proofs.Told.{acts-is, done-acts, refused-acts}
use Rattle.cw_sourcetask.proofs.polling.write.Goals as goal

-- it writes the records from its position on
abbrev cuts : Setting → ℕ → (turn to : ℕ) → Cluster → Answer (Unit {0})
cuts setting i turn to s = produce setting i (sink_cut turn to (instance_of i s)) s

-- the cut of a span
abbrev cut_in : ℕ → Span → Cut
cut_in turn span = record { turn = turn; from = span.from; to = span.to }

abbrev cut_from : (turn to from : ℕ) → Cut
cut_from turn to from = record { turn = turn; from = from; to = to }

same-cut : (turn i : ℕ) (s : Cluster) (span : Span) → span ≡ span_to turn span.to (instance_of i s) → cut_in turn span ≡ sink_cut turn span.to (instance_of i s)
same-cut turn i s span is = ap (cut_from turn span.to) (ap (λ (x : Span). x.from) is)

produced : {D : Type 0} (G : Ghosts D) (turn i : ℕ) (span : Span) (old mid : WorldState D) (result : Result (Unit {0}) WorldFault) →
    span ≡ span_to turn span.to (instance_of i old.state) → Writes G Batches (produce old.setting i (cut_in turn span)) old mid result →
    Acts G (cuts old.setting i turn span.to) old mid result
produced G turn i span old mid result is writes =
    acts-is G (produce old.setting i (cut_in turn span)) (cuts old.setting i turn span.to) old mid result
    (ap (λ (own : Cut). produce old.setting i own old.state) (sym (same-cut turn i old.state span is)))
    (writes-acts G (produce old.setting i (cut_in turn span)) old mid Batches result writes)

pub produce-requires-clause-may : goal.produce-requires-clause-may
produce-requires-clause-may g c = subst (λ (own : Cut). MayProduce c.args.i own c.args.world.now.state)
    (sym (same-cut c.args.turn c.args.i c.args.world.now.state c.args.span c.requires.span)) c.requires.may

pub refuse-requires : goal.refuse-requires
refuse-requires g c = still-there g.D.Disk (cuts c.args.world.now.setting c.args.i c.args.turn c.args.span.to) c.args.world.now c.produce.new.self c.produce.result c.args.i
    (produced g.D.Disk c.args.turn c.args.i c.args.span c.args.world.now c.produce.new.self c.produce.result c.requires.span c.produce.ensures)
    (produce-many c.args.world.now.state c.args.i c.args.world.now.setting (sink_cut c.args.turn c.args.span.to (instance_of c.args.i c.args.world.now.state))) c.requires.there

-- what it tells of its span is of the state before
module _ {D : Type 0} (G : Ghosts D) (turn i to : ℕ) (old new : WorldState D) (answer : Result Did WorldFault) where
  abbrev telling : Unit {0} → Did
  telling done = did.Produce (span_to turn to (instance_of i old.state))

  takes : Acts G (λ s. tells i (cuts old.setting i turn to s) telling) old new answer →
      Acts G (λ s. takes_cut old.setting i s turn (cut.Cut to)) old new answer
  takes = acts-is G (λ s. tells i (cuts old.setting i turn to s) telling) (λ s. takes_cut old.setting i s turn (cut.Cut to)) old new answer refl

pub returns-in-Ok : goal.returns-in-Ok
returns-in-Ok g c = takes g.D.Disk c.args.turn c.args.i c.args.span.to c.args.world.now c.produce.new.self (Ok (did.Produce c.args.span))
    (done-acts g.D.Disk c.args.i (cuts c.args.world.now.setting c.args.i c.args.turn c.args.span.to)
    (λ (done : Unit {0}). did.Produce (span_to c.args.turn c.args.span.to (instance_of c.args.i c.args.world.now.state))) c.args.world.now c.produce.new.self c.produce.result
    (produced g.D.Disk c.args.turn c.args.i c.args.span c.args.world.now c.produce.new.self c.produce.result c.requires.span c.produce.ensures)
    tt (did.Produce c.args.span) c.in-Ok.is (ap (λ (span : Span). did.Produce span) c.requires.span) refl)

pub returns-in-Err : goal.returns-in-Err
returns-in-Err g c = takes g.D.Disk c.args.turn c.args.i c.args.span.to c.args.world.now c.refuse.new.world c.refuse.result
    (refused-acts g.D.Disk c.args.i (cuts c.args.world.now.setting c.args.i c.args.turn c.args.span.to)
    (λ (done : Unit {0}). did.Produce (span_to c.args.turn c.args.span.to (instance_of c.args.i c.args.world.now.state))) c.args.world.now c.produce.new.self c.produce.result
    (produced g.D.Disk c.args.turn c.args.i c.args.span c.args.world.now c.produce.new.self c.produce.result c.requires.span c.produce.ensures)
    c.refuse.new.world c.in-Err.fault c.refuse.result c.in-Err.is c.refuse.ensures)
