use Rattle.std.proofs.Common.{◌≡◌, ℕ, Ok, Result, sym, ap, ◌∙◌}
use Rattle.cw_model.specs.declared.did.Did.{Did}
use Rattle.cw_model.specs.declared.fault.WorldFault.{WorldFault}
use Rattle.cw_model.specs.Answers.{Answer}
use Rattle.cw_model.specs.EventsSinks.{deliver}
use Rattle.cw_model.specs.Lookups.{instance_of}
use Rattle.cw_model.specs.Polls.{gathered}
use Rattle.cw_model.specs.State.{Cluster}
use Rattle.cw_model.specs.Steps.{step, tells}
use Rattle.cw_edges.specs.Handing.{file_of}
use Rattle.cw_sinktask.specs.declared.delivery.Delivery.{Delivery}
use Rattle.cw_sinktask.proofs.Delivered.{into, may, delivered, step-delivers, is-delivered, not-refused}
use Rattle.cw_sinktask.proofs.delivering.deliver.Goals as goal

pub deliver-requires-clause-may : goal.deliver-requires-clause-may
deliver-requires-clause-may g c =
    let old = c.args.world.now in
    let own = instance_of c.args.i old.state in
    may old.setting c.args.i old.state c.requires.goes_on c.requires.phase c.requires.sink c.args.delivery (into (file_of own) (gathered own old.state.batches) c.args.delivery c.requires.gathered)

-- the step's row, by the event's
row : (s : Cluster) (t : Cluster) (i : ℕ) (d : Delivery) (done : Answer Did) (r : Result (Unit {0}) WorldFault) (told : Did) → done ≡ tells i (deliver i d.turn d.to s) (delivered d) →
    deliver i d.turn d.to s ≡ (r, t) → r ≡ Ok tt → told ≡ delivered d tt → done ≡ (Ok told, t)
row s t i d done r told is event ok says =
    is ∙ ap (λ (a : Answer (Unit {0})). tells i a (delivered d)) event ∙ ap (λ (x : Result (Unit {0}) WorldFault). tells i (both x) (delivered d)) ok ∙ ap answer (sym says) where
      both : Result (Unit {0}) WorldFault → Answer (Unit {0})
      both x = (x, t)

      answer : Did → Answer Did
      answer x = (Ok x, t)

pub returns : goal.returns
returns g c =
    let old = c.args.world.now in
    let own = instance_of c.args.i old.state in
    let d = c.args.delivery in
    let is = step-delivers old.setting c.args.i old.state c.requires.goes_on c.requires.phase c.requires.sink d (into (file_of own) (gathered own old.state.batches) d c.requires.gathered) in
    record {
      row = row old.state c.deliver.new.self.state c.args.i d (step old.setting c.args.i old.state) c.deliver.result c.told_of.result is c.deliver.ensures.row c.in-Ok.is c.told_of.ensures;
      setting = c.deliver.ensures.setting;
      logs = c.deliver.ensures.logs;
      name = c.deliver.ensures.name;
    }

pub unreachable-requires : goal.unreachable-requires
unreachable-requires g c =
    let old = c.args.world.now in
    let own = instance_of c.args.i old.state in
    let d = c.args.delivery in
    let done = is-delivered old.setting c.args.i old.state c.requires.goes_on c.requires.phase c.requires.sink d (into (file_of own) (gathered own old.state.batches) d c.requires.gathered) c.requires.open_world in
    not-refused (deliver c.args.i d.turn d.to old.state).0 c.deliver.result c.in-Err.field-0 done (ap (λ (a : Answer (Unit {0})). a.0) c.deliver.ensures.row) c.in-Err.is
