use Rattle.std.proofs.Common.{◌≡◌, ℕ, Result, refl, sym, ap, ◌∙◌}
use Rattle.cw_types.specs.declared.logs.LogName.TheVariants.{Txn}
use Rattle.cw_disk.specs.declared.device.Disk.{Ghosts}
use Rattle.cw_model.specs.declared.did.Did.TheVariants as did
use Rattle.cw_model.specs.declared.fault.WorldFault.{WorldFault}
use Rattle.cw_model.specs.declared.instance.Instance.{Instance}
use Rattle.cw_model.specs.State.{Cluster}
use Rattle.cw_model.specs.Answers.{Answer}
use Rattle.cw_model.specs.EventsSinks.{put_sink}
use Rattle.cw_model.specs.Lookups.{instance_of}
use Rattle.cw_model.specs.Tasks.{cut_of}
use Rattle.cw_world.specs.World.{WorldState, Writes, Acts}
use Rattle.cw_world.proofs.Acting.{writes-acts}
use Rattle.cw_tasks.proofs.Staying.{put_sink-many, still-there}
use Rattle.cw_tasks.proofs.Told.{acts-is, done-acts, refused-acts}
use Rattle.cw_tasks.proofs.storing.at_delivered.Goals as goal

-- it stores how far it handed out
abbrev stores : ℕ → Cluster → Answer (Unit {0})
stores i s = put_sink i (cut_of (instance_of i s)).to s

stored : {D : Type 0} (G : Ghosts D) (i to : ℕ) (old mid : WorldState D) (result : Result (Unit {0}) WorldFault) → to ≡ (cut_of (instance_of i old.state)).to →
    Writes G Txn (put_sink i to) old mid result → Acts G (stores i) old mid result
stored G i to old mid result is writes =
    acts-is G (put_sink i to) (stores i) old mid result (ap (λ (n : ℕ). put_sink i n old.state) (sym is)) (writes-acts G (put_sink i to) old mid Txn result writes)

looked : (to i : ℕ) (own : Instance) (s t : Cluster) → to ≡ (cut_of own).to → own ≡ instance_of i t → t ≡ s → to ≡ (cut_of (instance_of i s)).to
looked to i own s t is instance state = is ∙ ap (λ (x : Instance). (cut_of x).to) instance ∙ ap (λ (u : Cluster). (cut_of (instance_of i u)).to) state

pub put_sink-requires-clause-may : goal.put_sink-requires-clause-may
put_sink-requires-clause-may g c = record {
  delivered = c.requires.phase;
  as_far = looked c.end_of_cut-to.result c.args.i c.instance_of.result.now c.args.world.now.state c.cluster.result.now.state c.end_of_cut-to.ensures c.instance_of.ensures c.cluster.ensures.state;
}

pub refuse-requires : goal.refuse-requires
refuse-requires g c = still-there g.D.Disk (stores c.args.i) c.args.world.now c.put_sink.new.self c.put_sink.result c.args.i
    (stored g.D.Disk c.args.i c.end_of_cut-to.result c.args.world.now c.put_sink.new.self c.put_sink.result
    (looked c.end_of_cut-to.result c.args.i c.instance_of.result.now c.args.world.now.state c.cluster.result.now.state c.end_of_cut-to.ensures c.instance_of.ensures c.cluster.ensures.state) c.put_sink.ensures)
    (put_sink-many c.args.world.now.state c.args.i (cut_of (instance_of c.args.i c.args.world.now.state)).to) c.requires.there

pub returns-in-Ok : goal.returns-in-Ok
returns-in-Ok g c = done-acts g.D.Disk c.args.i (stores c.args.i) (λ (done : Unit {0}). did.Offsets) c.args.world.now c.put_sink.new.self c.put_sink.result
    (stored g.D.Disk c.args.i c.end_of_cut-to.result c.args.world.now c.put_sink.new.self c.put_sink.result
    (looked c.end_of_cut-to.result c.args.i c.instance_of.result.now c.args.world.now.state c.cluster.result.now.state c.end_of_cut-to.ensures c.instance_of.ensures c.cluster.ensures.state) c.put_sink.ensures)
    tt did.Offsets c.in-Ok.is refl refl

pub returns-in-Err : goal.returns-in-Err
returns-in-Err g c = refused-acts g.D.Disk c.args.i (stores c.args.i) (λ (done : Unit {0}). did.Offsets) c.args.world.now c.put_sink.new.self c.put_sink.result
    (stored g.D.Disk c.args.i c.end_of_cut-to.result c.args.world.now c.put_sink.new.self c.put_sink.result
    (looked c.end_of_cut-to.result c.args.i c.instance_of.result.now c.args.world.now.state c.cluster.result.now.state c.end_of_cut-to.ensures c.instance_of.ensures c.cluster.ensures.state) c.put_sink.ensures)
    c.refuse.new.world c.in-Err.fault c.refuse.result c.in-Err.is c.refuse.ensures
