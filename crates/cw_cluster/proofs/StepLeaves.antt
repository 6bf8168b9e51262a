-- What a step over a world and an outlet leaves of the cluster and of the files is what the turn of the instance leaves.
use Rattle.std.proofs.Common.{◌≡◌, ⊎_elim, ℕ, Bool, Option, Some, None, is_some, Result, Ok, Err, refl, sym, ap, ◌∙◌}
use Rattle.std.specs.Option.{option_map}
use Rattle.cw_io.specs.declared.outlet.Outlet as outlet
use Rattle.cw_io.specs.Shelf.{Files}
use Rattle.cw_disk.specs.declared.device.Disk.{Ghosts}
use Rattle.cw_model.specs.declared.did.Did.{Did}
use Rattle.cw_model.specs.declared.fault.WorldFault.{WorldFault}
use Rattle.cw_model.specs.declared.fault.WorldFault.TheVariants as fault
use Rattle.cw_model.specs.State.{Cluster}
use Rattle.cw_model.specs.Answers.{Answer}
use Rattle.cw_model.specs.Lookups.{instance_of}
use Rattle.cw_model.specs.Steps.{step}
use Rattle.cw_edges.specs.Handing.{file_of, with_delivery}
use Rattle.cw_world.specs.World.{WorldState, RunsOut, Breaks}
use Rattle.cw_sinktask.specs.declared.fault.SinkFault.TheVariants.{World, Outlet}
use Rattle.cw_run.specs.Deliveries.{delivery_of}
use Rattle.cw_run.specs.Ran.{Ran, ran_step, stepped_files, IsCutIn}
use Rattle.cw_run.proofs.Deliveries.{stepped-refused, stepped-done}
use Rattle.cw_cluster.specs.Stepping.{Steps}

-- ---- the step

-- files that are told before and behind alike
pub files-as : (f : Files → Files) (o p : Option Files) → is_some p ≡ is_some o → ((held : Files) → o ≡ Some held → p ≡ Some (f held)) → p ≡ option_map f o
files-as f None None told each = refl
files-as f None (Some left) told each = absurd (cc)
files-as f (Some held) p told each = each held refl

pub same-files : (o p : Option Files) → is_some p ≡ is_some o → ((held : Files) → o ≡ Some held → p ≡ Some held) → p ≡ o
same-files None None told each = refl
same-files None (Some left) told each = absurd (cc)
same-files (Some held) p told each = each held refl

module _ {D U : Type 0} (G : Ghosts D) (O : outlet.Ghosts U) (i : ℕ) (old new : WorldState D) (before after : U) (tells : Bool) where
  -- how far it ran before and behind
  abbrev pub ran_before : Ran
  ran_before = record { cluster = old.state; files = O.files before; tells = tells }

  abbrev pub ran_after : Ran
  ran_after = record { cluster = new.state; files = O.files after; tells = tells }

  abbrev done : Answer Did
  done = step old.setting i old.state

  turn-is : (result : Result Did WorldFault) → done ≡ (result, new.state) → O.files after ≡ stepped_files i old.state (O.files before) → ran_step old.setting i ran_before ≡ (result, ran_after)
  turn-is result row files =
      ap (λ (a : Answer Did). (a.0, record { cluster = a.1; files = stepped_files i old.state (O.files before); tells = tells })) row
      ∙ ap (λ (f : Option Files). (result, record { cluster = new.state; files = f; tells = tells })) (sym files)

  -- it was done
  pub step-done : (x : Did) → Steps G O i old new before after (Ok x) → ran_step old.setting i ran_before ≡ (Ok x, ran_after)
  step-done x steps = turn-is (Ok x) row files where
    row : done ≡ (Ok x, new.state)
    row = ⊎_elim (λ is. is) (λ stops. absurd (⊎_elim (λ (out : RunsOut G steps.world.log old new (Ok x)). let e : Ok x ≡ Err fault.Memory = out.answer in cc)
        (λ (breaks : Breaks G steps.world.log (step old.setting i) old new (Ok x)). let e : Ok x ≡ Err (fault.StoreFault breaks.disk breaks.count) = breaks.answer in cc) stops)) steps.world.answers

    files : O.files after ≡ stepped_files i old.state (O.files before)
    files =
        files-as (with_delivery (file_of (instance_of i old.state)) (delivery_of i old.state)) (O.files before) (O.files after) steps.told
        (λ held is. let left = steps.files held is in left.1 ∙ ap Some left.2)
        ∙ sym (stepped-done old.setting i old.state x (O.files before) (ap (λ (a : Answer Did). a.0) row))

  -- the world refused it, and the files are as they were
  pub refused-files : (why : WorldFault) → Steps G O i old new before after (Err (World why)) → O.files after ≡ O.files before
  refused-files why steps = same-files (O.files before) (O.files after) steps.told (λ held is. let left = steps.files held is in left.1 ∙ ap Some left.2)

  pub step-refused : (why : WorldFault) → Steps G O i old new before after (Err (World why)) → done ≡ (Err why, new.state) → ran_step old.setting i ran_before ≡ (Err why, ran_after)
  step-refused why steps row =
      turn-is (Err why) row (refused-files why steps ∙ sym (stepped-refused old.setting i old.state why (O.files before) (ap (λ (a : Answer Did). a.0) row)))

  -- memory was wanting
  pub step-short : (why : WorldFault) → Steps G O i old new before after (Err (World why)) → new.state ≡ old.state → ran_after ≡ ran_before
  step-short why steps same =
      ap (λ (s : Cluster). record { cluster = s; files = O.files after; tells = tells }) same
      ∙ ap (λ (f : Option Files). record { cluster = old.state; files = f; tells = tells }) (refused-files why steps)

  -- the outlet failed
  pub step-cut : Steps G O i old new before after (Err Outlet) → IsCutIn i ran_before ran_after
  step-cut steps = record { cluster = ap (λ (w : WorldState D). w.state) steps.world; tells = refl; told = steps.told; files = steps.files }
