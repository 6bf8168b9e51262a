use Rattle.std.proofs.Common.{◌≡◌, List, Result, Ok, Err, refl, sym, ap, ◌∙◌}
use Rattle.cw_config.specs.declared.records.ConfigRecord.{ConfigRecord}
use Rattle.cw_model.specs.declared.fault.WorldFault.{WorldFault}
use Rattle.cw_model.specs.declared.fault.WorldFault.TheVariants.{Memory}
use Rattle.cw_model.specs.Lookups.{configured_items}
use Rattle.cw_rows.specs.Kept.{Kept, worker_test}
use Rattle.cw_rows.proofs.Plans.{plan-stored}
use Rattle.cw_rows.proofs.cluster.Cluster.store_plan.Goals as goal

abbrev Done : Type 0
Done = Result (Unit {0}) WorldFault

done-wants-none : ◌≡◌ {A = Done} (Ok tt) (Err Memory) → ⊥
done-wants-none e = cc

pub returns-in-Ok-store_plan : goal.returns-in-Ok-store_plan
returns-in-Ok-store_plan c = rw (← c.self.view_is) record {
  done = λ _. plan-stored c.self.inside.topics c.self.inside.circle c.self.inside.crew c.self.inside.journal.items c.self.inside.closed c.args.w
      (ap (λ (k : Kept). worker_test c.args.w k.state) c.self.view_is ∙ sym c.in_ok-test_worker.ensures) c.as_slice.result.now
      (c.as_slice.ensures.value ∙ c.in-Ok.ensures.items ∙ ap (λ (l : List ConfigRecord). configured_items l) c.configs.ensures)
      c.store_plan.new.self c.in-Ok-store_plan.ensures;
  wants = λ e. absurd (done-wants-none e);
  setting = refl;
  logs = record { config = refl; offsets = refl; status = refl; txn = refl; batches = refl; closed = refl };
}
