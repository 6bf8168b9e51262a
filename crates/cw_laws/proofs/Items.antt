-- Instances that end or fail: each such event keeps all facts.
use Rattle.std.proofs.Common.{◌&&◌, inl, inr, ℕ, Bool, true, false, Some, if◌then◌else◌, refl, arith}
use Rattle.cw_types.specs.declared.ids.Item.{Item}
use Rattle.cw_keys.specs.declared.state.State.{State}
use Rattle.cw_model.specs.declared.instance.Instance.{Instance}
use Rattle.cw_model.specs.declared.instance.Trace.{Trace}
use Rattle.cw_model.specs.declared.instance.InstancePhase.TheVariants as phase
use Rattle.cw_model.specs.State.{Setting, Cluster}
use Rattle.cw_model.specs.Lookups.{row_of, instance_of, is_at}
use Rattle.cw_model.specs.Updates.{changes_row, ends_instances, in_phase}
use Rattle.cw_model.specs.EventsWorkers.{kill, killed}
use Rattle.cw_model.specs.EventsItems.{stop_item, restart, runs, is_active}
use Rattle.cw_model.specs.EventsReports.{fail, reports, is_item_at}
use Rattle.cw_model.specs.Facts.{AreFacts}
use Rattle.cw_model.specs.FactsRows.{IsSoundRow}
use Rattle.cw_laws.proofs.Wrappers.{worker-keeps, instance-keeps}
use Rattle.cw_laws.proofs.Fading.{Fades, fades-same}
use Rattle.cw_laws.proofs.Workers.{sound_at, recede-row, recede-instance, recede-instances}

ends-fades : (b : Bool) (i : Instance) → Fades i (if b then in_phase phase.Ended i else i)
ends-fades true i = record { phase = phase.Ended; last = i.last; trace = i.trace; reported = i.reported; is = refl; how = inr refl; ended = λ over. refl }
ends-fades false i = fades-same i

pub stop_item-keeps : (setting : Setting) (i : ℕ) (s : Cluster) → AreFacts setting s → AreFacts setting (stop_item i s).1
stop_item-keeps setting i s f = instance-keeps (AreFacts setting) i s _ f
    (λ lives. recede-instance setting i (in_phase phase.Ended) s (ends-fades true (instance_of i s)) f)

pub fail-keeps : (setting : Setting) (i : ℕ) (trace : Trace) (s : Cluster) → AreFacts setting s → AreFacts setting (fail i trace s).1
fail-keeps setting i trace s f = instance-keeps (AreFacts setting) i s _ f
    (λ lives. recede-instance setting i (λ instance. record instance { phase = phase.Failed; trace = Some trace }) s
    record {
      phase = phase.Failed;
      last = (instance_of i s).last;
      trace = Some trace;
      reported = (instance_of i s).reported;
      is = refl;
      how = inr refl;
      ended = λ over. absurd (cc);
    } f)

pub ends-keep : (setting : Setting) (test : Instance → Bool) (s : Cluster) → AreFacts setting s → AreFacts setting (ends_instances test s)
ends-keep setting test s f = recede-instances setting (λ i. if test i then in_phase phase.Ended i else i) s (λ i. ends-fades (test i) i) f

pub kill-keeps : (setting : Setting) (w : ℕ) (s : Cluster) → AreFacts setting s → AreFacts setting (kill w s).1
kill-keeps setting w s f = worker-keeps (AreFacts setting) w s _ f
    (λ live. let sound : IsSoundRow s (row_of w s) = sound_at s f.rows w in
    ends-keep setting (is_at w) (changes_row w killed s) (recede-row setting w killed s
    record { member = record { incarnation = refl; phase = refl; assigned = refl; revoked = refl }; prefix = omega arith; fences = λ lead fencing a b. (a, b) }
    record { prefix = sound.prefix; lead = sound.lead; fencing = sound.fencing; round = sound.round } f))

pub restart-keeps : (setting : Setting) (w : ℕ) (item : Item) (s : Cluster) → AreFacts setting s → AreFacts setting (restart w item s).1
restart-keeps setting w item s f = worker-keeps (AreFacts setting) w s _ f (λ live. ends-keep setting (λ i. runs item i && is_active s i.worker) s f)

reported-fades : (b : Bool) (state : State) (i : Instance) → Fades i (if b then record i { reported = Some state } else i)
reported-fades true state i = record { phase = i.phase; last = i.last; trace = i.trace; reported = Some state; is = refl; how = inl refl; ended = λ over. over }
reported-fades false state i = fades-same i

pub reports-keep : (setting : Setting) (w : ℕ) (item : Item) (state : State) (s : Cluster) → AreFacts setting s → AreFacts setting (reports w item state s)
reports-keep setting w item state s f = recede-instances setting (λ i. if is_item_at w item i then record i { reported = Some state } else i) s (λ i. reported-fades (is_item_at w item i) state i) f
