-- What a sink's task that polls hands out, and what its step comes to.
use Rattle.std.proofs.Common.{◌≡◌, ◌≢◌, ℕ, Bool, true, false, List, Option, Some, None, Result, Ok, Err, option_map, refl, sym, ◌∙◌, ap, subst, if◌then◌else◌}
use Rattle.cw_types.specs.declared.logs.DiskName.{DiskName}
use Rattle.cw_io.specs.Shelf.{Files}
use Rattle.cw_model.specs.declared.did.Did.{Did}
use Rattle.cw_model.specs.declared.did.Did.TheVariants as did
use Rattle.cw_model.specs.declared.fault.WorldFault.{WorldFault}
use Rattle.cw_model.specs.declared.fault.WorldFault.TheVariants.{Closed, Gone}
use Rattle.cw_model.specs.declared.instance.InstancePhase.{InstancePhase}
use Rattle.cw_model.specs.declared.instance.InstancePhase.TheVariants as phase
use Rattle.cw_model.specs.Answers.{Answer, answered, refused, unless_closed}
use Rattle.cw_model.specs.EventsSinks.{deliver, MayDeliver, sink_cut}
use Rattle.cw_model.specs.EventsSources.{IsIn}
use Rattle.cw_model.specs.Lookups.{instance_of}
use Rattle.cw_model.specs.Phases.{is_ended}
use Rattle.cw_model.specs.Polls.{Delivery, gathered, source_turn}
use Rattle.cw_model.specs.State.{Setting, Cluster}
use Rattle.cw_model.specs.Steps.{step, tells, polls_sink, polls_source, waits}
use Rattle.cw_model.specs.Tasks.{is_sink, taking}
use Rattle.cw_model.specs.Updates.{changes_instance}
use Rattle.cw_edges.specs.Handing.{file_of, hands_out, is_polling, with_delivery}
use Rattle.cw_edges.specs.Poured.{poured, IsPouredInPart}
use Rattle.cw_rows.specs.Kept.{open_test}
use Rattle.cw_sinktask.specs.declared.delivery.Delivery.{Delivery as FileDelivery}
use Rattle.cw_sinktask.specs.Gathered.{into_file}
use Rattle.cw_sinktask.specs.Sinks.{IsCutOff}
use Rattle.cw_sinktask.proofs.Turns.{gathered-due}
use Rattle.cw_tasks.proofs.Stepped.{step-does}

-- what is handed out into a file, by what is handed out
pub record IsInto (file : List ℕ) (o : Option Delivery) (d : FileDelivery) : Type 0 where
  pub delivery : Delivery
  pub given : o ≡ Some delivery
  pub is : into_file file delivery ≡ d

pub into : (file : List ℕ) (o : Option Delivery) (d : FileDelivery) → option_map (into_file file) o ≡ Some d → IsInto file o d
into file None d is = absurd (cc)
into file (Some delivery) d is = record { delivery = delivery; given = refl; is = cc }

pub into-none : (file : List ℕ) (o : Option Delivery) → option_map (into_file file) o ≡ None → o ≡ None
into-none file None is = refl
into-none file (Some delivery) is = absurd (cc)

-- what was done wasn't refused
pub not-refused : (r s : Result (Unit {0}) WorldFault) (fault : WorldFault) → r ≡ Ok tt → r ≡ s → s ≡ Err fault → ⊥
not-refused r s fault done same refused = cc

-- what a step tells of it
abbrev pub delivered : FileDelivery → Unit {0} → Did
delivered d done = did.Deliver d.topic d.from d.to

module _ (setting : Setting) (i : ℕ) (s : Cluster) where
  -- a task that waits hands nothing out
  pub hands-nothing-paused : waits (instance_of i s) s ≡ true → hands_out i s ≡ None
  hands-nothing-paused wait = ap (λ (b : Bool). if b then None else if is_polling (instance_of i s).phase then gathered (instance_of i s) s.batches else None) wait

  -- nor does one that doesn't poll hand anything out
  not-polling : (p : InstancePhase) → p ≢ phase.Polling → is_polling p ≡ false
  not-polling phase.Connector other = refl
  not-polling phase.New other = refl
  not-polling phase.Inited other = refl
  not-polling phase.Verified other = refl
  not-polling phase.Polling other = absurd (other refl)
  not-polling phase.Produced other = refl
  not-polling phase.Offered other = refl
  not-polling phase.Delivered other = refl
  not-polling phase.Failed other = refl
  not-polling phase.Ended other = refl

  pub hands-nothing : waits (instance_of i s) s ≡ false → (instance_of i s).phase ≢ phase.Polling → hands_out i s ≡ None
  hands-nothing goes_on other =
      ap (λ (b : Bool). if b then None else if is_polling (instance_of i s).phase then gathered (instance_of i s) s.batches else None) goes_on ∙
      ap (λ (b : Bool). if b then gathered (instance_of i s) s.batches else None) (not-polling (instance_of i s).phase other)

  -- the files are then as they were
  pub same-files : hands_out i s ≡ None → (held : Files) → held ≡ with_delivery (file_of (instance_of i s)) (hands_out i s) held
  same-files none held = sym (ap (λ (o : Option Delivery). with_delivery (file_of (instance_of i s)) o held) none)

module _ (setting : Setting) (i : ℕ) (s : Cluster) (goes_on : waits (instance_of i s) s ≡ false) (polling : IsIn phase.Polling i s) (sink : is_sink (instance_of i s) ≡ true) where
  abbrev found : Option Delivery
  found = gathered (instance_of i s) s.batches

  pub hands-out : hands_out i s ≡ found
  hands-out = ap (λ (b : Bool). if b then None else if is_polling (instance_of i s).phase then found else None) goes_on ∙
      ap (λ (p : InstancePhase). if is_polling p then found else None) polling

  pub step-polls : step setting i s ≡ polls_sink i s found
  step-polls = step-does setting i s goes_on phase.Polling polling ∙
      ap (λ (b : Bool). if b then polls_sink i s found else polls_source setting i s (source_turn setting.feeds (instance_of i s))) sink

  pub at-end : found ≡ None → step setting i s ≡ answered did.AtEnd s
  at-end none = step-polls ∙ ap (polls_sink i s) none

  pub nothing-left : found ≡ None → (held : Files) → held ≡ with_delivery (file_of (instance_of i s)) (hands_out i s) held
  nothing-left none = same-files setting i s (hands-out ∙ none)

  module _ (d : FileDelivery) (into : IsInto (file_of (instance_of i s)) found d) where
    pub may : MayDeliver i d.turn d.to s
    may = subst (λ (x : FileDelivery). MayDeliver i x.turn x.to s) into.is (let due = gathered-due (instance_of i s) s.batches into.delivery into.given in
        record { polling = polling; sink = sink; within = due.within; some = due.some; settled = due.settled })

    pub step-delivers : step setting i s ≡ tells i (deliver i d.turn d.to s) (delivered d)
    step-delivers = step-polls ∙ ap (polls_sink i s) into.given ∙
        ap (λ (x : FileDelivery). tells i (deliver i x.turn x.to s) (delivered x)) into.is

    pub all-poured : (held : Files) → poured d.file d.lines held ≡ with_delivery (file_of (instance_of i s)) (hands_out i s) held
    all-poured held = sym (ap (λ (x : FileDelivery). poured x.file x.lines held) into.is) ∙
        sym (ap (λ (o : Option Delivery). with_delivery (file_of (instance_of i s)) o held) (hands-out ∙ into.given))

    pub cut-off : (held left : Files) → IsPouredInPart d.file d.lines held left → IsCutOff i s held left
    cut-off held left part = record {
      delivery = into.delivery;
      is = hands-out ∙ into.given;
      part = subst (λ (x : FileDelivery). IsPouredInPart x.file x.lines held left) (sym into.is) part;
    }

    -- in an open world it is delivered
    pub is-delivered : s.closed ≡ None → (deliver i d.turn d.to s).0 ≡ Ok tt
    is-delivered none =
        ap (λ (o : Option (DiskName × ℕ)). (unless_closed o lives s).0) none ∙ ap (λ (p : InstancePhase). (if is_ended p then refused (Gone i) s else taken).0) polling
      where
        taken : Answer (Unit {0})
        taken = answered tt (changes_instance i (taking phase.Delivered (sink_cut d.turn d.to (instance_of i s))) s)

        lives : Answer (Unit {0})
        lives = if is_ended (instance_of i s).phase then refused (Gone i) s else taken

    -- a closed one says so
    pub is-closed : (fault : WorldFault) → open_test s.closed (Ok tt) ≡ Err fault → step setting i s ≡ (Err fault, s)
    is-closed fault closed = step-delivers ∙ at s.closed closed where
      taken : Answer (Unit {0})
      taken = (if is_ended (instance_of i s).phase then refused (Gone i) s else
          answered tt (changes_instance i (taking phase.Delivered (sink_cut d.turn d.to (instance_of i s))) s))

      at : (o : Option (DiskName × ℕ)) → open_test o (Ok tt) ≡ Err fault → tells i (unless_closed o taken s) (delivered d) ≡ (Err fault, s)
      at None is = absurd (cc)
      at (Some own) is = let same : Closed own.0 own.1 ≡ fault = cc in ap refusing same where
        refusing : WorldFault → Answer Did
        refusing f = refused f s
