-- A task that is to write its offset: what it took is of a source's part, and its transaction isn't marked.
use Rattle.std.proofs.Common.{◌≡◌, ℕ, ◌∷◌, ◌==◌, ◌<◌, Bool, true, false, [], length, List, Option, Some, None, Result, Ok, Err, unwrap_or, if◌then◌else◌, refl, sym, subst}
use Rattle.std.specs.Option.{IsSomeAnd}
use Rattle.std.specs.List.{AllByRecursion}
use Rattle.cw_types.specs.declared.ids.Item.{Item}
use Rattle.cw_types.specs.declared.ids.Item.TheVariants.{Connector, Task}
use Rattle.cw_types.specs.declared.ids.PartKey.{PartKey}
use Rattle.cw_types.specs.declared.ids.PartKey.TheVariants.{Raw, File, Seq, Sink}
use Rattle.cw_types.specs.declared.ids.Tag.{Tag}
use Rattle.cw_types.specs.declared.ids.TaskId.{TaskId}
use Rattle.cw_types.specs.declared.ids.Tid.TheVariants as producer
use Rattle.cw_config.specs.declared.records.ConfigRecord.{ConfigRecord}
use Rattle.cw_keys.specs.Parts.{is_raw}
use Rattle.cw_offset.specs.Log.{is_marked}
use Rattle.cw_txn.specs.Allowed.{IsSourceOf}
use Rattle.cw_model.specs.declared.fault.WorldFault.{WorldFault}
use Rattle.cw_model.specs.declared.instance.Cut.{Cut}
use Rattle.cw_model.specs.declared.instance.Instance.{Instance}
use Rattle.cw_model.specs.declared.instance.InstancePhase.TheVariants as phase
use Rattle.cw_model.specs.State.{Setting, Cluster}
use Rattle.cw_model.specs.EventsSources.{MayPutOffsets}
use Rattle.cw_model.specs.Facts.{AreFacts}
use Rattle.cw_model.specs.FactsProducers.{IsBelow, commit_tags, commits_up_to}
use Rattle.cw_model.specs.FactsRows.{IsSoundInstance, IsOfItem}
use Rattle.cw_model.specs.Lookups.{instance_of, no_instance, last_epoch}
use Rattle.cw_model.specs.Tasks.{parts_of, cut_of, tag_of, span_of, is_source}
use Rattle.cw_model.specs.Updates.{epoch_in, tid_of}
use Rattle.cw_laws.proofs.AtWork.{HasSpec, has_spec, parts-spec, spec-source, IsAtWork, at-work, verified-has, tag_of-is}
use Rattle.cw_laws.proofs.Below.{own_tag, not_committed}
use Rattle.cw_laws.proofs.Lists.{each-at}
use Rattle.cw_laws.proofs.PutOffsets.{unmarked}
use Rattle.cw_rows.specs.Producing.{producer_test, writing_test}
use Rattle.cw_rows.specs.Kept.{instance_test}
use Rattle.cw_rows.proofs.DataDue.{second-passed}
use Rattle.cw_world.proofs.Topics.{no-source}

-- ---- its part

source-part : (connector : List ℕ) (part : PartKey) → IsSourceOf connector part → is_raw part ≡ false
source-part connector (Raw n) own = absurd own
source-part connector (File a feed) own = refl
source-part connector (Seq a index) own = refl
source-part connector (Sink a topic) own = refl

none-raw : (connector : List ℕ) (parts : List PartKey) → AllByRecursion (IsSourceOf connector) parts → AllByRecursion (λ p. is_raw p ≡ false) parts
none-raw connector [] each = tt
none-raw connector (part ∷ parts) each = (source-part connector part each.0, none-raw connector parts each.1)

turn-in : (o : Option Cut) (n : ℕ) → IsSomeAnd o (λ cut. cut.turn < n) → (unwrap_or o (record { turn = 0; from = 0; to = 0 })).turn < n
turn-in None n none = absurd none
turn-in (Some cut) n within = within

task-part : (id : TaskId) (j : Instance) → HasSpec id j → is_source j ≡ true → IsSomeAnd j.cut (λ cut. cut.turn < length (parts_of j)) → is_raw (span_of j).part ≡ false
task-part id j h source cut =
    let all : AllByRecursion (λ p. is_raw p ≡ false) (parts_of j) =
    subst (λ (parts : List PartKey). AllByRecursion (λ p. is_raw p ≡ false) parts) (sym (parts-spec id j h)) (none-raw id.connector h.spec.parts (h.is.source (spec-source id j h source))) in
    each-at (λ p. is_raw p ≡ false) (parts_of j) (cut_of j).turn (Raw 0) (turn-in j.cut (length (parts_of j)) cut) all

item-part : (records : List ConfigRecord) (item : Item) (j : Instance) → IsOfItem records item j → is_source j ≡ true → IsSomeAnd j.cut (λ cut. cut.turn < length (parts_of j)) →
    is_raw (span_of j).part ≡ false
item-part records (Connector name) j own source cut = let none : is_source j ≡ false = no-source j own in absurd (cc)
item-part records (Task id) j own source cut = task-part id j (has_spec id j own.task) source cut

abbrev unless_fenced : Bool → WorldFault → Result (Unit {0}) WorldFault
unless_fenced last fault = if last then Ok tt else Err fault

is-current : (last : Bool) (fault : WorldFault) → unless_fenced last fault ≡ Ok tt → last ≡ true
is-current true fault passed = refl
is-current false fault passed = absurd (cc)

module _ (setting : Setting) (s : Cluster) (i : ℕ) (facts : AreFacts setting s) (within : i < length s.instances) (may : MayPutOffsets i s) where
  sound : IsSoundInstance s (instance_of i s)
  sound = each-at (IsSoundInstance s) s.instances i no_instance within facts.rows.instances

  pub not-raw : is_raw (span_of (instance_of i s)).part ≡ false
  not-raw = item-part s.configs (instance_of i s).item (instance_of i s) sound.of_item (sound.source (rw may refl)) (sound.cut (rw may refl))

  -- ---- its transaction

  at-own : writing_test i s ≡ Ok tt → (id : TaskId) × IsAtWork s i id
  at-own passed = at-work s i within sound (rw may refl)
      (is-current (epoch_in (instance_of i s).epoch == last_epoch (tid_of (instance_of i s).item) s) _ (second-passed (instance_test i s) (producer_test i s) passed))

  of-task : (id : TaskId) → IsAtWork s i id → is_marked (tag_of (instance_of i s)) s.offsets.frames ≡ false
  of-task id w =
      let epoch : ℕ = last_epoch (producer.Task id) s in
      let number : ℕ = (instance_of i s).number in
      let below : AllByRecursion (IsBelow id epoch number) (commit_tags s) = subst (λ (n : ℕ). AllByRecursion (IsBelow id epoch n) (commit_tags s)) (up-to (instance_of i s) may)
      (facts.producers.numbers i id epoch w.unfenced.last (verified-has (instance_of i s).phase w.unfenced.verified)).commits in
      subst (λ (tag : Tag). is_marked tag s.offsets.frames ≡ false) (sym (tag_of-is s i id epoch w.unfenced.last))
      (unmarked s.entries (own_tag id epoch number) refl (not_committed id epoch number s.entries below) [] s.offsets.frames facts.logs.offsets)
    where
      up-to : (j : Instance) → j.phase ≡ phase.Produced → commits_up_to j ≡ j.number
      up-to j is = rw is refl

  pub not-marked : writing_test i s ≡ Ok tt → is_marked (tag_of (instance_of i s)) s.offsets.frames ≡ false
  not-marked passed = of-task (at-own passed).0 (at-own passed).1
