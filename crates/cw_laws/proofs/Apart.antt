-- No other unfenced producer reads a part of this one.
use Rattle.std.proofs.Common.{◌≡◌, ◌≢◌, ℕ, Bool, true, false, Contains, List, Some, refl, sym, ap, subst}
use Rattle.std.proofs.lemmas.Bool.{false_from_ne_true}
use Rattle.std.specs.List.{AllByRecursion}
use Rattle.std.proofs.lemmas.Option.{slice_get_within, get_or_from_slice_get}
use Rattle.std.proofs.lemmas.List.Elements.{recursion_from_All, All-from_recursion, All-contains, All-contains_itself}
use Rattle.std.specs.List.{slice_get}
use Rattle.cw_types.specs.declared.ids.PartKey.{PartKey}
use Rattle.cw_types.specs.declared.ids.PartKey.TheVariants.{Raw, File, Seq, Sink}
use Rattle.cw_types.specs.declared.ids.TaskId.{TaskId}
use Rattle.cw_types.specs.declared.ids.Item.{Item}
use Rattle.cw_types.specs.Same.{same_part, connector_of}
use Rattle.cw_types.proofs.SameLemmas.{same_part-Decides}
use Rattle.cw_txn.specs.Allowed.{IsSourceOf, IsSinkOf}
use Rattle.cw_plugin.specs.Classes.{row_of}
use Rattle.cw_plugin.specs.declared.task.TaskSpec.{TaskSpec}
use Rattle.cw_model.specs.State.{Setting, Cluster}
use Rattle.cw_model.specs.Lookups.{instance_of, no_instance}
use Rattle.cw_model.specs.Tasks.{parts_of}
use Rattle.cw_model.specs.Facts.{AreFacts}
use Rattle.cw_model.specs.FactsRows.{IsSoundInstance, IsOfItem, IsTaskInstance}
use Rattle.cw_model.specs.FactsProducers.{IsOfTask, IsUnfenced}
use Rattle.cw_laws.proofs.Lists.{each-at, each-weaker}
use Rattle.cw_laws.proofs.TaskParts.{IsSpecOf}
use Rattle.cw_laws.proofs.AtWork.{HasSpec, has_spec, parts-spec}

source-connector : (connector : List ℕ) (p : PartKey) → IsSourceOf connector p → connector_of p ≡ Some connector
source-connector connector (Raw n) own = absurd own
source-connector connector (File a f) own = ap Some own
source-connector connector (Seq a i) own = ap Some own
source-connector connector (Sink a t) own = absurd own

sink-connector : (connector : List ℕ) (p : PartKey) → IsSinkOf connector p → connector_of p ≡ Some connector
sink-connector connector (Raw n) own = absurd own
sink-connector connector (File a f) own = absurd own
sink-connector connector (Seq a i) own = absurd own
sink-connector connector (Sink a t) own = ap Some own

-- the parts of a task are its connector's
pub spec-connector : (connector : List ℕ) (spec : TaskSpec) → IsSpecOf connector spec → AllByRecursion (λ p. connector_of p ≡ Some connector) spec.parts
spec-connector connector spec is = by (row_of spec.class).is_source refl where
  by : (b : Bool) → (row_of spec.class).is_source ≡ b → AllByRecursion (λ p. connector_of p ≡ Some connector) spec.parts
  by true source = each-weaker (IsSourceOf connector) (λ p. connector_of p ≡ Some connector) spec.parts (source-connector connector) (is.source source)
  by false sink = each-weaker (IsSinkOf connector) (λ p. connector_of p ≡ Some connector) spec.parts (sink-connector connector) (is.sink sink)

-- a task's instance, whatever its phase
pub spec_at : (s : Cluster) (n : ℕ) (id : TaskId) → AllByRecursion (IsSoundInstance s) s.instances → IsOfTask s n id → HasSpec id (instance_of n s)
spec_at s n id sound o =
    let here : IsSoundInstance s (instance_of n s) = each-at (IsSoundInstance s) s.instances n no_instance o.within sound in
    let of : IsTaskInstance s.configs id (instance_of n s) = subst (λ (item : Item). IsOfItem s.configs item (instance_of n s)) o.item here.of_item in
    has_spec id (instance_of n s) of.task

pub connectors_at : (s : Cluster) (n : ℕ) (id : TaskId) → AllByRecursion (IsSoundInstance s) s.instances → IsOfTask s n id →
    AllByRecursion (λ p. connector_of p ≡ Some id.connector) (parts_of (instance_of n s))
connectors_at s n id sound o =
    let h : HasSpec id (instance_of n s) = spec_at s n id sound o in
    subst (λ (parts : List PartKey). AllByRecursion (λ p. connector_of p ≡ Some id.connector) parts) (sym (parts-spec id (instance_of n s) h)) (spec-connector id.connector h.spec h.is)

pub contains-get : {X : Type 0} (xs : List X) (k : ℕ) (x : X) → slice_get xs k ≡ Some x → Contains xs x
contains-get xs k x is = (k, slice_get_within xs k x is, get_or_from_slice_get xs k x x is)

pub apart-parts : (setting : Setting) (s : Cluster) → AreFacts setting s → (m n : ℕ) (a b : TaskId) → m ≢ n → IsUnfenced s m a → IsUnfenced s n b →
    (part : PartKey) → Contains (parts_of (instance_of n s)) part → AllByRecursion (λ q. same_part q part ≡ false) (parts_of (instance_of m s))
apart-parts setting s f m n a b ne u v part there =
    let own : connector_of part ≡ Some b.connector = All-contains (λ p. connector_of p ≡ Some b.connector) (parts_of (instance_of n s)) part
    (All-from_recursion (λ p. connector_of p ≡ Some b.connector) (parts_of (instance_of n s)) (connectors_at s n b f.rows.instances v.last.is_task)) there in
    each-weaker (Contains (parts_of (instance_of m s))) (λ q. same_part q part ≡ false) (parts_of (instance_of m s)) (apart own)
    (recursion_from_All (Contains (parts_of (instance_of m s))) (parts_of (instance_of m s)) (All-contains_itself (parts_of (instance_of m s))))
  where
    apart : connector_of part ≡ Some b.connector → (q : PartKey) → Contains (parts_of (instance_of m s)) q → same_part q part ≡ false
    apart own q inside = false_from_ne_true (same_part q part) (λ same.
        let one : q ≡ part = (same_part-Decides q part).0 same in
        let of : connector_of q ≡ Some a.connector = All-contains (λ p. connector_of p ≡ Some a.connector) (parts_of (instance_of m s)) q
        (All-from_recursion (λ p. connector_of p ≡ Some a.connector) (parts_of (instance_of m s)) (connectors_at s m a f.rows.instances u.last.is_task)) inside in
        let equal : a.connector ≡ b.connector = cc in
        f.producers.apart m n a b ne u v equal q inside (subst (λ p. Contains (parts_of (instance_of n s)) p) (sym one) there))
