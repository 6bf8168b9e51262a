-- A leader that fences one producer keeps all facts.
use Rattle.std.proofs.Common.{◌≡◌, ◌≢◌, ◌⊎◌, inl, inr, ℕ, ◌==◌, ◌&&◌, ◌+◌, ◌<◌, ◌≤◌, ◌∷◌, [], Bool, true, false, List, Option, Some, None, IsSome, length, unwrap_or, if◌then◌else◌, refl, sym, subst, ap, ◌∙◌, arith, get_or-set_same}
use Rattle.std.specs.Str.{bytes_eq}
use Rattle.std.proofs.Math.ListN.{length-set}
use Rattle.cw_types.specs.declared.ids.Tid.{Tid}
use Rattle.cw_types.specs.declared.ids.Tid.TheVariants as producer
use Rattle.cw_types.specs.declared.ids.TaskId.{TaskId}
use Rattle.cw_config.specs.View.{fenced_count_of, generation_of}
use Rattle.cw_model.specs.ConfigsAllowed.{AreAllowedConfigs}
use Rattle.cw_laws.proofs.Configs.{seen-generation, pending-generation, generation-name, found_count-fits}
use Rattle.cw_laws.proofs.Grows.{grows-row, journal-stays}
use Rattle.cw_bytes.specs.Spelling.{IsTid}
use Rattle.cw_config.specs.Records.{has_key}
use Rattle.cw_keys.specs.declared.config_key.ConfigKey.TheVariants.{Fencing as Fenced}
use Rattle.cw_txn.specs.declared.entry.Entry.TheVariants.{Bump}
use Rattle.cw_model.specs.declared.row.Row.{Row}
use Rattle.cw_model.specs.declared.row.Fencing.{Fencing}
use Rattle.cw_model.specs.State.{Setting, Cluster}
use Rattle.cw_model.specs.Lookups.{row_of, seen, no_row, instance_of, last_epoch}
use Rattle.cw_model.specs.Updates.{with_entries, fits_entries, changes_row, epoch_in}
use Rattle.cw_model.specs.EventsLeading.{fence_one, MayFence, fencing_of, fencing_on, fenced_tid, going_on, new_fencing}
use Rattle.cw_model.specs.Facts.{AreFacts}
use Rattle.cw_model.specs.FactsRows.{IsSoundRow, IsSoundInstance, IsBegun}
use Rattle.cw_model.specs.FactsProducers.{ProducerFacts, Writes, IsUnfenced, IsNewest, IsFencing, IsToBeFenced, HasUsed, batches_up_to, commits_up_to}
use Rattle.cw_laws.proofs.Wrappers.{worker-keeps, entries-keeps, leader-keeps}
use Rattle.cw_laws.proofs.Lists.{each-set, each-weaker, set-cases, reads-set}
use Rattle.cw_laws.proofs.Frames.{logs-frame, exact-frame, backed-frame}
use Rattle.cw_laws.proofs.Rows.{SameMember, same_member, StaysMember, disjoint-stays, group-stays}
use Rattle.cw_laws.proofs.Sound.{HasMore, sound_row-grows, sound_instance-grows}
use Rattle.cw_laws.proofs.AtInstance.{writes-frame, unfenced-frame, newest-frame}
use Rattle.cw_laws.proofs.Workers.{sound_at}
use Rattle.cw_laws.proofs.Bump.{bump-keeps, unfenced-before}
use Rattle.std.proofs.lemmas.Bool.Decides.{Decides-eqb}
use Rattle.cw_types.specs.declared.ids.Epoch.{Epoch}
use Rattle.cw_laws.proofs.Leading.{without_lead-keeps}
use Rattle.cw_laws.proofs.Init.{last-bumped}
use Rattle.cw_laws.proofs.Sync.{live-within}

-- rows alone change: of producers, only who fences is to be shown
module _ (setting : Setting) (s : Cluster) (rows : List Row) where
  abbrev t : Cluster
  t = record s { rows = rows }

  writes : (n : ℕ) (id : TaskId) (epoch : ℕ) → Writes t n id epoch → Writes s n id epoch
  writes n id epoch o = writes-frame s t n id epoch o

  pub unfenced : (n : ℕ) (id : TaskId) → IsUnfenced t n id → IsUnfenced s n id
  unfenced n id o = unfenced-frame s t n id o

  newest : (n : ℕ) (id : TaskId) → IsNewest t n id → IsNewest s n id
  newest n id o = newest-frame s t n id o

  pub producers-rows : ((w n : ℕ) (fencing : Fencing) (id : TaskId) → IsFencing t w fencing → IsUnfenced s n id → id.connector ≡ fencing.connector →
      (instance_of n s).generation < fencing.generation → IsToBeFenced fencing id.index) → ProducerFacts setting s → ProducerFacts setting t
  producers-rows fences f = record {
    generation = λ n id u. f.generation n id (unfenced n id u);
    counted = λ n id u. f.counted n id (unfenced n id u);
    positions = λ n id u. f.positions n id (unfenced n id u);
    apart = λ m n a b ne u v. f.apart m n a b ne (unfenced m a u) (unfenced n b v);
    task = λ n id u. f.task n id (newest n id u);
    one_batch = λ n id epoch u. f.one_batch n id epoch (writes n id epoch u);
    fencing = λ w n fencing id leads u. fences w n fencing id leads (unfenced n id u);
    not_ahead = λ n id u. f.not_ahead n id (newest n id u);
    apart_epochs = λ m n id epoch ne u v. f.apart_epochs m n id epoch ne (writes m id epoch u) (writes n id epoch v);
    known_epochs = λ n id epoch u. f.known_epochs n id epoch (writes n id epoch u);
    numbers = λ n id epoch u has.
        let used : HasUsed s id epoch (batches_up_to (instance_of n s)) (commits_up_to (instance_of n s)) = f.numbers n id epoch (writes n id epoch u) has in
        record { batches = used.batches; commits = used.commits };
  }

abbrev task_at : List ℕ → ℕ → TaskId
task_at connector index = record { connector = connector; index = index }

-- a fencing that goes on is the leader's own, or has just begun
going-choice : (b : Bool) (begun own : Fencing) → (Some own ≡ Some (if b then own else begun)) ⊎ ((if b then own else begun) ≡ begun)
going-choice true begun own = inl refl
going-choice false begun own = inr refl

pub going-cases : (begun : Fencing) (own : Option Fencing) → (own ≡ Some (going_on begun own)) ⊎ (going_on begun own ≡ begun)
going-cases begun None = inr refl
going-cases begun (Some own) = going-choice (bytes_eq own.connector begun.connector && (own.generation == begun.generation)) begun own

module _ (setting : Setting) (w : ℕ) (name : List ℕ) (s : Cluster) (within : w < length s.rows) (f : AreFacts setting s)
    (leads : (row_of w s).lead ≡ Some (record { 0 = last_epoch producer.Lead s })) (begun : IsBegun s.configs (Some (fencing_of w name s)))
    (left : (fencing_of w name s).next < (fencing_of w name s).count) (room : fits_entries (Bump (fenced_tid (fencing_of w name s)) ∷ []) s ≡ true) where
  abbrev fencing : Fencing
  fencing = fencing_of w name s

  abbrev tid : Tid
  tid = fenced_tid fencing

  abbrev bumped : Cluster
  bumped = with_entries (Bump tid ∷ []) s

  abbrev u : Cluster
  u = changes_row w (fencing_on fencing) bumped

  -- the bump names a task that a commit was of
  tid-fits : IsTid tid
  tid-fits = (
    generation-name fencing.connector s.configs (λ newest. fencing.generation ≤ newest) f.logs.configs.allowed begun.generation,
    omega (arith, begun.count, left),
  )

  g : AreFacts setting bumped
  g = bump-keeps setting tid s tid-fits room f

  own : row_of w u ≡ fencing_on fencing (row_of w s)
  own = get_or-set_same s.rows w (fencing_on fencing (row_of w s)) no_row within

  -- an older producer of the connector that isn't fenced yet, before
  to_be_fenced : (n : ℕ) (id : TaskId) → IsUnfenced s n id → id.connector ≡ fencing.connector → (instance_of n s).generation < fencing.generation → IsToBeFenced fencing id.index
  to_be_fenced n id o same older = elim (going-cases (new_fencing w name s) (row_of w s).fencing) [
    | inl keeps ↦ f.producers.fencing w n fencing id record { leads = leads; keeps = keeps } o same older
    | inr new ↦ record {
      later = omega (arith, ap (λ (fencing : Fencing). fencing.next) new);
      counted =
          let connector : id.connector ≡ name = same ∙ ap (λ (fencing : Fencing). fencing.connector) new in
          let below : id.index < fenced_count_of name s.configs = subst (λ (name : List ℕ). id.index < fenced_count_of name s.configs) connector (f.producers.counted n id o) in
          omega (arith, below, ap (λ (fencing : Fencing). fencing.count) new);
    }
  ]

  before : (n : ℕ) (id : TaskId) → IsUnfenced bumped n id → IsUnfenced s n id × (id ≢ record { connector = fencing.connector; index = fencing.next })
  before n id o = (
    unfenced-before setting tid s f n id o,
    λ same.
        let wrote : Writes s n id (last_epoch (producer.Task id) bumped) = writes-frame s bumped n id (last_epoch (producer.Task id) bumped) o.last in
        let last : last_epoch (producer.Task id) bumped ≡ last_epoch (producer.Task id) s + 1 =
        subst (λ (i : TaskId). last_epoch (producer.Task i) bumped ≡ last_epoch (producer.Task i) s + 1) (sym same) (last-bumped tid s) in
        omega (arith, last, f.producers.known_epochs n id (last_epoch (producer.Task id) bumped) wrote),
  )

  still-left : (n : ℕ) (id : TaskId) → IsUnfenced bumped n id → id.connector ≡ fencing.connector → (instance_of n s).generation < fencing.generation →
      IsToBeFenced (record fencing { next = fencing.next + 1 }) id.index
  still-left n id o same older =
      let was = before n id o in
      let old : IsToBeFenced fencing id.index = to_be_fenced n id was.0 same older in
      let other : id.index ≢ fencing.next = λ e. was.1 (ap (λ (c : List ℕ). task_at c id.index) same ∙ ap (λ (k : ℕ). task_at fencing.connector k) e) in
      record { later = omega (arith, old.later, other); counted = old.counted }

  cases : (v : ℕ) → (v ≡ w) ⊎ (row_of v u ≡ row_of v s)
  cases = set-cases s.rows w (fencing_on fencing (row_of w s)) no_row

  fences : (v n : ℕ) (other : Fencing) (id : TaskId) → IsFencing u v other → IsUnfenced bumped n id → id.connector ≡ other.connector →
      (instance_of n s).generation < other.generation → IsToBeFenced other id.index
  fences v n other id isf o same older = elim (cases v) [
    | inl here ↦
        let keeps : (row_of w u).fencing ≡ Some other = subst (λ v. (row_of v u).fencing ≡ Some other) here isf.keeps in
        let some : Some (record fencing { next = fencing.next + 1 }) ≡ Some other = sym (ap (λ row. row.fencing) own) ∙ keeps in
        let is : record fencing { next = fencing.next + 1 } ≡ other = cc in
        subst (λ (x : Fencing). IsToBeFenced x id.index) is
        (still-left n id o (same ∙ sym (ap (λ (x : Fencing). x.connector) is)) (subst (λ (x : Fencing). (instance_of n s).generation < x.generation) (sym is) older))
    | inr as_before ↦ g.producers.fencing v n other id
        record { leads = sym (ap (λ row. row.lead) as_before) ∙ isf.leads; keeps = sym (ap (λ row. row.fencing) as_before) ∙ isf.keeps } o same older
  ]

  pub fence-done : AreFacts setting u
  fence-done =
      let size : length u.rows ≡ length s.rows = length-set s.rows w (fencing_on fencing (row_of w s)) in
      let few : length s.rows ≤ 64 = f.rows.few in
      let grows : HasMore bumped u = record { rows = omega (arith, size); epochs = omega arith; entries = omega arith } in
      let sound : IsSoundRow bumped (row_of w s) = sound_at bumped g.rows w in
      let stays : StaysMember bumped u = record {
        rows = reads-set SameMember s.rows w (fencing_on fencing (row_of w s)) no_row same_member record { incarnation = refl; phase = refl; assigned = refl; revoked = refl };
        held = λ v x holds. holds;
      } in
      record {
        safe = record { disjoint = disjoint-stays bumped u stays g.safe.disjoint; fenced = g.safe.fenced; exact = exact-frame setting bumped u g.safe.exact; backed = backed-frame bumped u g.safe.backed };
        group = group-stays bumped u stays g.group;
        logs = logs-frame setting bumped u g.logs;
        rows = record {
          few = omega (arith, size, few);
          rows = each-weaker (IsSoundRow bumped) (IsSoundRow u) u.rows (sound_row-grows bumped u grows)
              (each-set (IsSoundRow bumped) s.rows w (fencing_on fencing (row_of w s)) record { prefix = sound.prefix; lead = sound.lead; fencing = record { generation = begun.generation; count = begun.count; next = omega (arith, left) }; round = sound.round } g.rows.rows);
          instances = each-weaker (IsSoundInstance bumped) (IsSoundInstance u) s.instances (sound_instance-grows bumped u grows) g.rows.instances;
        };
        producers = producers-rows setting bumped u.rows fences g.producers;
        journal = journal-stays setting bumped u (grows-row w (fencing_on fencing) bumped (omega arith)) g.journal;
      }

pub lead-is : (lead : Option Epoch) (n : ℕ) → IsSome lead → (epoch_in lead == n) ≡ true → lead ≡ Some (record { 0 = n })
lead-is None n some same = absurd (cc)
lead-is (Some epoch) n some same =
    let equal : epoch.0 ≡ n = (Decides-eqb epoch.0 n).0 same in
    ap (λ (k : ℕ). Some (record { 0 = k })) equal

-- what a leader has begun to fence is of a generation that is there
is_begun : (w : ℕ) (name : List ℕ) (s : Cluster) → MayFence w name s → AreAllowedConfigs [] s.configs → IsSoundRow s (row_of w s) →
    IsBegun s.configs (Some (fencing_of w name s))
is_begun w name s may allowed sound = elim (going-cases (new_fencing w name s) (row_of w s).fencing) [
  | inl keeps ↦ subst (λ o. IsBegun s.configs o) keeps sound.fencing
  | inr new ↦ subst (λ (x : Fencing). IsBegun s.configs (Some x)) (sym new)
      record {
        generation = seen-generation name (row_of w s).prefix (unwrap_or (generation_of name (seen w s)) 0) s.configs allowed (pending-generation name (seen w s) may.pending);
        count = found_count-fits (has_key (Fenced name)) s.configs allowed;
        next = omega arith;
      }
]

pub fence_one-keeps : (setting : Setting) (w : ℕ) (name : List ℕ) (s : Cluster) → MayFence w name s →
    AreFacts setting s → AreFacts setting (fence_one w name s).1
fence_one-keeps setting w name s may f = worker-keeps (AreFacts setting) w s _ f (λ live.
    leader-keeps (AreFacts setting) w s _ (without_lead-keeps setting w s f) (λ own.
    entries-keeps (AreFacts setting) s (Bump (fenced_tid (fencing_of w name s)) ∷ []) _ _ f (λ room.
    fence-done setting w name s (live-within w s live) f (lead-is (row_of w s).lead (last_epoch producer.Lead s) may.leads own)
    (is_begun w name s may f.logs.configs.allowed (sound_at s f.rows w)) may.left room)))
