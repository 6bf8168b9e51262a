-- The events of workers: each keeps all facts.
use Rattle.std.proofs.Common.{◌≡◌, ℕ, ◌<◌, ◌≤◌, ◌++◌, ◌∷◌, [], true, false, Some, length, map, ◌+◌, nat_lt, slice_set, refl, arith, length-append}
use Rattle.std.specs.List.{AllByRecursion}
use Rattle.std.proofs.Math.ListN.{length-set}
use Rattle.std.proofs.lemmas.List.{length-map}
use borrow.Author.Tests.{ltb-true}
use Rattle.cw_types.specs.declared.ids.Epoch.{Epoch}
use Rattle.cw_model.specs.declared.row.Fencing.{Fencing}
use Rattle.cw_model.specs.declared.row.Row.{Row}
use Rattle.cw_model.specs.declared.instance.Instance.{Instance}
use Rattle.cw_model.specs.declared.fault.WorldFault.TheVariants.{TooMany}
use Rattle.cw_model.specs.State.{Setting, Cluster}
use Rattle.cw_model.specs.Lookups.{row_of, instance_of, no_row, no_instance, new_row}
use Rattle.cw_model.specs.Answers.{answered, refused}
use Rattle.cw_model.specs.Updates.{changes_row, changes_instance}
use Rattle.cw_model.specs.EventsWorkers.{spawn, deaf, hear, most_workers}
use Rattle.cw_model.specs.Facts.{AreFacts}
use Rattle.cw_model.specs.FactsRows.{RowFacts, IsSoundRow, IsSoundInstance}
use Rattle.cw_laws.proofs.Wrappers.{worker-keeps, closed-keeps, if-keeps}
use Rattle.cw_laws.proofs.Lists.{each-set, each-push, each-weaker, each-read, each-reads, reads-set, reads-push, reads-map}
use Rattle.cw_laws.proofs.Frames.{logs-frame, exact-frame, backed-frame}
use Rattle.cw_laws.proofs.Grows.{grows-frame, journal-stays}
use Rattle.cw_laws.proofs.Rows.{SameMember, same_member, StaysMember, disjoint-stays, group-stays}
use Rattle.cw_laws.proofs.Fading.{Fades, fades-same, Fencers, producers-fade}
use Rattle.cw_laws.proofs.Held.{held-fades}
use Rattle.cw_laws.proofs.Sound.{HasMore, sound_row-grows, sound_instance-grows, sound_instance-fades}

-- a row says the same of membership, has read as much at least, and fences at most as it did
pub record SameRow (r q : Row) : Type 0 where
  pub member : SameMember r q
  pub prefix : r.prefix ≤ q.prefix
  pub fences : (lead : Epoch) (fencing : Fencing) → q.lead ≡ Some lead → q.fencing ≡ Some fencing → (r.lead ≡ Some lead) × (r.fencing ≡ Some fencing)

pub same_row : (r : Row) → SameRow r r
same_row r = record { member = same_member r; prefix = omega arith; fences = λ lead fencing a b. (a, b) }

-- t is s, but that rows changed in what no fact but that of rows tells, or there are more, and some instances faded
pub record Recedes (s t : Cluster) : Type 0 where
  pub rows : (w : ℕ) → SameRow (row_of w s) (row_of w t)
  pub more : length s.rows ≤ length t.rows
  pub few : length t.rows ≤ most_workers
  pub sound : AllByRecursion (IsSoundRow s) t.rows
  pub count : length t.instances ≡ length s.instances
  pub each : (n : ℕ) → Fades (instance_of n s) (instance_of n t)

abbrev elsewhere : Cluster → Cluster → Cluster
elsewhere s t = record s { rows = t.rows; instances = t.instances }

row_facts : (s t : Cluster) → Recedes s t → RowFacts s → RowFacts (elsewhere s t)
row_facts s t r f =
    let grows : HasMore s (elsewhere s t) = record { rows = r.more; epochs = omega arith; entries = omega arith } in
    record {
      few = r.few;
      rows = each-weaker (IsSoundRow s) (IsSoundRow (elsewhere s t)) t.rows (sound_row-grows s (elsewhere s t) grows) r.sound;
      instances = each-weaker (IsSoundInstance s) (IsSoundInstance (elsewhere s t)) t.instances (sound_instance-grows s (elsewhere s t) grows)
          (each-reads (IsSoundInstance s) Fades s.instances t.instances no_instance r.count r.each (sound_instance-fades s) f.instances);
    }

pub recede : (setting : Setting) (s t : Cluster) → Recedes s t → AreFacts setting s → AreFacts setting (elsewhere s t)
recede setting s t r f =
    let same : StaysMember s (elsewhere s t) = record { rows = λ w. (r.rows w).member; held = held-fades s (elsewhere s t) r.each } in
    let fencers : Fencers s (elsewhere s t) = record { count = r.count; fencing = λ w. (r.rows w).fences } in
    record {
      safe = record {
        disjoint = disjoint-stays s (elsewhere s t) same f.safe.disjoint;
        fenced = f.safe.fenced;
        exact = exact-frame setting s (elsewhere s t) f.safe.exact;
        backed = backed-frame s (elsewhere s t) f.safe.backed;
      };
      group = group-stays s (elsewhere s t) same f.group;
      logs = logs-frame setting s (elsewhere s t) f.logs;
      rows = row_facts s t r f.rows;
      producers = producers-fade setting s (elsewhere s t) fencers r.each f.producers;
      journal = journal-stays setting s (elsewhere s t) (grows-frame s (elsewhere s t) (λ w. (r.rows w).prefix)) f.journal;
    }

pub sound_no_row : (s : Cluster) → IsSoundRow s no_row
sound_no_row s = record { prefix = omega arith; lead = omega arith; fencing = tt; round = omega arith }

pub sound_at : (s : Cluster) → RowFacts s → (w : ℕ) → IsSoundRow s (row_of w s)
sound_at s f w = each-read (IsSoundRow s) s.rows w no_row (sound_no_row s) f.rows

-- ---- a row

-- a row changed in nothing that facts tell
pub recede-row : (setting : Setting) (w : ℕ) (change : Row → Row) (s : Cluster) → SameRow (row_of w s) (change (row_of w s)) →
    IsSoundRow s (change (row_of w s)) → AreFacts setting s → AreFacts setting (changes_row w change s)
recede-row setting w change s same sound f =
    let size : length (slice_set s.rows w (change (row_of w s))) ≡ length s.rows = length-set s.rows w (change (row_of w s)) in
    let few : length s.rows ≤ most_workers = f.rows.few in
    recede setting s (changes_row w change s)
    record {
      rows = reads-set SameRow s.rows w (change (row_of w s)) no_row same_row same;
      more = omega (arith, size);
      few = omega (arith, size, few);
      sound = each-set (IsSoundRow s) s.rows w (change (row_of w s)) sound f.rows.rows;
      count = refl;
      each = λ n. fades-same (instance_of n s);
    }
    f

-- ---- instances

pub recede-instance : (setting : Setting) (i : ℕ) (change : Instance → Instance) (s : Cluster) → Fades (instance_of i s) (change (instance_of i s)) →
    AreFacts setting s → AreFacts setting (changes_instance i change s)
recede-instance setting i change s fades f =
    recede setting s (changes_instance i change s)
    record {
      rows = λ w. same_row (row_of w s);
      more = omega arith;
      few = f.rows.few;
      sound = f.rows.rows;
      count = length-set s.instances i (change (instance_of i s));
      each = reads-set Fades s.instances i (change (instance_of i s)) no_instance fades-same fades;
    }
    f

-- each instance is changed so that it fades
pub recede-instances : (setting : Setting) (change : Instance → Instance) (s : Cluster) → ((i : Instance) → Fades i (change i)) →
    AreFacts setting s → AreFacts setting (record s { instances = map change s.instances })
recede-instances setting change s fades f =
    recede setting s (record s { instances = map change s.instances })
    record {
      rows = λ w. same_row (row_of w s);
      more = omega arith;
      few = f.rows.few;
      sound = f.rows.rows;
      count = length-map s.instances change;
      each = reads-map Fades change s.instances no_instance (fades-same no_instance) fades;
    }
    f

pub deaf-keeps : (setting : Setting) (w : ℕ) (s : Cluster) → AreFacts setting s → AreFacts setting (deaf w s).1
deaf-keeps setting w s f = worker-keeps (AreFacts setting) w s (answered tt (changes_row w (λ row. record row { hearing = false }) s)) f
    (λ live. let sound : IsSoundRow s (row_of w s) = sound_at s f.rows w in
    recede-row setting w (λ row. record row { hearing = false }) s
    record { member = record { incarnation = refl; phase = refl; assigned = refl; revoked = refl }; prefix = omega arith; fences = λ lead fencing a b. (a, b) }
    record { prefix = sound.prefix; lead = sound.lead; fencing = sound.fencing; round = sound.round } f)

-- the shape with the event left to be found
pub hear-keeps : (setting : Setting) (w : ℕ) (s : Cluster) → AreFacts setting s → AreFacts setting (hear w s).1
hear-keeps setting w s f = worker-keeps (AreFacts setting) w s _ f
    (λ live. let sound : IsSoundRow s (row_of w s) = sound_at s f.rows w in
    recede-row setting w (λ row. record row { hearing = true }) s
    record { member = record { incarnation = refl; phase = refl; assigned = refl; revoked = refl }; prefix = omega arith; fences = λ lead fencing a b. (a, b) }
    record { prefix = sound.prefix; lead = sound.lead; fencing = sound.fencing; round = sound.round } f)

pub spawn-keeps : (setting : Setting) (s : Cluster) → AreFacts setting s → AreFacts setting (spawn s).1
spawn-keeps setting s f = closed-keeps (AreFacts setting) s s.closed _ f
    (if-keeps (AreFacts setting) (nat_lt (length s.rows) most_workers)
    (answered (length s.rows) (record s { rows = s.rows ++ new_row ∷ [] })) (refused TooMany s)
    (λ fewer. let t : Cluster = record s { rows = s.rows ++ new_row ∷ [] } in
    let below : length s.rows < most_workers = ltb-true (length s.rows) most_workers fewer in
    let size : length (s.rows ++ new_row ∷ []) ≡ length s.rows + 1 = length-append s.rows (new_row ∷ []) in
    let few : length (s.rows ++ new_row ∷ []) ≤ most_workers = omega (arith, size, below) in
    recede setting s t
    record {
      rows = reads-push SameRow s.rows new_row no_row same_row record { member = record { incarnation = refl; phase = refl; assigned = refl; revoked = refl }; prefix = omega arith; fences = λ lead fencing a b. (a, b) };
      more = omega (arith, size);
      few = few;
      sound = each-push (IsSoundRow s) s.rows new_row record { prefix = omega arith; lead = omega arith; fencing = tt; round = omega arith } f.rows.rows;
      count = refl;
      each = λ n. fades-same (instance_of n s);
    }
    f)
    (λ many. f))
