-- The group, what is lost, the delay and the rows change: only the facts of the group, and that rows are sound and fence as before, are to be shown.
use Rattle.std.proofs.Common.{◌≡◌, ◌≢◌, ℕ, ◌==◌, ◌≤◌, ◌∷◌, [], Bool, true, false, not, cond, List, Option, Some, None, option_map, length, if◌then◌else◌, refl, subst, arith}
use Rattle.std.specs.List.{AllByRecursion, find}
use Rattle.cw_types.specs.declared.ids.Epoch.{Epoch}
use Rattle.cw_group.specs.declared.member.Member.{Member}
use Rattle.cw_group.specs.declared.answers.Phase.{Phase}
use Rattle.cw_group.specs.declared.answers.Phase.TheVariants.{Open, Closed, Planned}
use Rattle.cw_group.specs.declared.answers.GroupFault.{GroupFault}
use Rattle.cw_group.specs.declared.answers.GroupFault.TheVariants.{OldGeneration}
use Rattle.cw_group.specs.Phases.{is_open}
use Rattle.cw_group.specs.Members.{member_of, lowest_missing_in}
use Rattle.cw_group.specs.Group.{GroupState, close_row, close_refusal, is_missing}
use Rattle.cw_model.specs.declared.row.Fencing.{Fencing}
use Rattle.cw_model.specs.State.{Setting, Cluster}
use Rattle.cw_model.specs.Lookups.{row_of, instance_of}
use Rattle.cw_model.specs.EventsGroups.{close_round}
use Rattle.cw_model.specs.EventsWorkers.{most_workers}
use Rattle.cw_model.specs.Facts.{AreFacts}
use Rattle.cw_model.specs.FactsGroup.{GroupFacts}
use Rattle.cw_model.specs.FactsRows.{IsSoundRow, IsSoundInstance}
use Rattle.cw_laws.proofs.Wrappers.{worker-keeps, group-keeps}
use Rattle.cw_laws.proofs.Lists.{each-weaker}
use Rattle.cw_laws.proofs.Grows.{grows-frame, journal-stays}
use Rattle.cw_laws.proofs.Frames.{logs-frame, exact-frame, backed-frame}
use Rattle.cw_laws.proofs.Disjoint.{group-disjoint}
use Rattle.cw_laws.proofs.Fading.{fades-same, producers-fade}
use Rattle.cw_laws.proofs.Sound.{HasMore, sound_row-grows, sound_instance-grows}
use Rattle.cw_laws.proofs.Sync.{Did, call-done}

pub record RowsStay (s t : Cluster) : Type 0 where
  pub count : length t.rows ≡ length s.rows
  pub sound : AllByRecursion (IsSoundRow s) t.rows
  pub read : (w : ℕ) → (row_of w s).prefix ≤ (row_of w t).prefix
  pub fences : (w : ℕ) (lead : Epoch) (fencing : Fencing) → (row_of w t).lead ≡ Some lead → (row_of w t).fencing ≡ Some fencing →
      ((row_of w s).lead ≡ Some lead) × ((row_of w s).fencing ≡ Some fencing)

abbrev pub regrouped : Cluster → Cluster → Cluster
regrouped s t = record s { group = t.group; lost = t.lost; delay = t.delay; rows = t.rows }

pub regroup : (setting : Setting) (s t : Cluster) → RowsStay s t → GroupFacts (regrouped s t) → AreFacts setting s → AreFacts setting (regrouped s t)
regroup setting s t r group f =
    let few : length s.rows ≤ most_workers = f.rows.few in
    let count : length t.rows ≡ length s.rows = r.count in
    let grows : HasMore s (regrouped s t) = record { rows = omega (arith, count); epochs = omega arith; entries = omega arith } in
    record {
      safe = record { disjoint = group-disjoint (regrouped s t) group; fenced = f.safe.fenced; exact = exact-frame setting s (regrouped s t) f.safe.exact; backed = backed-frame s (regrouped s t) f.safe.backed };
      group = group;
      logs = logs-frame setting s (regrouped s t) f.logs;
      rows = record {
        few = omega (arith, count, few);
        rows = each-weaker (IsSoundRow s) (IsSoundRow (regrouped s t)) t.rows (sound_row-grows s (regrouped s t) grows) r.sound;
        instances = each-weaker (IsSoundInstance s) (IsSoundInstance (regrouped s t)) s.instances (sound_instance-grows s (regrouped s t) grows) f.rows.instances;
      };
      producers = producers-fade setting s (regrouped s t) record { count = refl; fencing = r.fences } (λ n. fades-same (instance_of n s)) f.producers;
      journal = journal-stays setting s (regrouped s t) (grows-frame s (regrouped s t) r.read) f.journal;
    }

-- ---- a round is closed

first-missing : (b : Bool) (m : Member) (members : List Member) → m.joined ≡ b →
    (is_missing (lowest_missing_in members) ≡ None → AllByRecursion (λ m. m.joined ≡ true) members) →
    is_missing (option_map (λ (m : Member). m.worker) (cond (not b) (Some m) (find (λ m. not m.joined) members))) ≡ None → AllByRecursion (λ m. m.joined ≡ true) (m ∷ members)
first-missing true m members is rest none = (is, rest none)
first-missing false m members is rest none = absurd (cc)

none-missing : (members : List Member) → is_missing (lowest_missing_in members) ≡ None → AllByRecursion (λ m. m.joined ≡ true) members
none-missing [] none = tt
none-missing (m ∷ members) none = first-missing m.joined m members refl (none-missing members) none

closes-open : (group : GroupState) (phase : Phase) (b : Bool) (missing : Option GroupFault) →
    (if not (is_open phase) then Some (OldGeneration group.round) else if not b then Some (OldGeneration group.round) else missing) ≡ None → (phase ≡ Open) × (missing ≡ None)
closes-open group Open true missing none = (refl, none)
closes-open group Open false missing none = absurd (cc)
closes-open group Closed b missing none = absurd (cc)
closes-open group Planned b missing none = absurd (cc)

abbrev closed : GroupState → GroupState
closed s = record { round = s.round; phase = Closed; made = s.made; members = s.members; planned = s.planned }

close-done : (setting : Setting) (s : Cluster) → s.group.phase ≡ Open → is_missing (lowest_missing_in s.group.members) ≡ None →
    AreFacts setting s → AreFacts setting (record s { group = closed s.group })
close-done setting s is_open' missing f =
    let t : Cluster = record s { group = closed s.group } in
    let unplanned : s.group.phase ≢ Planned = λ planned. cc in
    regroup setting s t record { count = refl; sound = f.rows.rows; read = λ w. omega arith; fences = λ w lead fencing a b. (a, b) }
    record {
      rising = f.group.rising;
      apart = f.group.apart;
      held = λ w claim c. f.group.held w claim record { member = c.member; there = c.there; current = c.current; is_claim = c.is_claim };
      assigned = λ w claim c. f.group.assigned w claim record { member = c.member; there = c.there; current = c.current; is_claim = c.is_claim };
      known = f.group.known;
      no_repeat = f.group.no_repeat;
      in_order = λ other. f.group.in_order unplanned;
      all_joined = λ is. none-missing s.group.members missing;
      waiting = λ other. f.group.waiting unplanned;
      within = λ planned. absurd (cc);
      once = λ planned. absurd (cc);
      told = λ planned. absurd (cc);
      all_given = λ planned. absurd (cc);
      round = f.group.round;
    }
    f

pub close_round-keeps : (setting : Setting) (w : ℕ) (s : Cluster) → AreFacts setting s → AreFacts setting (close_round w s).1
close_round-keeps setting w s f = worker-keeps (AreFacts setting) w s _ f (λ live. group-keeps (AreFacts setting) s (close_row w s.group.round s.group) _ f (λ did so.
    let call : Did (member_of w s.group.members) (λ m. close_refusal s.group.round s.group) (λ m. closed s.group) did =
    call-done (member_of w s.group.members) (λ m. close_refusal s.group.round s.group) (λ m. closed s.group) did so in
    let parts = closes-open s.group s.group.phase (s.group.round == s.group.round) (is_missing (lowest_missing_in s.group.members)) call.allowed in
    subst (λ group. AreFacts setting (record s { group = group })) call.is (close-done setting s parts.0 parts.1 f)))
