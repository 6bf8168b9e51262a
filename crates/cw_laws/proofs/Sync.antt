-- A worker that is told its share keeps all facts.
use Rattle.std.proofs.Common.{◌≡◌, ◌⊎◌, inl, inr, ℕ, ◌==◌, ◌<◌, ◌≤◌, ◌++◌, ◌∷◌, [], Bool, true, false, not, List, Option, Some, None, Ok, unwrap_or, length, if◌then◌else◌, refl, sym, subst, ap, ◌∙◌, arith, get_or-set_same}
use Rattle.std.specs.List.{AllByRecursion}
use Rattle.std.proofs.Math.ListN.{length-set}
use Rattle.cw_types.specs.declared.ids.Item.{Item}
use Rattle.cw_types.specs.declared.ids.Epoch.{Epoch}
use Rattle.cw_types.specs.declared.ids.Tid.TheVariants.{Lead}
use Rattle.cw_assign.specs.Items.{has}
use Rattle.cw_group.specs.declared.member.Member.{Member}
use Rattle.cw_group.specs.declared.answers.Phase.{Phase}
use Rattle.cw_group.specs.declared.answers.Phase.TheVariants.{Open, Closed, Planned}
use Rattle.cw_group.specs.declared.answers.GroupFault.{GroupFault}
use Rattle.cw_group.specs.declared.answers.GroupFault.TheVariants.{OldGeneration, NoPlan}
use Rattle.cw_group.specs.declared.answers.Synced.{Synced}
use Rattle.cw_group.specs.Phases.{is_open, is_closed}
use Rattle.cw_group.specs.Members.{member_of, lowest_in}
use Rattle.cw_group.specs.Group.{for_member, unless, synced, sync_row, sync_refusal}
use Rattle.cw_model.specs.declared.row.Row.{Row}
use Rattle.cw_model.specs.declared.row.Fencing.{Fencing}
use Rattle.cw_model.specs.declared.row.RowPhase.TheVariants.{Stable}
use Rattle.cw_model.specs.State.{Setting, Cluster}
use Rattle.cw_model.specs.Lookups.{row_of, no_row, is_member, instance_of, last_epoch}
use Rattle.cw_model.specs.Updates.{changes_row, epoch_in}
use Rattle.cw_model.specs.EventsGroups.{sync, stable_with}
use Rattle.cw_model.specs.Facts.{AreFacts}
use Rattle.cw_model.specs.FactsGroup.{GroupFacts, AreAmong, Claims, IsAsTold, IsWithinPlan}
use Rattle.cw_model.specs.FactsRows.{IsSoundRow, IsSoundInstance}
use Rattle.cw_laws.proofs.Wrappers.{worker-keeps, group-keeps}
use Rattle.cw_laws.proofs.Lists.{each-set, each-weaker, set-cases, read-cases}
use Rattle.cw_laws.proofs.Grows.{grows-row, journal-stays}
use Rattle.cw_laws.proofs.Frames.{logs-frame, exact-frame, backed-frame}
use Rattle.cw_laws.proofs.Held.{has-in_order}
use Rattle.cw_laws.proofs.Disjoint.{group-disjoint, first-or}
use Rattle.cw_laws.proofs.Fading.{fades-same, producers-fade}
use Rattle.cw_laws.proofs.Sound.{HasMore, sound_row-grows, sound_instance-grows}
use Rattle.cw_laws.proofs.Workers.{sound_at}

-- a worker that lives is there
pub live-within : (w : ℕ) (s : Cluster) → (row_of w s).live ≡ true → w < length s.rows
live-within w s live = elim (read-cases s.rows w no_row) [
  | inl within ↦ within
  | inr none ↦ absurd (let dead : false ≡ true = subst (λ (row : Row). row.live ≡ true) none live in cc)
]

-- what a call of a member did that was not refused
pub record Did {A : Type 0} (o : Option Member) (refusal : Member → Option GroupFault) (done : Member → A) (did : A) : Type 0 where
  pub member : Member
  pub there : o ≡ Some member
  pub allowed : refusal member ≡ None
  pub is : done member ≡ did

unless-done : {A : Type 0} (refusal : Option GroupFault) (done did : A) → unless refusal done ≡ Ok did → (refusal ≡ None) × (done ≡ did)
unless-done None done did so = (refl, cc)
unless-done (Some fault) done did so = absurd (cc)

pub call-done : {A : Type 0} (o : Option Member) (refusal : Member → Option GroupFault) (done : Member → A) (did : A) →
    for_member o (λ m. unless (refusal m) (done m)) ≡ Ok did → Did o refusal done did
call-done None refusal done did so = absurd (cc)
call-done (Some m) refusal done did so = let parts = unless-done (refusal m) (done m) did so in record { member = m; there = refl; allowed = parts.0; is = parts.1 }

sync-planned : (b : Bool) (round : ℕ) (phase : Phase) →
    (if not b then Some (OldGeneration round) else if is_open phase then Some (OldGeneration round) else if is_closed phase then Some NoPlan else None) ≡ None → phase ≡ Planned
sync-planned false round phase so = absurd (cc)
sync-planned true round Open so = absurd (cc)
sync-planned true round Closed so = absurd (cc)
sync-planned true round Planned so = refl

pub each-member : (P : Member → Type 0) (w : ℕ) (members : List Member) (m : Member) → member_of w members ≡ Some m → AllByRecursion P members → P m
each-member P w [] m found each = absurd (cc)
each-member P w (o ∷ members) m found each = elim (first-or (o.worker == w) o m (member_of w members) found) [
  | inl here ↦ subst P here.1 each.0
  | inr there ↦ each-member P w members m there each.1
]

some-lowest : (w : ℕ) (members : List Member) (m : Member) → member_of w members ≡ Some m → lowest_in members ≡ Some (unwrap_or (lowest_in members) w)
some-lowest w [] m found = absurd (cc)
some-lowest w (o ∷ members) m found = refl

lead-before : (b : Bool) (lead : Option Epoch) (epoch : Epoch) → (if b then lead else None) ≡ Some epoch → lead ≡ Some epoch
lead-before true lead epoch is = is
lead-before false lead epoch is = absurd (cc)

lead-sound : (b : Bool) (lead : Option Epoch) (n : ℕ) → epoch_in lead ≤ n → epoch_in (if b then lead else None) ≤ n
lead-sound true lead n sound = sound
lead-sound false lead n sound = omega arith

module _ (setting : Setting) (w : ℕ) (s : Cluster) (within : w < length s.rows) (m : Member) (there : member_of w s.group.members ≡ Some m)
    (planned : s.group.phase ≡ Planned) (f : AreFacts setting s) where
  abbrev told : Synced
  told = synced w s.group m

  abbrev t : Cluster
  t = changes_row w (stable_with w told) s

  own : row_of w t ≡ stable_with w told (row_of w s)
  own = get_or-set_same s.rows w (stable_with w told (row_of w s)) no_row within

  cases : (v : ℕ) → (v ≡ w) ⊎ (row_of v t ≡ row_of v s)
  cases = set-cases s.rows w (stable_with w told (row_of w s)) no_row

  incarnations : (v : ℕ) → (row_of v t).incarnation ≡ (row_of v s).incarnation
  incarnations v = elim (cases v) [
    | inl same ↦ subst (λ u. (row_of u t).incarnation ≡ (row_of u s).incarnation) (sym same) (ap (λ row. row.incarnation) own)
    | inr other ↦ ap (λ row. row.incarnation) other
  ]

  members : (v : ℕ) → is_member v t ≡ is_member v s
  members v = rw (incarnations v) refl

  claims-before : (v : ℕ) (claim : List Item) → Claims t v claim → Claims s v claim
  claims-before v claim c = record { member = c.member; there = c.there; current = rw (← members v) c.current; is_claim = c.is_claim }

  own-assigned : (claim : List Item) → Claims s w claim → AreAmong told.assigned claim
  own-assigned claim c x holds =
      let plan : IsWithinPlan s.group.planned m = each-member (IsWithinPlan s.group.planned) w s.group.members m there (f.group.within planned) in
      let listed : has (m.share.kept ++ m.share.fresh) x ≡ true = sym (has-in_order x (m.share.kept ++ m.share.fresh)) ∙ holds in
      let member : m ≡ c.member = let e : Some m ≡ Some c.member = sym there ∙ c.there in cc in
      subst (λ items. has items x ≡ true) (ap (λ m. m.claim) member ∙ c.is_claim) (plan.claimed x listed)

  own-told : (leader : ℕ) → (row_of w t).phase ≡ Stable s.group.round leader → IsAsTold t w leader
  own-told leader stable =
      let phase : Stable told.round told.leader ≡ Stable s.group.round leader = sym (ap (λ row. row.phase) own) ∙ stable in
      let leads : told.leader ≡ leader = cc in
      record {
        member = m;
        there = there;
        lowest = some-lowest w s.group.members m there ∙ ap (λ n. Some n) leads;
        assigned = ap (λ row. row.assigned) own;
        revoked = ap (λ row. row.revoked) own;
      }

  other-told : (v leader : ℕ) → row_of v t ≡ row_of v s → is_member v t ≡ true → (row_of v t).phase ≡ Stable s.group.round leader → IsAsTold t v leader
  other-told v leader other current stable =
      let old : IsAsTold s v leader = f.group.told planned v leader (rw (← members v) current) (sym (ap (λ row. row.phase) other) ∙ stable) in
      record { member = old.member; there = old.there; lowest = old.lowest; assigned = ap (λ row. row.assigned) other ∙ old.assigned; revoked = ap (λ row. row.revoked) other ∙ old.revoked }

  group : GroupFacts t
  group = record {
    rising = f.group.rising;
    apart = f.group.apart;
    held = λ v claim c. f.group.held v claim (claims-before v claim c);
    assigned = λ v claim c. elim (cases v) [
      | inl same ↦ subst (λ items. AreAmong items claim) (sym (ap (λ u. (row_of u t).assigned) same ∙ ap (λ row. row.assigned) own))
          (own-assigned claim (subst (λ u. Claims s u claim) same (claims-before v claim c)))
      | inr other ↦ subst (λ items. AreAmong items claim) (sym (ap (λ row. row.assigned) other)) (f.group.assigned v claim (claims-before v claim c))
    ];
    known = λ v member found. rw (members v) (f.group.known v member found);
    no_repeat = f.group.no_repeat;
    in_order = f.group.in_order;
    all_joined = f.group.all_joined;
    waiting = λ unplanned. absurd (unplanned planned);
    within = f.group.within;
    once = f.group.once;
    told = λ _ v leader current stable. elim (cases v) [
      | inl same ↦ subst (λ u. IsAsTold t u leader) (sym same) (own-told leader (subst (λ u. (row_of u t).phase ≡ Stable s.group.round leader) same stable))
      | inr other ↦ other-told v leader other current stable
    ];
    all_given = f.group.all_given;
    round = f.group.round;
  }

  fences : (v : ℕ) (lead : Epoch) (fencing : Fencing) → (row_of v t).lead ≡ Some lead → (row_of v t).fencing ≡ Some fencing →
      ((row_of v s).lead ≡ Some lead) × ((row_of v s).fencing ≡ Some fencing)
  fences v lead fencing a b = elim (cases v) [
    | inl same ↦ subst (λ u. ((row_of u s).lead ≡ Some lead) × ((row_of u s).fencing ≡ Some fencing)) (sym same) (
      lead-before (told.leader == w) (row_of w s).lead lead (sym (ap (λ row. row.lead) own) ∙ subst (λ u. (row_of u t).lead ≡ Some lead) same a),
      sym (ap (λ row. row.fencing) own) ∙ subst (λ u. (row_of u t).fencing ≡ Some fencing) same b,
    )
    | inr other ↦ (sym (ap (λ row. row.lead) other) ∙ a, sym (ap (λ row. row.fencing) other) ∙ b)
  ]

  pub sync-done : AreFacts setting t
  sync-done =
      let size : length t.rows ≡ length s.rows = length-set s.rows w (stable_with w told (row_of w s)) in
      let few : length s.rows ≤ 64 = f.rows.few in
      let grows : HasMore s t = record { rows = omega (arith, size); epochs = omega arith; entries = omega arith } in
      let sound : IsSoundRow s (row_of w s) = sound_at s f.rows w in
      record {
        safe = record { disjoint = group-disjoint t group; fenced = f.safe.fenced; exact = exact-frame setting s t f.safe.exact; backed = backed-frame s t f.safe.backed };
        group = group;
        logs = logs-frame setting s t f.logs;
        rows = record {
          few = omega (arith, size, few);
          rows = each-weaker (IsSoundRow s) (IsSoundRow t) t.rows (sound_row-grows s t grows)
              (each-set (IsSoundRow s) s.rows w (stable_with w told (row_of w s)) record { prefix = sound.prefix; lead = lead-sound (told.leader == w) (row_of w s).lead (last_epoch Lead s) sound.lead; fencing = sound.fencing; round = f.group.round } f.rows.rows);
          instances = each-weaker (IsSoundInstance s) (IsSoundInstance t) s.instances (sound_instance-grows s t grows) f.rows.instances;
        };
        producers = producers-fade setting s t record { count = refl; fencing = fences } (λ n. fades-same (instance_of n s)) f.producers;
        journal = journal-stays setting s t (grows-row w (stable_with w told) s (omega arith)) f.journal;
      }

pub sync-keeps : (setting : Setting) (w : ℕ) (s : Cluster) → AreFacts setting s → AreFacts setting (sync w s).1
sync-keeps setting w s f = worker-keeps (AreFacts setting) w s _ f (λ live. group-keeps (AreFacts setting) s (sync_row w s.group.round s.group) _ f (λ told so.
    let did : Did (member_of w s.group.members) (λ m. sync_refusal s.group.round s.group) (synced w s.group) told =
    call-done (member_of w s.group.members) (λ m. sync_refusal s.group.round s.group) (synced w s.group) told so in
    subst (λ told. AreFacts setting (changes_row w (stable_with w told) s)) did.is
    (sync-done setting w s (live-within w s live) did.member did.there (sync-planned (s.group.round == s.group.round) s.group.round s.group.phase did.allowed) f)))
