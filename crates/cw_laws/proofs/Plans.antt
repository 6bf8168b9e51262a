-- The leader's plan: all facts stay, since a valid plan gives members what nobody may run, and nothing twice.
use Rattle.std.proofs.Common.{◌≡◌, ℕ, ◌<◌, ◌==◌, Bool, true, false, not, List, [], ◌∷◌, length, Some, None, unwrap_or, if◌then◌else◌, refl, sym, ap, ◌∙◌, subst, arith}
use Rattle.std.specs.Option.{is_some}
use Rattle.std.specs.List.{filter, filter_map, flat_map}
use Rattle.cw_types.specs.declared.ids.Item.{Item}
use Rattle.cw_assign.specs.declared.delay.Delay.{Delay}
use Rattle.cw_assign.specs.declared.delay.Delay.TheVariants.{Idle}
use Rattle.cw_assign.specs.declared.share.Share.{Share}
use Rattle.cw_assign.specs.declared.share.Plan.{Plan}
use Rattle.cw_assign.specs.Plan.{plan_of}
use Rattle.cw_assign.specs.Valid.{IsValid}
use Rattle.cw_assign.proofs.Validity.{plan_is_valid}
use Rattle.cw_config.specs.View.{config_of}
use Rattle.cw_rest.specs.Seen.{connector_key}
use Rattle.cw_group.specs.declared.member.Member.{Member}
use Rattle.cw_group.specs.declared.answers.Phase.{Phase}
use Rattle.cw_group.specs.declared.answers.Phase.TheVariants.{Open, Closed, Planned}
use Rattle.cw_group.specs.declared.answers.GroupFault.TheVariants.{OldGeneration, NotLeader}
use Rattle.cw_group.specs.Phases.{is_closed}
use Rattle.cw_group.specs.Members.{member_of, holders_of, with_shares, lowest_in}
use Rattle.cw_group.specs.Group.{GroupState, store_row, store_refusal}
use Rattle.cw_group.specs.Places.{IsGroup}
use Rattle.cw_group.proofs.GroupLemmas.{group_shares, held_once}
use Rattle.cw_model.specs.State.{Setting, Cluster}
use Rattle.cw_model.specs.Lookups.{row_of, is_member, items_of, configured_items}
use Rattle.cw_model.specs.EventsGroups.{store_plan, without_due_delay, plan_for}
use Rattle.cw_model.specs.Facts.{AreFacts}
use Rattle.cw_model.specs.FactsGroup.{GroupFacts, AreAmong, shared_items}
use Rattle.cw_model.specs.declared.row.RowPhase.TheVariants.{Joining, Stable}
use Rattle.cw_laws.proofs.Wrappers.{worker-keeps, group-keeps}
use Rattle.cw_laws.proofs.Regroup.{regroup, regrouped}
use Rattle.cw_laws.proofs.Sync.{Did, call-done, each-member}
use Rattle.cw_laws.proofs.ItemOrder.{in_order-rises}
use Rattle.cw_laws.proofs.Members.{Stays, shares-stay}
use Rattle.cw_laws.proofs.Staying.{IsThere, member-there, stays-known, stays-held, stays-assigned}
use Rattle.cw_laws.proofs.Shares.{valid-shares, shares-within, shared-once, all-shared, fresh-planned}
use Rattle.cw_group.specs.Circle.{is_due, is_running}

store-closed : (b c : Bool) (worker round : ℕ) (phase : Phase) →
    (if not (is_closed phase) then Some (OldGeneration round) else if not b then Some (OldGeneration round) else if not c then Some NotLeader else None) ≡ None → phase ≡ Closed
store-closed b c worker round Open so = absurd (cc)
store-closed b c worker round Closed so = refl
store-closed b c worker round Planned so = absurd (cc)

some-holders : (v : ℕ) (members : List Member) (m : Member) → member_of v members ≡ Some m → 0 < length (holders_of members)
some-holders v [] m found = absurd (cc)
some-holders v (o ∷ members) m found = omega arith

-- the group with a plan
abbrev planned_with : Plan → List Item → GroupState → GroupState
planned_with plan planned group = record group { phase = Planned; members = with_shares group.members plan.shares; planned = planned }

module _ (setting : Setting) (s : Cluster) (lost : List Item) (delay : Delay) (w : ℕ) (m : Member) (there : member_of w s.group.members ≡ Some m)
    (closed : s.group.phase ≡ Closed) (f : AreFacts setting s) where
  abbrev planned : List Item
  planned = configured_items s.configs

  abbrev plan : Plan
  plan = plan_of (holders_of s.group.members) planned lost (is_running delay)

  abbrev t : Cluster
  t = record s { group = planned_with plan planned s.group; lost = lost; delay = delay }

  valid : IsValid (holders_of s.group.members) planned lost (is_running delay) plan
  valid = plan_is_valid (holders_of s.group.members) planned lost (is_running delay) (some-holders w s.group.members m there) (in_order-rises (flat_map (items_of s.configs) (filter (λ name. is_some (config_of name s.configs)) (filter_map (λ r. connector_key r.key) s.configs))))

  unplanned : s.group.phase ≡ Planned → ⊥
  unplanned is = let both : Closed ≡ Planned = sym closed ∙ is in cc

  stays : (v : ℕ) (k : Member) → member_of v t.group.members ≡ Some k → Stays v s.group.members k
  stays v k found = shares-stay v s.group.members plan.shares k found

  -- nobody has an assignment of this round yet
  waits : (v : ℕ) (k : Member) → member_of v t.group.members ≡ Some k → (row_of v s).phase ≡ Joining
  waits v k found =
      let old : Stays v s.group.members k = stays v k found in
      f.group.waiting unplanned v old.old old.there (each-member (λ o. o.joined ≡ true) v s.group.members old.old old.there (f.group.all_joined closed))

  not_told : (v leader : ℕ) → is_member v t ≡ true → (row_of v s).phase ≡ Stable s.group.round leader → ⊥
  not_told v leader current stable =
      let found : IsThere v t.group.members = member-there v t current in
      let joining : (row_of v s).phase ≡ Joining = waits v found.member found.there in
      let both : Joining ≡ Stable s.group.round leader = sym joining ∙ stable in cc

  all-given : delay ≡ Idle → AreAmong planned (shared_items t.group.members)
  all-given idle = all-shared s.group.members planned lost plan (subst (λ (b : Bool). IsValid (holders_of s.group.members) planned lost b plan) (ap is_running idle) valid)

  group : GroupFacts (regrouped s t)
  group =
      let before : IsGroup s.group.members = record { rising = f.group.rising; apart = f.group.apart; no_repeat = f.group.no_repeat } in
      let now : IsGroup t.group.members = group_shares s.group.members plan planned lost (is_running delay) valid before in
      record {
        rising = now.rising;
        apart = now.apart;
        held = λ v claim c. stays-held s t v refl f.group claim c (stays v c.member c.there);
        assigned = λ v claim c. stays-assigned s t v refl f.group claim c (stays v c.member c.there);
        known = λ v k found. stays-known s t v refl f.group k found (stays v k found);
        no_repeat = now.no_repeat;
        in_order = λ other. absurd (other refl);
        all_joined = λ is. absurd (cc);
        waiting = λ other. absurd (other refl);
        within = λ _. shares-within planned s.group.members plan.shares (valid-shares s.group.members planned lost (is_running delay) plan valid)
            (fresh-planned s.group.members planned lost (is_running delay) plan valid);
        once = λ _. shared-once s.group.members planned lost (is_running delay) plan valid (held_once s.group.members before);
        told = λ _ v leader current stable. absurd (not_told v leader current stable);
        all_given = λ _ idle. all-given idle;
        round = f.group.round;
      }

  pub plan-facts : AreFacts setting t
  plan-facts = regroup setting s t record { count = refl; sound = f.rows.rows; read = λ v. omega arith; fences = λ v lead fencing a b. (a, b) } group f

-- the delay that ends, or none
abbrev storing : Bool → Cluster → Cluster
storing due s = if due then record s { lost = []; delay = Idle } else s

store-done : (setting : Setting) (w : ℕ) (m : Member) (s : Cluster) → member_of w s.group.members ≡ Some m → s.group.phase ≡ Closed → AreFacts setting s → (due : Bool) →
    AreFacts setting (record (storing due s) { group = planned_with (plan_for (storing due s)) (configured_items s.configs) s.group })
store-done setting w m s there closed f true = plan-facts setting s [] Idle w m there closed f
store-done setting w m s there closed f false = plan-facts setting s s.lost s.delay w m there closed f

pub store_plan-keeps : (setting : Setting) (w : ℕ) (s : Cluster) → AreFacts setting s → AreFacts setting (store_plan w s).1
store_plan-keeps setting w s f = worker-keeps (AreFacts setting) w s _ f (λ live.
    let shares : List Share = (plan_for (without_due_delay s)).shares in
    let planned : List Item = configured_items s.configs in
    group-keeps (AreFacts setting) s (store_row w s.group.round shares planned s.group) _ f (λ did so.
    let done : Member → GroupState = λ m. record (s.group) { phase = Planned; members = with_shares s.group.members shares; planned = planned } in
    let call : Did (member_of w s.group.members) (λ m. store_refusal w s.group.round s.group) done did =
    call-done (member_of w s.group.members) (λ m. store_refusal w s.group.round s.group) done did so in
    let closed : s.group.phase ≡ Closed = store-closed (s.group.round == s.group.round) (unwrap_or (lowest_in s.group.members) w == w) w s.group.round s.group.phase call.allowed in
    subst (λ (group : GroupState). AreFacts setting (record (without_due_delay s) { group = group })) call.is
    (store-done setting w call.member s call.there closed f (is_due s.moment s.delay))))
