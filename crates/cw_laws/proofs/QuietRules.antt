-- A worker to which no rule of a tick applies, and the leader of a calm cluster.
use Rattle.std.proofs.Common.{◌≡◌, ℕ, ◌==◌, ◌<◌, Bool, true, false, not, ◌&&◌, ◌||◌, cond, List, [], ◌∷◌, length, Option, Some, None, refl, ap, ◌∙◌, subst, arith}
use Rattle.std.proofs.lemmas.Bool.{and_parts, or_parts, not-false}
use Rattle.std.specs.List.{AllByRecursion}
use Rattle.cw_group.specs.declared.member.Member.{Member}
use Rattle.cw_group.specs.Phases.{is_open}
use Rattle.cw_group.specs.Members.{member_of, lowest_in, AreRising}
use Rattle.cw_model.specs.declared.tick.Tick.{Tick}
use Rattle.cw_model.specs.State.{Setting, Cluster}
use Rattle.cw_model.specs.Lookups.{row_of, is_member}
use Rattle.cw_model.specs.Answers.{Answer}
use Rattle.cw_model.specs.EventsItems.{is_active}
use Rattle.cw_model.specs.FactsGroup.{GroupFacts}
use Rattle.cw_model.specs.Tick.{rules, deaf_rules, first_rule, rule_for}
use Rattle.cw_model.specs.TickRules.{Rule, rule, when, read_applies, reads, stop_applies, stops, join_applies, joins, close_applies, closes, plan_applies, plans, sync_applies, syncs, lead_applies, takes_lead, propose_applies, proposes, fence_applies, fences, start_applies, starts, has_not_joined, is_settled, is_to_plan}
use Rattle.cw_laws.specs.QuietLaws.{IsCalm}
use Rattle.cw_laws.proofs.Members.{same_itself, number-found, not_same}
use Rattle.cw_laws.proofs.Sync.{each-member}
use Rattle.cw_laws.proofs.Staying.{IsThere, member-there}

-- ---- no rule applies

each-none : (list : List Rule) → first_rule list ≡ None → AllByRecursion (λ r. r ≡ None) list
each-none [] none = tt
each-none (None ∷ list) none = (refl, each-none list none)
each-none (Some does ∷ list) none = absurd (cc)

rule-none : {A : Type 0} (found : Option A) (does : A → Answer Tick) → rule found does ≡ None → found ≡ None
rule-none None does none = refl
rule-none (Some x) does none = absurd (cc)

when-none : (b : Bool) (does : Unit {0} → Answer Tick) → rule (when b) does ≡ None → b ≡ false
when-none true does none = absurd (cc)
when-none false does none = refl

-- no rule of a worker that hears applies
pub record NoRule (w : ℕ) (s : Cluster) : Type 0 where
  pub read : read_applies w s ≡ false
  pub stop : stop_applies w s ≡ None
  pub join : join_applies w s ≡ false
  pub close : close_applies w s ≡ false
  pub plan : plan_applies w s ≡ false
  pub sync : sync_applies w s ≡ false
  pub lead : lead_applies w s ≡ false
  pub propose : propose_applies w s ≡ None
  pub fence : fence_applies w s ≡ None
  pub start : start_applies w s ≡ None

no-rule : (w : ℕ) (s : Cluster) → is_active s w ≡ true → rule_for w s ≡ None → NoRule w s
no-rule w s active none =
    let hears : (row_of w s).hearing ≡ true = (and_parts (row_of w s).live (row_of w s).hearing active).1 in
    let first : first_rule (rules w s) ≡ None = subst (λ (b : Bool). first_rule (cond b (rules w s) (deaf_rules w s)) ≡ None) hears none in
    let all : AllByRecursion (λ r. r ≡ None) (rules w s) = each-none (rules w s) first in
    record {
      read = when-none (read_applies w s) (λ _. reads w s) all.0;
      stop = rule-none (stop_applies w s) (stops w s) all.1.0;
      join = when-none (join_applies w s) (λ _. joins w s) all.1.1.0;
      close = when-none (close_applies w s) (λ _. closes w s) all.1.1.1.0;
      plan = when-none (plan_applies w s) (λ _. plans w s) all.1.1.1.1.0;
      sync = when-none (sync_applies w s) (λ _. syncs w s) all.1.1.1.1.1.0;
      lead = when-none (lead_applies w s) (λ _. takes_lead w s) all.1.1.1.1.1.1.0;
      propose = rule-none (propose_applies w s) (proposes w s) all.1.1.1.1.1.1.1.0;
      fence = rule-none (fence_applies w s) (fences w s) all.1.1.1.1.1.1.1.1.0;
      start = rule-none (start_applies w s) (starts w s) all.1.1.1.1.1.1.1.1.1.1.0;
    }

-- what it means that it has no reason to join
pub record NoJoin (w : ℕ) (s : Cluster) : Type 0 where
  pub member : is_member w s ≡ true
  pub joined : (is_open s.group.phase && has_not_joined (member_of w s.group.members)) ≡ false
  pub nothing_revoked : (is_settled w s && not (length (row_of w s).revoked == 0)) ≡ false
  pub as_planned : (is_settled w s && is_to_plan w s) ≡ false

no-join : (w : ℕ) (s : Cluster) → join_applies w s ≡ false → NoJoin w s
no-join w s none =
    let missing : Bool = is_open s.group.phase && has_not_joined (member_of w s.group.members) in
    let revoked : Bool = is_settled w s && not (length (row_of w s).revoked == 0) in
    let anew : Bool = is_settled w s && is_to_plan w s in
    let last : ((not (is_member w s) || missing || revoked) ≡ false) × (anew ≡ false) = or_parts (not (is_member w s) || missing || revoked) anew none in
    let third : ((not (is_member w s) || missing) ≡ false) × (revoked ≡ false) = or_parts (not (is_member w s) || missing) revoked last.0 in
    let second : (not (is_member w s) ≡ false) × (missing ≡ false) = or_parts (not (is_member w s)) missing third.0 in
    record { member = not-false (is_member w s) second.0; joined = second.1; nothing_revoked = third.1; as_planned = last.1 }

-- ---- members by their numbers

-- who is found behind the first is found with it
pub behind-found : (v : ℕ) (o : Member) (members : List Member) (m : Member) → AreRising (o ∷ members) → member_of v members ≡ Some m → member_of v (o ∷ members) ≡ Some m
behind-found v o members m rising found =
    let above : o.worker < m.worker = each-member (λ k. o.worker < k.worker) v members m found rising.0 in
    let number : m.worker ≡ v = number-found v members m found in
    ap (λ (b : Bool). cond b (Some o) (member_of v members)) (not_same o.worker v (λ same. omega (arith, above, number, same))) ∙ found

pub first-found : (o : Member) (members : List Member) → member_of o.worker (o ∷ members) ≡ Some o
first-found o members = ap (λ (b : Bool). cond b (Some o) (member_of o.worker members)) (same_itself o.worker)

-- what holds of whoever is looked up holds of each member
pub each-found : (P : Member → Type 0) (members : List Member) → AreRising members → ((v : ℕ) (m : Member) → member_of v members ≡ Some m → P m) → AllByRecursion P members
each-found P [] rising so = tt
each-found P (o ∷ members) rising so = (so o.worker o (first-found o members), each-found P members rising.1 (λ v m found. so v m (behind-found v o members m rising found)))

-- the lowest member
pub record IsLowest (members : List Member) : Type 0 where
  pub leader : ℕ
  pub member : Member
  pub lowest : lowest_in members ≡ Some leader
  pub there : member_of leader members ≡ Some member

some-lowest : (v : ℕ) (members : List Member) (m : Member) → member_of v members ≡ Some m → IsLowest members
some-lowest v [] m found = absurd (cc)
some-lowest v (o ∷ members) m found = record { leader = o.worker; member = o; lowest = refl; there = first-found o members }

-- ---- a calm cluster

module _ (setting : Setting) (s : Cluster) (c : IsCalm setting s) where
  pub group_facts : GroupFacts s
  group_facts = c.facts.group

  pub active-rule : (w : ℕ) → is_active s w ≡ true → NoRule w s
  active-rule w active = no-rule w s active (c.quiet.idle w active)

  pub member-rule : (w : ℕ) → is_member w s ≡ true → NoRule w s
  member-rule w current = active-rule w (c.members_active w current)

  pub member-join : (w : ℕ) → is_member w s ≡ true → NoJoin w s
  member-join w current = no-join w s (member-rule w current).join

  pub calm-lowest : IsLowest s.group.members
  calm-lowest =
      let some : NoJoin c.some_active.worker s = no-join c.some_active.worker s (active-rule c.some_active.worker c.some_active.active).join in
      let there : IsThere c.some_active.worker s.group.members = member-there c.some_active.worker s some.member in
      some-lowest c.some_active.worker s.group.members there.member there.there

  pub lowest-member : is_member calm-lowest.leader s ≡ true
  lowest-member = group_facts.known calm-lowest.leader calm-lowest.member calm-lowest.there
