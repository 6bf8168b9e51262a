-- A worker's tick follows the first rule that applies, and makes its event where that may be made: what these events
-- keep, the tick keeps.
use Rattle.std.proofs.Common.{◌≡◌, inl, inr, ℕ, ◌<◌, ◌≤◌, ◌∷◌, [], ◌&&◌, ◌||◌, Bool, true, false, not, cond, List, Option, Some, None, IsSome, is_some, is_none, nat_lt, length, take, map, slice_get, if◌then◌else◌, refl, sym, subst, ap, ◌∙◌, arith, ltb-false}
use Rattle.std.proofs.lemmas.Bool.{not-true, or_right}
use Rattle.std.specs.List.{AllByRecursion, find, filter, list_any}
use Rattle.std.specs.Option.{option_or}
use Rattle.std.proofs.Math.Seq.{take-length}
use Rattle.cw_rest.specs.Operations.{commit_values}
use borrow.Author.Tests.{ltb-true}
use Rattle.cw_types.specs.declared.ids.Item.{Item}
use Rattle.cw_types.specs.declared.logs.LogName.{LogName}
use Rattle.cw_types.specs.declared.logs.LogName.TheVariants.{Offsets, Batches}
use Rattle.cw_assign.specs.Items.{has, same_item, in_order}
use Rattle.cw_assign.proofs.ItemLemmas.{same_item-Decides}
use Rattle.cw_config.specs.View.{is_pending}
use Rattle.cw_rest.specs.Seen.{KeyedValues}
use Rattle.cw_model.specs.declared.instance.Instance.{Instance}
use Rattle.cw_model.specs.declared.row.Fencing.{Fencing}
use Rattle.cw_model.specs.declared.tick.Tick.{Tick}
use Rattle.cw_model.specs.declared.tick.Tick.TheVariants as outcome
use Rattle.cw_model.specs.State.{Cluster}
use Rattle.cw_model.specs.Lookups.{row_of, seen, is_at, held, is_member, is_configured}
use Rattle.cw_model.specs.Answers.{Answer, answered}
use Rattle.cw_model.specs.EventsGroups.{join, MayJoin, close_round, store_plan, MayStorePlan, sync}
use Rattle.cw_model.specs.EventsItems.{read_config, start_item, MayStart, stop_item}
use Rattle.cw_model.specs.EventsLeading.{claim_lead, MayClaim, append_config, MayAppendConfig, fence_one, MayFence, append_fence, MayAppendFence, fencing_of, new_fencing, leads}
use Rattle.cw_model.specs.EventsMarking.{mark, MayMark, unmarked_in}
use Rattle.cw_model.specs.EventsReports.{put_status, MayReport, state_of, is_item_at}
use Rattle.cw_model.specs.FactsRows.{IsSoundRow, IsBegun}
use Rattle.cw_model.specs.Ready.{is_stable, configured_connectors, pending_connectors}
use Rattle.cw_model.specs.Proposals.{proposal_of, are_deferred, task_records}
use Rattle.cw_model.specs.TickRules.{Rule, rule, when, read_applies, reads, stop_applies, deaf_stop_applies, stops, join_applies, joins, close_applies, closes, plan_applies, plans, sync_applies, syncs, lead_applies, takes_lead, Proposing, propose_applies, proposes, tells, fence_applies, fences, mark_applies, marks_ended, may_start, start_applies, starts, is_reported, report_applies, reports_state, number_at, is_outdated}
use Rattle.cw_model.specs.Tick.{rules, deaf_rules, first_rule, rule_for, follows, tick}
use Rattle.cw_laws.proofs.Disks.{and-first, and-second}
use Rattle.cw_laws.proofs.Fencing.{going-cases}
use Rattle.cw_laws.proofs.TaskSteps.{found-holds}

-- each event of a worker's tick keeps something that holds of the state
pub record TickKeeps (P : Cluster → Type 0) (w : ℕ) (s : Cluster) : Type 0 where
  pub same : P s
  pub read : P (read_config w s).1
  pub stop : (i : ℕ) → P (stop_item i s).1
  pub join : P (join w s).1
  pub close : P (close_round w s).1
  pub plan : P (store_plan w s).1
  pub sync : P (sync w s).1
  pub lead : P (claim_lead w s).1
  pub append : (leader : ℕ) (values : KeyedValues) → MayAppendConfig leader values s → P (append_config leader values s).1
  pub fence : (name : List ℕ) → MayFence w name s → P (fence_one w name s).1
  pub append_fence : (name : List ℕ) → MayAppendFence w name s → P (append_fence w name s).1
  pub mark : (log : LogName) → MayMark log s → P (mark log s).1
  pub start : (item : Item) → MayStart w item s → P (start_item w item s).1
  pub report : (item : Item) → MayReport w item s → P (put_status w item s).1

-- ---- rules

-- what a rule keeps where it is followed
abbrev Kept : (Cluster → Type 0) → Cluster → Rule → Type 0
Kept P s r = P (follows r s).1

rule-keeps : {A : Type 0} (P : Cluster → Type 0) (s : Cluster) (found : Option A) (does : A → Answer Tick) → P s → ((x : A) → found ≡ Some x → P (does x).1) → Kept P s (rule found does)
rule-keeps P s None does same kept = same
rule-keeps P s (Some x) does same kept = kept x refl

when-keeps : (P : Cluster → Type 0) (s : Cluster) (b : Bool) (does : Unit {0} → Answer Tick) → P s → P (does tt).1 → Kept P s (rule (when b) does)
when-keeps P s true does same kept = kept
when-keeps P s false does same kept = same

first-keeps : (P : Cluster → Type 0) (s : Cluster) (rs : List Rule) → P s → AllByRecursion (Kept P s) rs → Kept P s (first_rule rs)
first-keeps P s [] same each = same
first-keeps P s (None ∷ rs) same each = first-keeps P s rs same each.1
first-keeps P s (Some does ∷ rs) same each = each.0

-- ---- what the rules ask

pub some-of : {A : Type 0} (o : Option A) → is_some o ≡ true → IsSome o
some-of None some = some
some-of (Some x) some = refl

-- the first of what passes a test passes it
first-passes : {X : Type 0} (test : X → Bool) (xs : List X) (x : X) → slice_get (filter test xs) 0 ≡ Some x → test x ≡ true
first-passes test [] x found = absurd (cc)
first-passes test (y ∷ ys) x found = at (test y) refl found (first-passes test ys x) where
  at : (b : Bool) → test y ≡ b → slice_get (cond b (y ∷ filter test ys) (filter test ys)) 0 ≡ Some x → (slice_get (filter test ys) 0 ≡ Some x → test x ≡ true) → test x ≡ true
  at true passes is later = let same : y ≡ x = cc in subst (λ z. test z ≡ true) same passes
  at false fails is later = later is

-- what passes a test of a list is one of it
any-passes : {X : Type 0} (p q : X → Bool) (xs : List X) (x : X) → find p xs ≡ Some x → (p x ≡ true → q x ≡ true) → list_any q xs ≡ true
any-passes p q [] x found so = absurd (cc)
any-passes p q (y ∷ ys) x found so = at (p y) refl found (any-passes p q ys x) where
  at : (b : Bool) → p y ≡ b → cond b (Some y) (find p ys) ≡ Some x → (find p ys ≡ Some x → (p x ≡ true → q x ≡ true) → list_any q ys ≡ true) → (q y || list_any q ys) ≡ true
  at true passes is later =
      let same : y ≡ x = cc in
      let here : q y ≡ true = subst (λ z. q z ≡ true) (sym same) (so (subst (λ z. p z ≡ true) same passes)) in
      rw here refl
  at false fails is later = or_right (q y) (list_any q ys) (later is so)

-- an item that may start
pub may-start : (w : ℕ) (item : Item) (s : Cluster) → start_applies w s ≡ Some item → MayStart w item s
may-start w item s applies = at (is_stable (row_of w s).phase) applies where
  itself : (z : Item) → same_item z z ≡ true
  itself z = (same_item-Decides z z).1 refl

  parts : find (may_start w s) (row_of w s).assigned ≡ Some item → may_start w s item ≡ true
  parts found = (found-holds (λ _. Unit {0}) (may_start w s) (row_of w s).assigned item (trivial (row_of w s).assigned) found).1 where
    trivial : (xs : List Item) → AllByRecursion (λ _. Unit {0}) xs
    trivial [] = tt
    trivial (x ∷ xs) = (tt, trivial xs)

  at : (b : Bool) → (if b then find (may_start w s) (row_of w s).assigned else None) ≡ Some item → MayStart w item s
  at false none = absurd (cc)
  at true found = let passes : may_start w s item ≡ true = parts found in record {
    assigned = any-passes (may_start w s) (same_item item) (row_of w s).assigned item found (λ _. itself item);
    configured = and-first (is_configured (seen w s) item) (not (has (held w s) item)) (and-first _ _ passes);
    stopped = not-true (has (held w s) item) (and-second (is_configured (seen w s) item) (not (has (held w s) item)) (and-first _ _ passes));
  }

-- a connector whose older tasks a leader has to fence
pub fence-parts : (w : ℕ) (name : List ℕ) (s : Cluster) → fence_applies w s ≡ Some name → IsSome (row_of w s).lead × (is_pending name (seen w s) ≡ true)
fence-parts w name s applies = at (is_some (row_of w s).lead && is_stable (row_of w s).phase) refl applies where
  at : (b : Bool) → (is_some (row_of w s).lead && is_stable (row_of w s).phase) ≡ b → (if b then slice_get (pending_connectors w s) 0 else None) ≡ Some name →
      IsSome (row_of w s).lead × (is_pending name (seen w s) ≡ true)
  at false is none = absurd (cc)
  at true is found = (
    some-of (row_of w s).lead (and-first (is_some (row_of w s).lead) (is_stable (row_of w s).phase) is),
    first-passes (λ name. is_pending name (seen w s)) (configured_connectors (seen w s)) name found,
  )

-- a fencing has fenced no more than there are
pub fencing-next : (w : ℕ) (name : List ℕ) (s : Cluster) → IsSoundRow s (row_of w s) → (fencing_of w name s).next ≤ (fencing_of w name s).count
fencing-next w name s sound = elim (going-cases (new_fencing w name s) (row_of w s).fencing) [
  | inl keeps ↦ let begun : IsBegun s.configs (Some (fencing_of w name s)) = subst (λ o. IsBegun s.configs o) keeps sound.fencing in begun.next
  | inr new ↦ omega (arith, ap (λ (fencing : Fencing). fencing.next) new)
]

pub may-fence : (w : ℕ) (name : List ℕ) (s : Cluster) → fence_applies w s ≡ Some name → (fencing_of w name s).next < (fencing_of w name s).count → MayFence w name s
may-fence w name s is left = let parts = fence-parts w name s is in record { leads = parts.0; pending = parts.1; left = left }

pub may-append_fence : (w : ℕ) (name : List ℕ) (s : Cluster) → IsSoundRow s (row_of w s) → fence_applies w s ≡ Some name →
    (fencing_of w name s).count ≤ (fencing_of w name s).next → MayAppendFence w name s
may-append_fence w name s sound is done =
    let parts = fence-parts w name s is in record { leads = parts.0; pending = parts.1; done = omega (arith, done, fencing-next w name s sound) }

pub mark-parts : (w : ℕ) (log : LogName) (s : Cluster) → mark_applies w s ≡ Some log → MayMark log s
mark-parts w log s applies = at (is_none (row_of w s).lead) applies where
  third : (b : Bool) → is_some (unmarked_in Offsets s) ≡ b → (if b then Some Offsets else None) ≡ Some log → MayMark log s
  third false is none = absurd (cc)
  third true is found = let same : Offsets ≡ log = cc in subst (λ l. MayMark l s) same (some-of (unmarked_in Offsets s) is)

  second : (b : Bool) → is_some (unmarked_in Batches s) ≡ b → (if b then Some Batches else if is_some (unmarked_in Offsets s) then Some Offsets else None) ≡ Some log → MayMark log s
  second true is found = let same : Batches ≡ log = cc in subst (λ l. MayMark l s) same (some-of (unmarked_in Batches s) is)
  second false is later = third (is_some (unmarked_in Offsets s)) refl later

  at : (b : Bool) → (if b then None else if is_some (unmarked_in Batches s) then Some Batches else if is_some (unmarked_in Offsets s) then Some Offsets else None) ≡ Some log → MayMark log s
  at true none = absurd (cc)
  at false later = second (is_some (unmarked_in Batches s)) refl later

pub report-parts : (w : ℕ) (i : Instance) (s : Cluster) → report_applies w s ≡ Some i → MayReport w i.item s
report-parts w i s applies =
    any-passes (λ j. is_at w j && not (is_reported (state_of (seen w s) j) j.reported)) (is_item_at w i.item) s.instances i applies
    (λ passes. let at : is_at w i ≡ true = and-first (is_at w i) (not (is_reported (state_of (seen w s) i) i.reported)) passes in
    let itself : same_item i.item i.item ≡ true = (same_item-Decides i.item i.item).1 refl in
    rw (at, itself) refl)

-- a worker that has nothing to read has read all
pub read-all : (w : ℕ) (s : Cluster) → IsSoundRow s (row_of w s) → read_applies w s ≡ false → seen w s ≡ s.configs
read-all w s sound none =
    let most : length s.configs ≤ (row_of w s).prefix = ltb-false (row_of w s).prefix (length s.configs) none in
    let same : (row_of w s).prefix ≡ length s.configs = omega (arith, most, sound.prefix) in
    ap (λ n. take n s.configs) same ∙ take-length s.configs

-- so it may plan
pub may-plan : (w : ℕ) (s : Cluster) → IsSoundRow s (row_of w s) → read_applies w s ≡ false → MayStorePlan w s
may-plan w s sound none =
    let most : length s.configs ≤ (row_of w s).prefix = ltb-false (row_of w s).prefix (length s.configs) none in omega (arith, most, sound.prefix)

-- a worker that the group doesn't know, and that has stopped all, holds nothing, and may join
filter-same : {X : Type 0} (p q : X → Bool) (xs : List X) → ((x : X) → p x ≡ q x) → filter p xs ≡ filter q xs
filter-same p q [] same = refl
filter-same p q (x ∷ xs) same = rw (same x, filter-same p q xs same) refl

none-first : {X : Type 0} (xs : List X) → slice_get xs 0 ≡ None → xs ≡ []
none-first [] none = refl
none-first (x ∷ xs) none = absurd (cc)

stops-all : (at known other : Bool) → known ≡ false → (at && (not known || other)) ≡ at
stops-all true known other unknown = rw unknown refl
stops-all false known other unknown = refl

pub may-join : (w : ℕ) (s : Cluster) → stop_applies w s ≡ None → MayJoin w s
may-join w s stopped unknown =
    none-first (held w s) (ap (λ (l : List Instance). slice_get (in_order (map (λ (i : Instance). i.item) l)) 0)
    (sym (filter-same (λ i. is_at w i && (not (is_member w s) || is_outdated w s i)) (is_at w) s.instances (λ i. stops-all (is_at w i) (is_member w s) (is_outdated w s i) unknown))) ∙ stopped)

-- what leads may claim
pub may-claim : (w : ℕ) (s : Cluster) → lead_applies w s ≡ true → MayClaim w s
may-claim w s applies = and-first (leads w (row_of w s).phase) (is_none (row_of w s).lead) applies

-- what a worker has its leader write for a connector
abbrev pub proposed : ℕ → Cluster → List ℕ → KeyedValues
proposed w s name =
    if are_deferred (seen w s) name then commit_values name (length (proposal_of name (seen w s))) else task_records name (proposal_of name (seen w s))

-- it may be written where the worker has read all
abbrev pub ProposesWell : ℕ → Cluster → Type 0
ProposesWell w s = (p : Proposing) → propose_applies w s ≡ Some p → seen w s ≡ s.configs → MayAppendConfig p.leader (proposed w s p.connector) s

-- the rules of a worker that hears, but the first
abbrev later_rules : ℕ → Cluster → List Rule
later_rules w s =
    rule (stop_applies w s) (stops w s) ∷
    rule (when (join_applies w s)) (λ _. joins w s) ∷
    rule (when (close_applies w s)) (λ _. closes w s) ∷
    rule (when (plan_applies w s)) (λ _. plans w s) ∷
    rule (when (sync_applies w s)) (λ _. syncs w s) ∷
    rule (when (lead_applies w s)) (λ _. takes_lead w s) ∷
    rule (propose_applies w s) (proposes w s) ∷
    rule (fence_applies w s) (fences w s) ∷
    rule (mark_applies w s) (marks_ended s) ∷
    rule (start_applies w s) (starts w s) ∷
    rule (report_applies w s) (reports_state w s) ∷
    []

module _ (P : Cluster → Type 0) (w : ℕ) (s : Cluster) (e : TickKeeps P w s) (sound : IsSoundRow s (row_of w s)) (well : ProposesWell w s) where
  stops-keep : (found : Option Item) → Kept P s (rule found (stops w s))
  stops-keep found = rule-keeps P s found (stops w s) e.same (λ item is. e.stop (number_at w item s))

  starts-keep : Kept P s (rule (start_applies w s) (starts w s))
  starts-keep = rule-keeps P s (start_applies w s) (starts w s) e.same (λ item is. e.start item (may-start w item s is))

  reports-keep : Kept P s (rule (report_applies w s) (reports_state w s))
  reports-keep = rule-keeps P s (report_applies w s) (reports_state w s) e.same (λ i is. e.report i.item (report-parts w i s is))

  proposes-keep : seen w s ≡ s.configs → (p : Proposing) → propose_applies w s ≡ Some p → P (proposes w s p).1
  proposes-keep all p is = either (are_deferred (seen w s) p.connector) (well p is all) where
    either : (b : Bool) → MayAppendConfig p.leader (if b then commit_values p.connector (length (proposal_of p.connector (seen w s))) else task_records p.connector (proposal_of p.connector (seen w s))) s →
        P (if b then tells (append_config p.leader (commit_values p.connector (length (proposal_of p.connector (seen w s)))) s) (λ offset _. outcome.Commit p.connector offset)
        else tells (append_config p.leader (task_records p.connector (proposal_of p.connector (seen w s))) s) (λ _ _. outcome.Propose p.connector (length (proposal_of p.connector (seen w s))))).1
    either true may = e.append p.leader (commit_values p.connector (length (proposal_of p.connector (seen w s)))) may
    either false may = e.append p.leader (task_records p.connector (proposal_of p.connector (seen w s))) may

  fences-keep : (name : List ℕ) → fence_applies w s ≡ Some name → P (fences w s name).1
  fences-keep name is = either (nat_lt (fencing_of w name s).next (fencing_of w name s).count) refl where
    either : (b : Bool) → nat_lt (fencing_of w name s).next (fencing_of w name s).count ≡ b →
        P (if b then tells (fence_one w name s) (λ did _. outcome.Fence (record { connector = name; index = did.0 }) did.1.0) else tells (append_fence w name s) (λ offset _. outcome.FenceRecord name offset)).1
    either true below = e.fence name (may-fence w name s is (ltb-true (fencing_of w name s).next (fencing_of w name s).count below))
    either false done = e.append_fence name (may-append_fence w name s sound is (ltb-false (fencing_of w name s).next (fencing_of w name s).count done))

  -- the rules behind the first one, which are met where nothing is left to read
  later-keep : seen w s ≡ s.configs → AllByRecursion (Kept P s) (later_rules w s)
  later-keep all = (
    stops-keep (stop_applies w s),
    (
      when-keeps P s (join_applies w s) (λ _. joins w s) e.same e.join,
      (
        when-keeps P s (close_applies w s) (λ _. closes w s) e.same e.close,
        (
          when-keeps P s (plan_applies w s) (λ _. plans w s) e.same e.plan,
          (
            when-keeps P s (sync_applies w s) (λ _. syncs w s) e.same e.sync,
            (
              when-keeps P s (lead_applies w s) (λ _. takes_lead w s) e.same e.lead,
              (
                rule-keeps P s (propose_applies w s) (proposes w s) e.same (proposes-keep all),
                (
                  rule-keeps P s (fence_applies w s) (fences w s) e.same fences-keep,
                  (
                    rule-keeps P s (mark_applies w s) (marks_ended s) e.same (λ log is. e.mark log (mark-parts w log s is)),
                    (starts-keep, (reports-keep, tt)),
                  ),
                ),
              ),
            ),
          ),
        ),
      ),
    ),
  )

  -- what the events of a tick keep, the tick keeps
  pub tick-keeps : P (tick w s).1
  tick-keeps = alive (row_of w s).live where
    reading : (b : Bool) → read_applies w s ≡ b → Kept P s (option_or (rule (when b) (λ _. reads w s)) (first_rule (later_rules w s)))
    reading true some = e.read
    reading false none = first-keeps P s (later_rules w s) e.same (later-keep (read-all w s sound none))

    hearing : (b : Bool) → Kept P s (first_rule (if b then rules w s else deaf_rules w s))
    hearing true = reading (read_applies w s) refl
    hearing false = first-keeps P s (deaf_rules w s) e.same (stops-keep (deaf_stop_applies w s), (starts-keep, (reports-keep, tt)))

    alive : (b : Bool) → P (if b then follows (rule_for w s) s else answered outcome.Dead s).1
    alive true = hearing (row_of w s).hearing
    alive false = e.same
