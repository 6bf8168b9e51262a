-- A group and what each call does to it: the first refusal, or the answer and the group after it (Kafka's group
-- membership, rounds as in KIP-415).
use Rattle.std.specs.Prelude.{◌≡◌, ◌≢◌, ℕ, ◌+◌, ◌-◌, ◌^◌, ◌==◌, not, min, Bool, false, List, [], ◌++◌, map, Option}
use Rattle.std.specs.Prelude.{Some, None, Result, Ok, Err, MatchResult, unwrap_or, if◌then◌else◌}
use Rattle.std.specs.List.{find}
use Rattle.cw_types.specs.declared.ids.Item.{Item}
use Rattle.cw_assign.specs.declared.share.Share.{Share}
use Rattle.cw_assign.specs.declared.share.Plan.{Plan}
use Rattle.cw_assign.specs.Items.{has, in_order}
use Rattle.cw_assign.specs.Valid.{IsValid}
use Rattle.cw_group.specs.declared.member.Member.{Member}
use Rattle.cw_group.specs.declared.answers.Phase.{Phase}
use Rattle.cw_group.specs.declared.answers.Phase.TheVariants.{Open, Closed, Planned}
use Rattle.cw_group.specs.declared.answers.GroupFault.{GroupFault}
use Rattle.cw_group.specs.declared.answers.GroupFault.TheVariants.{Unknown, NotClaimed, AlreadyJoined, Missing, NoPlan}
use Rattle.cw_group.specs.declared.answers.GroupFault.TheVariants.{NotLeader, OldGeneration, Memory}
use Rattle.cw_group.specs.declared.answers.Synced.{Synced}
use Rattle.cw_group.specs.Phases.{is_open, is_closed}
use Rattle.cw_group.specs.Members.{new_member, unjoined, joined_with, member_of, with_member, without, with_change}
use Rattle.cw_group.specs.Members.{with_shares, lowest_in, lowest_missing_in, holders_of}

-- a group
pub record GroupState : Type 0 where
  pub round : ℕ
  pub phase : Phase
  -- how many members were made so far
  pub made : ℕ
  pub members : List Member
  pub planned : List Item

-- no member, round 0, planned
abbrev pub empty_group : GroupState
empty_group = record { round = 0; phase = Planned; made = 0; members = []; planned = [] }

-- one more, but for the greatest u64
abbrev pub next : ℕ → ℕ
next n = min (n + 1) (2 ^ 64 - 1)

-- a refusal, or else what is done
abbrev pub unless : {A : Type 0} → Option GroupFault → A → Result A GroupFault
unless None done = Ok done
unless (Some fault) done = Err fault

-- the refusals of a member's call, Unknown where it is none
abbrev pub for_member : {A : Type 0} → Option Member → (Member → Result A GroupFault) → Result A GroupFault
for_member None call = Err Unknown
for_member (Some m) call = call m

-- an open round: of another phase the next one, in which nobody has joined
abbrev pub opened : GroupState → GroupState
opened s = record {
  round = if is_open s.phase then s.round else next s.round;
  phase = Open;
  made = s.made;
  members = if is_open s.phase then s.members else map unjoined s.members;
  planned = s.planned;
}

-- the same group with other members
abbrev pub with_members : List Member → GroupState → GroupState
with_members members s = record s { members = members }

-- a member enters, with a new incarnation
abbrev pub enters : ℕ → GroupState → GroupState
enters worker s = record {
  round = s.round;
  phase = s.phase;
  made = next s.made;
  members = with_member (new_member worker (next s.made)) s.members;
  planned = s.planned;
}

-- an item that isn't in the member's claim
abbrev pub not_claimed : Option Item → Option GroupFault
not_claimed None = None
not_claimed (Some x) = Some (NotClaimed x)

-- why a member with these items may not join
abbrev pub join_refusal : ℕ → List Item → Phase → Member → Option GroupFault
join_refusal incarnation held phase m =
    if not (m.incarnation == incarnation) then Some Unknown else
    if (if is_open phase then m.joined else false) then Some AlreadyJoined else
    not_claimed (find (λ x. not (has m.claim x)) held)

-- it joins, in a round that is open
abbrev pub joins : ℕ → List Item → GroupState → GroupState
joins worker held s = with_members (with_change (joined_with held) worker (opened s).members) (opened s)

abbrev pub join_row : ℕ → ℕ → List Item → GroupState → Result (ℕ × GroupState) GroupFault
join_row worker incarnation held s =
    for_member (member_of worker s.members) (λ m.
    unless (join_refusal incarnation held s.phase m) ((opened s).round, joins worker held s))

-- a member departs: the answer is its claim
abbrev pub expire_row : ℕ → GroupState → Result (List Item × GroupState) GroupFault
expire_row worker s =
    for_member (member_of worker s.members) (λ m. Ok (m.claim, opened (with_members (without worker s.members) s)))

-- a member that hasn't joined
abbrev pub is_missing : Option ℕ → Option GroupFault
is_missing None = None
is_missing (Some worker) = Some (Missing worker)

-- why a round may not be closed
abbrev pub close_refusal : ℕ → GroupState → Option GroupFault
close_refusal round s =
    if not (is_open s.phase) then Some (OldGeneration s.round) else
    if not (s.round == round) then Some (OldGeneration s.round) else
    is_missing (lowest_missing_in s.members)

abbrev pub close_row : ℕ → ℕ → GroupState → Result GroupState GroupFault
close_row worker round s =
    for_member (member_of worker s.members) (λ m. unless (close_refusal round s)
    (record { round = s.round; phase = Closed; made = s.made; members = s.members; planned = s.planned }))

-- why a plan may not be stored
abbrev pub store_refusal : ℕ → ℕ → GroupState → Option GroupFault
store_refusal worker round s =
    if not (is_closed s.phase) then Some (OldGeneration s.round) else
    if not (s.round == round) then Some (OldGeneration s.round) else
    if not (unwrap_or (lowest_in s.members) worker == worker) then Some NotLeader else None

abbrev pub store_row : ℕ → ℕ → List Share → List Item → GroupState → Result GroupState GroupFault
store_row worker round shares planned s =
    for_member (member_of worker s.members) (λ m. unless (store_refusal worker round s)
    (record s { phase = Planned; members = with_shares s.members shares; planned = planned }))

-- a plan that may be stored: it is valid for the members with their claims, for some lost items, while a delay runs or
-- not
pub record MayStore (members : List Member) (planned : List Item) (plan : Plan) : Type 0 where
  pub lost : List Item
  pub running : Bool
  pub valid : IsValid (holders_of members) planned lost running plan

-- why a member has no plan yet
abbrev pub sync_refusal : ℕ → GroupState → Option GroupFault
sync_refusal round s =
    if not (s.round == round) then Some (OldGeneration s.round) else
    if is_open s.phase then Some (OldGeneration s.round) else
    if is_closed s.phase then Some NoPlan else None

-- what a member is told of the plan
abbrev pub synced : ℕ → GroupState → Member → Synced
synced worker s m = record {
  round = s.round;
  leader = unwrap_or (lowest_in s.members) worker;
  assigned = in_order (m.share.kept ++ m.share.fresh);
  revoked = m.share.revoked;
}

abbrev pub sync_row : ℕ → ℕ → GroupState → Result Synced GroupFault
sync_row worker round s =
    for_member (member_of worker s.members) (λ m. unless (sync_refusal round s) (synced worker s m))

-- a call did what its row says; where it is refused, or wants memory, the group is as before
abbrev pub Does : {A : Type 0} → Result (A × GroupState) GroupFault → GroupState → GroupState → Result A GroupFault →
    Type 0
Does row old new result =
    MatchResult result (λ a. row ≡ Ok (a, new)) (λ fault. (new ≡ old) × (fault ≢ Memory → row ≡ Err fault))
