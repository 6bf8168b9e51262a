-- A member that the group lets go: all facts stay, since a round opens, and its worker is no member any more.
use Rattle.std.proofs.Common.{◌≡◌, ℕ, ◌++◌, ◌==◌, not, List, Option, Some, None, Ok, true, refl, ap, subst, arith}
use Rattle.std.specs.List.Sorted.{IsStrictlySortedBy}
use Rattle.cw_types.specs.declared.ids.Item.{Item}
use Rattle.cw_types.specs.Order.{item_cmp}
use Rattle.cw_assign.specs.declared.delay.Delay.{Delay}
use Rattle.cw_group.specs.declared.member.Member.{Member}
use Rattle.cw_group.specs.Phases.{is_open}
use Rattle.cw_group.specs.Members.{member_of, without}
use Rattle.cw_group.specs.Group.{GroupState, for_member, opened, with_members, expire_row}
use Rattle.cw_group.specs.Places.{IsGroup}
use Rattle.cw_group.proofs.GroupLemmas.{group_kept, open_group}
use Rattle.cw_model.specs.State.{Setting, Cluster}
use Rattle.cw_model.specs.EventsWorkers.{expire}
use Rattle.cw_model.specs.Facts.{AreFacts}
use Rattle.cw_model.specs.FactsGroup.{GroupFacts}
use Rattle.cw_laws.proofs.Wrappers.{closed-keeps, group-keeps}
use Rattle.cw_laws.proofs.Regroup.{regroup, regrouped}
use Rattle.cw_laws.proofs.Members.{Stays, opened-stays, opened-joined, without-found, each-without}
use Rattle.cw_laws.proofs.Staying.{stays-known, stays-held, stays-assigned, open-unplanned, next-round}
use Rattle.cw_group.specs.Circle.{delay_behind}

expire-done : (o : Option Member) (group : GroupState) (gone : List Item × GroupState) → for_member o (λ m. Ok (m.claim, group)) ≡ Ok gone → group ≡ gone.1
expire-done None group gone so = absurd (cc)
expire-done (Some m) group gone so = let is : (m.claim, group) ≡ gone = cc in ap (λ (g : List Item × GroupState). g.1) is

module _ (setting : Setting) (w : ℕ) (s : Cluster) (lost : List Item) (delay : Delay) (f : AreFacts setting s) where
  abbrev left : List Member
  left = without w s.group.members

  abbrev t : Cluster
  t = record s { group = opened (with_members left s.group); lost = lost; delay = delay }

  stays : (v : ℕ) (m : Member) → member_of v t.group.members ≡ Some m → Stays v s.group.members m
  stays v m found =
      let old : Stays v left m = (opened-stays (is_open s.group.phase) v left m found).0 in
      record { old = old.old; there = without-found v w s.group.members old.old old.there; incarnation = old.incarnation; claim = old.claim; joined = old.joined }

  was_open : (v : ℕ) (m : Member) → member_of v t.group.members ≡ Some m → m.joined ≡ true → is_open s.group.phase ≡ true
  was_open v m found = (opened-stays (is_open s.group.phase) v left m found).1

  group : GroupFacts (regrouped s t)
  group =
      let before : IsGroup s.group.members = record { rising = f.group.rising; apart = f.group.apart; no_repeat = f.group.no_repeat } in
      let now : IsGroup t.group.members = open_group (is_open s.group.phase) left (group_kept (λ m. not (m.worker == w)) s.group.members before) in
      record {
        rising = now.rising;
        apart = now.apart;
        held = λ v claim c. stays-held s t v refl f.group claim c (stays v c.member c.there);
        assigned = λ v claim c. stays-assigned s t v refl f.group claim c (stays v c.member c.there);
        known = λ v m found. stays-known s t v refl f.group m found (stays v m found);
        no_repeat = now.no_repeat;
        in_order = λ unplanned. opened-joined (λ m. IsStrictlySortedBy item_cmp m.claim) (is_open s.group.phase) left
            (λ is. each-without (λ m. m.joined ≡ true → IsStrictlySortedBy item_cmp m.claim) w s.group.members (f.group.in_order (open-unplanned s.group.phase is)));
        all_joined = λ closed. absurd (cc);
        waiting = λ unplanned v m found joined. let old : Stays v s.group.members m = stays v m found in
            f.group.waiting (open-unplanned s.group.phase (was_open v m found joined)) v old.old old.there (old.joined joined);
        within = λ planned. absurd (cc);
        once = λ planned. absurd (cc);
        told = λ planned. absurd (cc);
        all_given = λ planned. absurd (cc);
        round = next-round (is_open s.group.phase) s.group.round f.group.round;
      }

  pub expire-facts : AreFacts setting t
  expire-facts = regroup setting s t record { count = refl; sound = f.rows.rows; read = λ v. omega arith; fences = λ v lead fencing a b. (a, b) } group f

pub expire-keeps : (setting : Setting) (w : ℕ) (s : Cluster) → AreFacts setting s → AreFacts setting (expire setting w s).1
expire-keeps setting w s f = closed-keeps (AreFacts setting) s s.closed _ f (group-keeps (AreFacts setting) s (expire_row w s.group) _ f (λ gone so.
    let lost : List Item = s.lost ++ gone.0 in
    let delay : Delay = delay_behind setting.delay s.moment gone.0 s.delay in
    subst (λ (group : GroupState). AreFacts setting (record s { group = group; lost = lost; delay = delay }))
    (expire-done (member_of w s.group.members) (opened (with_members (without w s.group.members) s.group)) gone so)
    (expire-facts setting w s lost delay f)))
