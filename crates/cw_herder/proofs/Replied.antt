-- Calls of the REST API that write nothing, as they are answered and done.
use Rattle.std.proofs.Common.{◌≡◌, ◌∙◌, ℕ, true, Some, None, Result, Ok, Err, refl, sym, ap, subst}
use Rattle.cw_types.specs.declared.logs.LogName.{LogName}
use Rattle.cw_types.specs.declared.ids.Item.{Item}
use Rattle.cw_disk.specs.declared.device.Disk.{Ghosts}
use Rattle.cw_route.specs.declared.call.Call.{Call}
use Rattle.cw_route.specs.declared.reply.Reply.{Reply}
use Rattle.cw_rest.specs.Calls.{restarts, deed_of}
use Rattle.cw_model.specs.declared.fault.WorldFault.{WorldFault}
use Rattle.cw_model.specs.declared.fault.WorldFault.TheVariants.{Memory}
use Rattle.cw_model.specs.State.{Setting, Cluster}
use Rattle.cw_model.specs.Answers.{Answer, answered}
use Rattle.cw_model.specs.EventsItems.{restart}
use Rattle.cw_model.specs.Journal.{is_success}
use Rattle.cw_model.specs.Lookups.{row_of}
use Rattle.cw_edges.specs.Requests.{reply_now, item_of, answers}
use Rattle.cw_ops.specs.declared.answering.Answering.{Answering}
use Rattle.cw_ops.specs.declared.answering.Answering.TheVariants.{Refused}
use Rattle.cw_ops.specs.Answering.{IsRefused, IsAnswering}
use Rattle.cw_world.specs.World.{WorldState, Does, Acts}
use Rattle.cw_world.proofs.Acting.{does-acts, wants-acts}
use Rattle.cw_herder.proofs.Asking.{restart-done, restart-ok}

module _ {D A : Type 0} (G : Ghosts D) (event : Cluster → Answer A) (old : WorldState D) where
  -- it is answered, and nothing changes
  pub unmoved : (answer : A) → event old.state ≡ answered answer old.state → Acts G event old old (Ok answer)
  unmoved answer is = does-acts G event old old (Ok answer) (record { row = is; setting = refl; logs = refl; name = refl })

  -- it is refused, and nothing changes
  pub refused-is : (fault : WorldFault) → event old.state ≡ (Err fault, old.state) → Acts G event old old (Err fault)
  refused-is fault is = does-acts G event old old (Err fault) (record { row = is; setting = refl; logs = refl; name = refl })

  -- memory is wanting, and nothing changes
  pub wanting : Acts G event old old (Err Memory)
  wanting = wants-acts G event old old (Err Memory)
      (record { done = λ n. absurd (n refl); wants = λ e. refl; setting = refl; logs = refl; name = refl })

-- what a call comes to over the cluster in memory is what it comes to over the world
module _ (w : ℕ) (call : Call) (log : LogName) (a b : Setting) (s t : Cluster) (setting : a ≡ b) (state : s ≡ t) where
  pub refused-over : (made : Answering) (reply : Reply) → made ≡ Refused reply → IsAnswering a w call log s made → IsRefused b w call t reply
  refused-over made reply is given =
      subst (λ (x : Setting). IsRefused x w call t reply) setting
      (subst (λ (u : Cluster). IsRefused a w call u reply) state
      (subst (λ (m : Answering). IsAnswering a w call log s m) is given))

-- the reply that was made is the one of the event
pub replied : (reply other : Reply) (s : Cluster) → reply ≡ other → answered other s ≡ answered reply s
replied reply other s is = ap (λ (r : Reply). answered r s) (sym is)

-- what runs of an item has ended
module _ {D : Type 0} (G : Ghosts D) (w : ℕ) (call : Call) (item : Item) (old new : WorldState D) (reply : Reply)
    (alive : old.state.closed ≡ None) (live : (row_of w old.state).live ≡ true) (result : Result (Unit {0}) WorldFault)
    (does : Does (restart w item) old new result) where
  pub restarted-acts : deed_of call ≡ restarts → item_of call ≡ Some item → reply ≡ reply_now old.setting w call old.state → is_success reply ≡ true →
      Acts G (answers old.setting w call) old new (Ok reply)
  restarted-acts deed is said succeeds =
      let own : is_success (reply_now old.setting w call old.state) ≡ true = ap is_success (sym said) ∙ succeeds in
      let row : answers old.setting w call old.state ≡ (Ok reply, new.state) =
      restart-done old.setting w call old.state alive live deed item is own ∙
      ap (λ (a : Answer (Unit {0})). answered (reply_now old.setting w call old.state) a.1) does.row ∙
      replied reply (reply_now old.setting w call old.state) new.state said in
      does-acts G (answers old.setting w call) old new (Ok reply) (record { row = row; setting = does.setting; logs = does.logs; name = does.name })

  pub restart-done-is : (fault : WorldFault) → result ≡ Err fault → ⊥
  restart-done-is fault is =
      let done : (restart w item old.state).0 ≡ Ok tt = restart-ok old.setting w call old.state alive live item in
      let told : (restart w item old.state).0 ≡ result = ap (λ (a : Answer (Unit {0})). a.0) does.row in
      cc
