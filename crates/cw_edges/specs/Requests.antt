-- What a request to a worker does, and what it is answered (Kafka Connect's REST API). A call that writes goes through
-- the leader of the asked worker's round and checks that nobody has claimed a later lead since (KIP-618); that it is
-- one event, and that the asked worker has then read what it wrote, is this project's own.
use Rattle.std.specs.Prelude.{◌≡◌, ℕ, Bool, List, true, map, take, Option, Some, None, Result, Ok, Err, if◌then◌else◌}
use Rattle.cw_types.specs.declared.ids.Item.{Item}
use Rattle.cw_types.specs.declared.ids.Item.TheVariants.{Connector, Task}
use Rattle.cw_io.specs.Shelf.{names_of}
use Rattle.cw_route.specs.declared.call.Call.{Call}
use Rattle.cw_route.specs.declared.call.Call.TheVariants.{Refused, Restart, RestartTask}
use Rattle.cw_route.specs.declared.call.RouteFault.{RouteFault}
use Rattle.cw_route.specs.Calls as routes
use Rattle.cw_route.specs.declared.reply.Reply.{Reply}
use Rattle.cw_rest.specs.Calls.{Deed, reads, reads_configs, writes_configs, writes_offsets, restarts, deed_of}
use Rattle.cw_rest.specs.Messages.{full_reply, rebalancing}
use Rattle.cw_rest.specs.Replies.{reply_to, values_of, offsets_of, connector_set}
use Rattle.cw_rest.specs.Seen.{Seen}
use Rattle.cw_model.specs.declared.fault.WorldFault.{WorldFault}
use Rattle.cw_model.specs.declared.fault.WorldFault.TheVariants.{Fenced, Full}
use Rattle.cw_model.specs.State.{Setting, Cluster}
use Rattle.cw_model.specs.Answers.{Answer, answered, refused, at_worker}
use Rattle.cw_model.specs.EventsItems.{read_config, restart}
use Rattle.cw_model.specs.EventsLeading.{append_config, set_offsets}
use Rattle.cw_model.specs.Journal.{prefix_for, is_ready, is_success}
use Rattle.cw_model.specs.Ready.{ready}

-- ---- what is asked, and what it sees

-- the call that a request is; one that is none is a call that is refused
abbrev pub call_or : Result Call RouteFault → Call
call_or (Ok call) = call
call_or (Err fault) = Refused fault

abbrev pub call_of : (method target body : List ℕ) → Call
call_of method target body = call_or (routes.call_of method target body)

-- what a call through a worker sees: one that reads sees what its worker has read of the configs, another all of them
abbrev pub seen_now : Setting → ℕ → Call → Cluster → Seen
seen_now setting w call s = record {
  configs = take (prefix_for (deed_of call) w s) s.configs;
  statuses = map (λ r. r.status) s.statuses;
  entries = s.entries;
  feeds = names_of setting.feeds;
}

-- the reply to it: whoever isn't ready can't write
abbrev pub reply_now : Setting → ℕ → Call → Cluster → Reply
reply_now setting w call s = reply_to (is_ready w s) (seen_now setting w call s) call

-- whether nothing but a later lead would stand in its way
abbrev pub would_succeed : Setting → ℕ → Call → Cluster → Bool
would_succeed setting w call s = is_success (reply_to true (seen_now setting w call s) call)

-- ---- writing

-- what a call is answered by what its event did: behind a write the asked worker reads the configs; a log that is full
-- changes nothing; a leader that was outrun has lost its lead
abbrev pub behind_write : {A : Type 0} → Setting → ℕ → Call → Cluster → Result A WorldFault → Cluster → Answer Reply
behind_write setting w call s (Ok _) t = answered (reply_now setting w call s) (read_config w t).1
behind_write setting w call s (Err (Full log length frame)) t = answered (full_reply log) s
behind_write setting w call s (Err (Fenced own current)) t = answered rebalancing t
behind_write setting w call s (Err fault) t = refused fault t

-- a call that would succeed writes through the leader of its worker's round; where there is no leader, or the call is
-- refused, nothing is written
abbrev pub writes : {A : Type 0} → Setting → ℕ → Call → Option ℕ → (ℕ → Cluster → Answer A) → Cluster → Answer Reply
writes setting w call None event s = answered (reply_now setting w call s) s
writes setting w call (Some leader) event s =
    if would_succeed setting w call s
    then behind_write setting w call s (event leader s).0 (event leader s).1
    else answered (reply_now setting w call s) s

-- ---- restarting

-- what a call restarts: a connector, or a task; others restart nothing
abbrev pub item_of : Call → Option Item
item_of (Restart name) = Some (Connector name)
item_of (RestartTask id) = Some (Task id)
item_of _ = None

-- it is restarted
abbrev pub restarted : ℕ → Option Item → Cluster → Cluster
restarted w None s = s
restarted w (Some item) s = (restart w item s).1

-- ---- the table

-- what a call is answered, by its deed, and the cluster behind it
abbrev pub answers_by : Setting → ℕ → Call → Deed → Cluster → Answer Reply
answers_by setting w call reads s = answered (reply_now setting w call s) s
answers_by setting w call reads_configs s = answered (reply_now setting w call s) s
answers_by setting w call writes_configs s =
    writes setting w call (ready w s) (λ leader. append_config leader (values_of call)) s
answers_by setting w call writes_offsets s = writes setting w call (ready w s)
    (λ leader. set_offsets leader (connector_set call) (offsets_of (seen_now setting w call s) call)) s
answers_by setting w call restarts s = answered (reply_now setting w call s)
    (if is_success (reply_now setting w call s) then restarted w (item_of call) s else s)

-- a worker that was killed answers nothing
abbrev pub answers : Setting → ℕ → Call → Cluster → Answer Reply
answers setting w call = at_worker w (λ s. answers_by setting w call (deed_of call) s)

-- ---- behind the event of a call that writes

-- the state behind it
abbrev pub written : Setting → ℕ → Call → Deed → (leader : ℕ) → Cluster → Cluster
written setting w call writes_configs leader s = (append_config leader (values_of call) s).1
written setting w call writes_offsets leader s =
    (set_offsets leader (connector_set call) (offsets_of (seen_now setting w call s) call) s).1
written setting w call deed leader s = s

-- a call has written, and its worker hasn't read that yet
pub record HasWritten (setting : Setting) (w : ℕ) (call : Call) (s t : Cluster) : Type 0 where
  pub leader : ℕ
  pub through : ready w s ≡ Some leader
  pub succeeds : would_succeed setting w call s ≡ true
  pub is : t ≡ written setting w call (deed_of call) leader s
