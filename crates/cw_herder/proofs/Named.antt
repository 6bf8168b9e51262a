-- A call that succeeds makes no connector without a name, and a worker's leader is one of the workers.
use Rattle.std.proofs.Common.{◌≡◌, ◌<◌, ℕ, Bool, true, false, length, Option, Some, None, IsSome, inl, inr, subst, refl}
use Rattle.std.specs.Option.{is_some}
use Rattle.cw_plugin.specs.Checks.{is_name}
use Rattle.cw_route.specs.declared.call.Call.{Call}
use Rattle.cw_route.specs.declared.call.Call.TheVariants.{Refused, Connectors, Create, Info, Delete, Config, PutConfig, Status, Tasks, TaskStatus, Pause, Resume, Stop, Restart, RestartTask, Offsets, Alter, Reset, Plugins}
use Rattle.cw_route.specs.declared.reply.Reply.{Reply}
use Rattle.cw_rest.specs.Bodies.{Asked, asked_in}
use Rattle.cw_rest.specs.Messages.{bad_name}
use Rattle.cw_rest.specs.Replies.{unless, unless_bad, create_named, create_reply, reply_to}
use Rattle.cw_rest.specs.Seen.{Seen}
use Rattle.cw_laws.proofs.Lists.{read-cases}
use Rattle.cw_laws.proofs.Proposed.{ready-leads}
use Rattle.cw_model.specs.State.{Cluster}
use Rattle.cw_model.specs.declared.row.Row.{Row}
use Rattle.cw_model.specs.Journal.{is_success}
use Rattle.cw_model.specs.Lookups.{row_of, no_row}
use Rattle.cw_model.specs.Ready.{ready}
use Rattle.cw_herder.specs.Named.{IsNamed, IsNamedIn}

module _ (is_ready : Bool) (seen : Seen) where
  passes : (b : Bool) (done : Reply) → is_success (unless b bad_name done) ≡ true → b ≡ true
  passes true done ok = refl
  passes false done ok = absurd (let never : false ≡ true = ok in cc)

  named-in : (o : Option Asked) → is_success (unless_bad o (create_reply is_ready seen)) ≡ true → IsNamedIn o
  named-in None ok = tt
  named-in (Some asked) ok = passes (is_name asked.name) (create_named is_ready seen asked.name asked.config) ok

  pub succeeds-named : (call : Call) → is_success (reply_to is_ready seen call) ≡ true → IsNamed call
  succeeds-named (Create body) ok = named-in (asked_in body) ok
  succeeds-named (Refused fault) ok = tt
  succeeds-named Connectors ok = tt
  succeeds-named (Info name) ok = tt
  succeeds-named (Delete name) ok = tt
  succeeds-named (Config name) ok = tt
  succeeds-named (PutConfig name body) ok = tt
  succeeds-named (Status name) ok = tt
  succeeds-named (Tasks name) ok = tt
  succeeds-named (TaskStatus id) ok = tt
  succeeds-named (Pause name) ok = tt
  succeeds-named (Resume name) ok = tt
  succeeds-named (Stop name) ok = tt
  succeeds-named (Restart name) ok = tt
  succeeds-named (RestartTask id) ok = tt
  succeeds-named (Offsets name) ok = tt
  succeeds-named (Alter name body) ok = tt
  succeeds-named (Reset name) ok = tt
  succeeds-named Plugins ok = tt

-- a worker with a lead epoch is there, and so is the leader through which another writes
leads-there : (w : ℕ) (s : Cluster) → IsSome (row_of w s).lead → w < length s.rows
leads-there w s leads = elim (read-cases s.rows w no_row) [
  | inl within ↦ within
  | inr none ↦ absurd (let no : false ≡ true = subst (λ (row : Row). is_some row.lead ≡ true) none leads in cc)
]

pub leader-there : (w leader : ℕ) (s : Cluster) → ready w s ≡ Some leader → leader < length s.rows
leader-there w leader s is = leads-there leader s (ready-leads w leader s is)
