-- Where a worker isn't ready, a call that writes doesn't succeed; where nothing else stands in its way, it is told that a
-- rebalance goes on. And what a call writes, where it succeeds, is a record at least.
use Rattle.std.proofs.Common.{◌≡◌, ℕ, ◌≤◌, List, [], Bool, true, false, length, Option, Some, None, refl, arith}
use Rattle.std.specs.Option.{option_map_or}
use Rattle.cw_plugin.specs.Checks.{is_name}
use Rattle.cw_config.specs.View.{Properties}
use Rattle.cw_route.specs.declared.call.Call.{Call}
use Rattle.cw_route.specs.declared.call.Call.TheVariants.{Refused, Connectors, Create, Info, Delete, Config, PutConfig, Status, Tasks, TaskStatus, Pause, Resume, Stop, Restart, RestartTask, Offsets, Alter, Reset, Plugins}
use Rattle.cw_rest.specs.Bodies.{Asked, asked_in, config_in}
use Rattle.cw_rest.specs.Calls.{deed_of, writes_configs, is_reading}
use Rattle.cw_rest.specs.Messages.{rebalancing}
use Rattle.cw_rest.specs.Offsets.{Alteration, alterations_in}
use Rattle.cw_rest.specs.Operations.{config_values}
use Rattle.cw_rest.specs.Replies.{unless, unless_bad, create_reply, create_named, put_reply, alter_reply, reply_to, values_of}
use Rattle.cw_rest.specs.Messages.{bad_name}
use Rattle.cw_rest.specs.Seen.{Seen}
use Rattle.cw_route.specs.declared.reply.Reply.{Reply}
use Rattle.cw_model.specs.Journal.{is_success}

module _ (seen : Seen) where
  -- ---- it doesn't succeed

  named-fails : (b : Bool) → is_success (unless b bad_name rebalancing) ≡ false
  named-fails true = refl
  named-fails false = refl

  created-fails : (o : Option Asked) → is_success (unless_bad o (create_reply false seen)) ≡ false
  created-fails None = refl
  created-fails (Some asked) = named-fails (is_name asked.name)

  put-fails : (name : List ℕ) (o : Option Properties) → is_success (unless_bad o (put_reply false seen name)) ≡ false
  put-fails name None = refl
  put-fails name (Some config) = refl

  altered-fails : (name : List ℕ) (o : Option (List Alteration)) → is_success (unless_bad o (alter_reply false seen name)) ≡ false
  altered-fails name None = refl
  altered-fails name (Some list) = refl

  pub unready-fails : (call : Call) → is_reading (deed_of call) ≡ false → is_success (reply_to false seen call) ≡ false
  unready-fails (Create body) writes = created-fails (asked_in body)
  unready-fails (PutConfig name body) writes = put-fails name (config_in name body)
  unready-fails (Delete name) writes = refl
  unready-fails (Pause name) writes = refl
  unready-fails (Resume name) writes = refl
  unready-fails (Stop name) writes = refl
  unready-fails (Restart name) writes = refl
  unready-fails (RestartTask id) writes = refl
  unready-fails (Alter name body) writes = altered-fails name (alterations_in name body)
  unready-fails (Reset name) writes = refl
  unready-fails (Refused fault) writes = absurd (let no : true ≡ false = writes in cc)
  unready-fails Connectors writes = absurd (let no : true ≡ false = writes in cc)
  unready-fails (Info name) writes = absurd (let no : true ≡ false = writes in cc)
  unready-fails (Config name) writes = absurd (let no : true ≡ false = writes in cc)
  unready-fails (Status name) writes = absurd (let no : true ≡ false = writes in cc)
  unready-fails (Tasks name) writes = absurd (let no : true ≡ false = writes in cc)
  unready-fails (TaskStatus id) writes = absurd (let no : true ≡ false = writes in cc)
  unready-fails (Offsets name) writes = absurd (let no : true ≡ false = writes in cc)
  unready-fails Plugins writes = absurd (let no : true ≡ false = writes in cc)

  -- ---- it is told that a rebalance goes on

  named-waits : (b : Bool) (done : Reply) → is_success (unless b bad_name done) ≡ true → unless b bad_name rebalancing ≡ rebalancing
  named-waits true done ok = refl
  named-waits false done ok = absurd (let no : false ≡ true = ok in cc)

  created-waits : (o : Option Asked) → is_success (unless_bad o (create_reply true seen)) ≡ true →
      unless_bad o (create_reply false seen) ≡ rebalancing
  created-waits None ok = absurd (let no : false ≡ true = ok in cc)
  created-waits (Some asked) ok = named-waits (is_name asked.name) (create_named true seen asked.name asked.config) ok

  put-waits : (name : List ℕ) (o : Option Properties) → is_success (unless_bad o (put_reply true seen name)) ≡ true →
      unless_bad o (put_reply false seen name) ≡ rebalancing
  put-waits name None ok = absurd (let no : false ≡ true = ok in cc)
  put-waits name (Some config) ok = refl

  altered-waits : (name : List ℕ) (o : Option (List Alteration)) → is_success (unless_bad o (alter_reply true seen name)) ≡ true →
      unless_bad o (alter_reply false seen name) ≡ rebalancing
  altered-waits name None ok = absurd (let no : false ≡ true = ok in cc)
  altered-waits name (Some list) ok = refl

  pub unready-waits : (call : Call) → is_reading (deed_of call) ≡ false → is_success (reply_to true seen call) ≡ true →
      reply_to false seen call ≡ rebalancing
  unready-waits (Create body) writes ok = created-waits (asked_in body) ok
  unready-waits (PutConfig name body) writes ok = put-waits name (config_in name body) ok
  unready-waits (Delete name) writes ok = refl
  unready-waits (Pause name) writes ok = refl
  unready-waits (Resume name) writes ok = refl
  unready-waits (Stop name) writes ok = refl
  unready-waits (Restart name) writes ok = refl
  unready-waits (RestartTask id) writes ok = refl
  unready-waits (Alter name body) writes ok = altered-waits name (alterations_in name body) ok
  unready-waits (Reset name) writes ok = refl
  unready-waits (Refused fault) writes ok = absurd (let no : true ≡ false = writes in cc)
  unready-waits Connectors writes ok = absurd (let no : true ≡ false = writes in cc)
  unready-waits (Info name) writes ok = absurd (let no : true ≡ false = writes in cc)
  unready-waits (Config name) writes ok = absurd (let no : true ≡ false = writes in cc)
  unready-waits (Status name) writes ok = absurd (let no : true ≡ false = writes in cc)
  unready-waits (Tasks name) writes ok = absurd (let no : true ≡ false = writes in cc)
  unready-waits (TaskStatus id) writes ok = absurd (let no : true ≡ false = writes in cc)
  unready-waits (Offsets name) writes ok = absurd (let no : true ≡ false = writes in cc)
  unready-waits Plugins writes ok = absurd (let no : true ≡ false = writes in cc)

-- ---- what it writes

module _ (ready : Bool) (seen : Seen) where
  some-created : (o : Option Asked) → is_success (unless_bad o (create_reply ready seen)) ≡ true →
      1 ≤ length (option_map_or (λ asked. config_values asked.name asked.config) o [])
  some-created None ok = absurd (let no : false ≡ true = ok in cc)
  some-created (Some asked) ok = omega arith

  some-put : (name : List ℕ) (o : Option Properties) → is_success (unless_bad o (put_reply ready seen name)) ≡ true →
      1 ≤ length (option_map_or (config_values name) o [])
  some-put name None ok = absurd (let no : false ≡ true = ok in cc)
  some-put name (Some config) ok = omega arith

  pub some-values : (call : Call) → deed_of call ≡ writes_configs → is_success (reply_to ready seen call) ≡ true → 1 ≤ length (values_of call)
  some-values (Create body) deed ok = some-created (asked_in body) ok
  some-values (PutConfig name body) deed ok = some-put name (config_in name body) ok
  some-values (Delete name) deed ok = omega arith
  some-values (Pause name) deed ok = omega arith
  some-values (Resume name) deed ok = omega arith
  some-values (Stop name) deed ok = omega arith
  some-values (Restart name) deed ok = absurd (cc)
  some-values (RestartTask id) deed ok = absurd (cc)
  some-values (Alter name body) deed ok = absurd (cc)
  some-values (Reset name) deed ok = absurd (cc)
  some-values (Refused fault) deed ok = absurd (cc)
  some-values Connectors deed ok = absurd (cc)
  some-values (Info name) deed ok = absurd (cc)
  some-values (Config name) deed ok = absurd (cc)
  some-values (Status name) deed ok = absurd (cc)
  some-values (Tasks name) deed ok = absurd (cc)
  some-values (TaskStatus id) deed ok = absurd (cc)
  some-values (Offsets name) deed ok = absurd (cc)
  some-values Plugins deed ok = absurd (cc)
