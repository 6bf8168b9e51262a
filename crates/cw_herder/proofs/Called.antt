-- A call of the REST API that writes does an operation of its leader.
use Rattle.std.proofs.Common.{◌≡◌, ℕ, ◌≤◌, [], true, List, length, Option, Some, None, option_map, refl, sym, ◌∙◌, ap, subst, arith}
use Rattle.std.specs.Option.{option_map_or}
use Rattle.cw_types.specs.declared.logs.LogName.TheVariants.{Config, Txn}
use Rattle.cw_keys.specs.declared.target.Target.TheVariants.{Started, Paused, Stopped}
use Rattle.cw_config.specs.View.{Properties}
use Rattle.cw_route.specs.declared.call.Call.{Call}
use Rattle.cw_route.specs.declared.call.Call.TheVariants.{Refused, Connectors, Create, Info, Delete, PutConfig, Status, Tasks, TaskStatus, Pause, Resume, Stop, Restart, RestartTask, Offsets, Alter, Reset, Plugins}
use Rattle.cw_route.specs.declared.call.Call.TheVariants as call
use Rattle.cw_rest.specs.Bodies.{Asked, asked_in, config_in}
use Rattle.cw_rest.specs.Calls.{writes_configs, writes_offsets, deed_of}
use Rattle.cw_rest.specs.Operations.{config_values, target_values, stop_values, delete_values}
use Rattle.cw_rest.specs.Replies.{values_of, offsets_of, connector_set}
use Rattle.cw_rest.specs.Seen.{KeyedValues, Seen}
use Rattle.cw_txn.specs.declared.entry.SetOffset.{SetOffset}
use Rattle.cw_model.specs.State.{Setting, Cluster}
use Rattle.cw_model.specs.Answers.{Answer}
use Rattle.cw_model.specs.EventsLeading.{append_config, set_offsets, MayAppendConfig, MaySetOffsets}
use Rattle.cw_model.specs.Lookups.{row_of}
use Rattle.cw_model.specs.Ready.{ready}
use Rattle.cw_route.specs.declared.reply.Reply.{Reply}
use Rattle.cw_edges.specs.Requests.{seen_now, would_succeed, behind_write}
use Rattle.cw_herder.specs.declared.op.Op.{Op}
use Rattle.cw_herder.specs.declared.op.Op.TheVariants as op
use Rattle.cw_herder.specs.declared.op.OpDone.{OpDone}
use Rattle.cw_herder.specs.declared.op.OpDone.TheVariants as done
use Rattle.cw_herder.specs.Operations.{op_event, writes, MayOp}
use Rattle.cw_herder.specs.Submits.{configs_op, asked_op, config_op, log_of, IsOpOf, IsWriteTo}
use Rattle.cw_herder.proofs.Asking.{configs-written, configs-stand, offsets-written, offsets-stand}
use Rattle.cw_herder.proofs.Behind.{behind-op, configs-write, offsets-write, op-write}

-- an operation writes these records
pub record Writes (values : KeyedValues) (asked : Op) : Type 0 where
  pub log : log_of asked ≡ Config
  pub event : (leader : ℕ) (s : Cluster) → op_event leader asked s ≡ writes leader values s
  pub may : (leader : ℕ) (s : Cluster) → MayAppendConfig leader values s → MayOp asked leader s

connector-writes : (name : List ℕ) (props : Properties) → Writes (config_values name props) (op.Connector name props)
unfolding op_event MayOp
connector-writes name props = record { log = refl; event = λ leader s. refl; may = λ leader s may. may }

created-writes : (o : Option Asked) (asked : Op) → option_map asked_op o ≡ Some asked →
    Writes (option_map_or (λ a. config_values a.name a.config) o []) asked
created-writes None asked is = absurd (cc)
created-writes (Some a) asked is =
    let same : asked_op a ≡ asked = cc in subst (λ (x : Op). Writes (config_values a.name a.config) x) same (connector-writes a.name a.config)

configured-writes : (name : List ℕ) (o : Option Properties) (asked : Op) → option_map (config_op name) o ≡ Some asked →
    Writes (option_map_or (config_values name) o []) asked
configured-writes name None asked is = absurd (cc)
configured-writes name (Some props) asked is =
    let same : config_op name props ≡ asked = cc in subst (λ (x : Op). Writes (config_values name props) x) same (connector-writes name props)

as-is : (values : KeyedValues) (own asked : Op) → Some own ≡ Some asked → Writes values own → Writes values asked
as-is values own asked is does = let same : own ≡ asked = cc in subst (λ (x : Op). Writes values x) same does

call-writes : (call : Call) (asked : Op) → configs_op call ≡ Some asked → Writes (values_of call) asked
unfolding op_event MayOp
call-writes (Create body) asked is = created-writes (asked_in body) asked is
call-writes (PutConfig name body) asked is = configured-writes name (config_in name body) asked is
call-writes (Delete name) asked is = as-is (delete_values name) (op.Delete name) asked is
    (record { log = refl; event = λ leader s. refl; may = λ leader s may. may })
call-writes (Pause name) asked is = as-is (target_values name Paused) (op.SetTarget name Paused) asked is
    (record { log = refl; event = λ leader s. refl; may = λ leader s may. may })
call-writes (Resume name) asked is = as-is (target_values name Started) (op.SetTarget name Started) asked is
    (record { log = refl; event = λ leader s. refl; may = λ leader s may. may })
call-writes (Stop name) asked is = as-is (stop_values name) (op.SetTarget name Stopped) asked is
    (record { log = refl; event = λ leader s. refl; may = λ leader s may. may })
call-writes (Refused fault) asked is = absurd (cc)
call-writes Connectors asked is = absurd (cc)
call-writes (Info name) asked is = absurd (cc)
call-writes (call.Config name) asked is = absurd (cc)
call-writes (Status name) asked is = absurd (cc)
call-writes (Tasks name) asked is = absurd (cc)
call-writes (TaskStatus id) asked is = absurd (cc)
call-writes (Restart name) asked is = absurd (cc)
call-writes (RestartTask id) asked is = absurd (cc)
call-writes (Offsets name) asked is = absurd (cc)
call-writes (Alter name body) asked is = absurd (cc)
call-writes (Reset name) asked is = absurd (cc)
call-writes Plugins asked is = absurd (cc)

-- a call without an operation writes nothing
created-none : (o : Option Asked) → option_map asked_op o ≡ None → option_map_or (λ a. config_values a.name a.config) o [] ≡ []
created-none None is = refl
created-none (Some a) is = absurd (cc)

configured-none : (name : List ℕ) (o : Option Properties) → option_map (config_op name) o ≡ None → option_map_or (config_values name) o [] ≡ []
configured-none name None is = refl
configured-none name (Some props) is = absurd (cc)

none-writes : (call : Call) → configs_op call ≡ None → values_of call ≡ []
none-writes (Create body) is = created-none (asked_in body) is
none-writes (PutConfig name body) is = configured-none name (config_in name body) is
none-writes (Delete name) is = absurd (cc)
none-writes (Pause name) is = absurd (cc)
none-writes (Resume name) is = absurd (cc)
none-writes (Stop name) is = absurd (cc)
none-writes (Refused fault) is = refl
none-writes Connectors is = refl
none-writes (Info name) is = refl
none-writes (call.Config name) is = refl
none-writes (Status name) is = refl
none-writes (Tasks name) is = refl
none-writes (TaskStatus id) is = refl
none-writes (Restart name) is = refl
none-writes (RestartTask id) is = refl
none-writes (Offsets name) is = refl
none-writes (Alter name body) is = refl
none-writes (Reset name) is = refl
none-writes Plugins is = refl

pub some-written : (leader : ℕ) (s : Cluster) (call : Call) → MayAppendConfig leader (values_of call) s → configs_op call ≡ None → ⊥
some-written leader s call may none =
    let some : 1 ≤ length (values_of call) = may.some in
    let empty : length (values_of call) ≡ 0 = ap (λ (l : KeyedValues). length l) (none-writes call none) in
    omega (arith, some, empty)

-- ---- the operation of a call

module _ (setting : Setting) (w : ℕ) (call : Call) (s : Cluster) (alive : s.closed ≡ None) (live : (row_of w s).live ≡ true) (leader : ℕ)
    (through : ready w s ≡ Some leader) (succeeds : would_succeed setting w call s ≡ true) where
  abbrev behind : Answer OpDone → Answer Reply
  behind did = behind_write setting w call s did.0 did.1

  pub configs-op : deed_of call ≡ writes_configs → MayAppendConfig leader (values_of call) s → (asked : Op) → configs_op call ≡ Some asked →
      IsOpOf setting w call leader asked s
  configs-op deed may asked is =
      let does = call-writes call asked is in
      record {
        may = does.may leader s may;
        does = configs-written setting w call s alive live deed leader through succeeds ∙
            behind-op setting w call s (append_config leader (values_of call) s).0 (append_config leader (values_of call) s).1 (λ _. done.Written) ∙
            ap behind (sym (does.event leader s));
        leaves = configs-stand setting w call s alive live deed leader ∙ ap (λ (did : Answer OpDone). did.1) (sym (does.event leader s));
      }

  pub offsets-op : deed_of call ≡ writes_offsets → MaySetOffsets leader (connector_set call) (offsets_of (seen_now setting w call s) call) s →
      IsOpOf setting w call leader (op.Offsets (connector_set call) (offsets_of (seen_now setting w call s) call)) s
  unfolding op_event MayOp
  offsets-op deed may =
      let event = set_offsets leader (connector_set call) (offsets_of (seen_now setting w call s) call) s in
      record {
        may = may;
        does = offsets-written setting w call s alive live deed leader through succeeds ∙
            behind-op setting w call s event.0 event.1 (λ _. done.Written);
        leaves = offsets-stand setting w call s alive live deed leader;
      }

pub configs-op-log : (call : Call) (asked : Op) → configs_op call ≡ Some asked → log_of asked ≡ Config
configs-op-log call asked is = (call-writes call asked is).log

pub configs-op-write : (call : Call) (leader : ℕ) (s : Cluster) (asked : Op) → configs_op call ≡ Some asked →
    IsWriteTo (log_of asked) (op_event leader asked s) s
configs-op-write call leader s asked is =
    let does = call-writes call asked is in
    rw (does.log, does.event leader s) (op-write Config (append_config leader (values_of call) s) s (λ _. done.Written) (configs-write leader (values_of call) s))

pub offsets-op-write : (leader : ℕ) (name : List ℕ) (list : List SetOffset) (s : Cluster) →
    IsWriteTo Txn (op_event leader (op.Offsets name list) s) s
unfolding op_event
offsets-op-write leader name list s = op-write Txn (set_offsets leader name list s) s (λ _. done.Written) (offsets-write leader name list s)

-- the offsets of a call over the cluster in memory are those over the world
pub given-offsets : (asked : Op) (name : List ℕ) (seen : Seen) (call : Call) (a b : Setting) (w : ℕ) (s t : Cluster) →
    asked ≡ op.Offsets name (offsets_of seen call) → name ≡ connector_set call → seen ≡ seen_now a w call s → a ≡ b → s ≡ t →
    asked ≡ op.Offsets (connector_set call) (offsets_of (seen_now b w call t) call)
given-offsets asked name seen call a b w s t given named sees setting state =
    given ∙ ap (λ (n : List ℕ). op.Offsets n (offsets_of seen call)) named ∙
    ap (λ (x : Seen). op.Offsets (connector_set call) (offsets_of x call))
    (sees ∙ ap (λ (x : Setting). seen_now x w call s) setting ∙ ap (λ (u : Cluster). seen_now b w call u) state)
