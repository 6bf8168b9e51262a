-- Values of the config, status and offset logs are read again from the JSON that is written for them.
use Rattle.std.proofs.Common.{◌≡◌, ℕ, ◌-◌, ◌^◌, ◌<◌, ◌≤◌, List, ◌++◌, true, false, Option, Some, None, Ok, option_map, option_and_then, codes, decimal, refl, ap, ◌∙◌, arith, lt-ltb}
use Rattle.std.specs.Str.{IsUtf8}
use Rattle.json.proofs.Printed.Utf8.{IsUtf8-are_ascii}
use Rattle.serde_json.specs.Data.{depth}
use Rattle.serde_json.specs.Written.{has_float}
use Rattle.cw_types.proofs.Decimals.{number_again}
use Rattle.cw_types.specs.declared.ids.Item.{Item}
use Rattle.cw_types.specs.declared.ids.PartKey.{PartKey}
use Rattle.cw_types.specs.declared.ids.PartKey.TheVariants as part
use Rattle.cw_json.specs.Reading.{reading}
use Rattle.cw_json.specs.Plain.{IsPlain}
use Rattle.cw_json.proofs.Pairs.{Pairs, data_of, flat, no_float_at, plain_props}
use Rattle.cw_json.proofs.Written.{reading-compact_text}
use Rattle.cw_keys.specs.Counts.{below_32, u64_at, count_data}
use Rattle.cw_keys.specs.Properties.{properties_data}
use Rattle.cw_keys.specs.Targets.{target_of, target_data, target_name, old_target_name}
use Rattle.cw_keys.specs.ConfigKeys.{config_key_text, IsConfigKey, may_be_removed}
use Rattle.cw_keys.specs.Configs.{config_value, config_data, config_text, with_value, with_key, or_bad_value, config_of, is_of_kind, is_record, IsCounted, HasTexts, IsConfigValue, IsTextOf}
use Rattle.cw_keys.specs.Statuses.{state_named, state_name, worker_named, trace_in, trace_data, status_with, status_value, status_data, status_text, status_key, with_item, status_of, IsItem, IsTrace, IsStatus}
use Rattle.cw_keys.specs.Offsets.{offset_name, offset_of, offset_text}
use Rattle.cw_keys.specs.declared.config_key.ConfigKey.{ConfigKey}
use Rattle.cw_keys.specs.declared.config_key.ConfigKey.TheVariants as key
use Rattle.cw_keys.specs.declared.config_value.ConfigValue.{ConfigValue}
use Rattle.cw_keys.specs.declared.config_value.ConfigValue.TheVariants.{Connector, Task, Commit, Target, Fencing}
use Rattle.cw_keys.specs.declared.target.Target as target
use Rattle.cw_keys.specs.declared.target.Target.TheVariants.{Started, Paused, Stopped}
use Rattle.cw_keys.specs.declared.state.State.{State}
use Rattle.cw_keys.specs.declared.state.State.TheVariants as state
use Rattle.cw_keys.specs.declared.status.StatusValue.{StatusValue}
use Rattle.cw_keys.proofs.Texts.{texts_again}
use Rattle.cw_keys.proofs.Ascii.{worker_utf8}
use Rattle.cw_keys.proofs.Keys.{config_key_again, status_item_again}

-- ---- values of the config log

properties_no_float : (ps : Pairs) → has_float (properties_data ps) ≡ false
properties_no_float ps = rw (no_float_at ps (data_of ps) refl) refl

properties_shallow : (ps : Pairs) → depth (properties_data ps) ≤ 127
properties_shallow ps = let two : depth (properties_data ps) ≡ 2 = rw (flat ps) refl in omega arith

pub config_no_float : (v : ConfigValue) → has_float (config_data v) ≡ false
config_no_float (Connector ps) = properties_no_float ps
config_no_float (Task ps) = properties_no_float ps
config_no_float (Commit n) = refl
config_no_float (Target t) = refl
config_no_float (Fencing n) = refl

pub config_shallow : (v : ConfigValue) → depth (config_data v) ≤ 127
config_shallow (Connector ps) = properties_shallow ps
config_shallow (Task ps) = properties_shallow ps
config_shallow (Commit n) = omega arith
config_shallow (Target t) = omega arith
config_shallow (Fencing n) = omega arith

pub below_again : (n : ℕ) → n < 2 ^ 32 → below_32 n ≡ Some n
below_again n h = rw (lt-ltb n (2 ^ 32) h) refl

target_again : (t : target.Target) → target_of (target_data t) ≡ Some t
target_again Started = refl
target_again Paused = refl
target_again Stopped = refl

config_value_again : (k : ConfigKey) (v : ConfigValue) → is_of_kind k v ≡ true → IsCounted v → config_value k (config_data v) ≡ Some v
config_value_again (key.Connector name) (Connector ps) kind counted = ap (option_map Connector) (texts_again ps)
config_value_again (key.Task id) (Task ps) kind counted = ap (option_map Task) (texts_again ps)
config_value_again (key.Commit name) (Commit n) kind counted = ap (option_map Commit) (below_again n counted)
config_value_again (key.Target name) (Target t) kind counted = ap (option_map Target) (target_again t)
config_value_again (key.Fencing name) (Fencing n) kind counted = ap (option_map Fencing) (below_again n counted)
config_value_again _ _ kind counted = cc

removed : (k : ConfigKey) → may_be_removed k ≡ true → with_value k None ≡ Ok (k, None)
removed k may = rw may refl

value_again : (k : ConfigKey) (v : Option ConfigValue) (text : Option (List ℕ)) → is_record k v ≡ true → IsTextOf text v → with_value k text ≡ Ok (k, v)
value_again k None None fits is = removed k fits
value_again k (Some v) None fits is = absurd is
value_again k None (Some text) fits is = absurd is
value_again k (Some v) (Some text) fits is = ap (or_bad_value k) (ap (option_and_then (config_value k)) is.0 ∙ config_value_again k v fits is.1)

-- a record is read again from its key and the text of its value
pub record_again : (k : ConfigKey) (v : Option ConfigValue) (bytes : List ℕ) (text : Option (List ℕ)) → IsConfigKey k → is_record k v ≡ true → bytes ≡ config_key_text k → IsTextOf text v → config_of bytes text ≡ Ok (k, v)
record_again k v bytes text named fits is tells =
    ap (λ b. config_of b text) is ∙ ap (λ o. with_key o text) (config_key_again k named) ∙ value_again k v text fits tells

plain_properties : (ps : Pairs) → HasTexts (Connector ps) → IsPlain (properties_data ps)
plain_properties ps texts = ((IsUtf8-are_ascii (codes "properties") refl, plain_props ps texts.0 texts.1, tt), refl)

target_name_utf8 : (t : target.Target) → IsUtf8 (target_name t)
target_name_utf8 Started = IsUtf8-are_ascii (codes "STARTED") refl
target_name_utf8 Paused = IsUtf8-are_ascii (codes "PAUSED") refl
target_name_utf8 Stopped = IsUtf8-are_ascii (codes "STOPPED") refl

old_target_name_utf8 : (t : target.Target) → IsUtf8 (old_target_name t)
old_target_name_utf8 Started = IsUtf8-are_ascii (codes "STARTED") refl
old_target_name_utf8 Paused = IsUtf8-are_ascii (codes "PAUSED") refl
old_target_name_utf8 Stopped = IsUtf8-are_ascii (codes "PAUSED") refl

plain_target : (t : target.Target) → IsPlain (target_data t)
plain_target t = ((IsUtf8-are_ascii (codes "state") refl, old_target_name_utf8 t, (IsUtf8-are_ascii (codes "state.v2") refl, target_name_utf8 t, tt)), refl)

plain_config : (v : ConfigValue) → IsCounted v → HasTexts v → IsPlain (config_data v)
plain_config (Connector ps) counted texts = plain_properties ps texts
plain_config (Task ps) counted texts = plain_properties ps texts
plain_config (Commit n) counted texts = let small : n < 2 ^ 32 = counted in ((IsUtf8-are_ascii (codes "tasks") refl, omega arith, tt), refl)
plain_config (Target t) counted texts = plain_target t
plain_config (Fencing n) counted texts = let small : n < 2 ^ 32 = counted in ((IsUtf8-are_ascii (codes "task-count") refl, omega arith, tt), refl)

tells : (v : Option ConfigValue) → IsConfigValue v → IsTextOf (option_map config_text v) v
tells None h = tt
tells (Some v) h = (reading-compact_text (config_data v) (plain_config v h.0 h.1) (config_shallow v), h.0)

pub config_law : (k : ConfigKey) (v : Option ConfigValue) → IsConfigKey k → IsConfigValue v → is_record k v ≡ true → config_of (config_key_text k) (option_map config_text v) ≡ Ok (k, v)
config_law k v named is fits = record_again k v (config_key_text k) (option_map config_text v) named fits refl (tells v is)

-- ---- values of the status log

state_again : (s : State) → state_named (state_name s) ≡ Some s
state_again state.Unassigned = refl
state_again state.Running = refl
state_again state.Paused = refl
state_again state.Failed = refl
state_again state.Restarting = refl
state_again state.Stopped = refl

trace_again : (t : Option (List ℕ)) → trace_in (trace_data t) ≡ Some t
trace_again None = refl
trace_again (Some text) = refl

worker_again : (n : ℕ) → n < 2 ^ 32 → worker_named (codes "worker-" ++ decimal n) ≡ Some n
worker_again n h = number_again (2 ^ 32 - 1) n (omega arith) (omega arith)

status_value_again : (s : StatusValue) → s.worker < 2 ^ 32 → status_value (status_data s) ≡ Some s
status_value_again s h =
    ap (λ a. status_with a (trace_in (trace_data s.trace)) (worker_named (codes "worker-" ++ decimal s.worker)) (Some s.round)) (state_again s.state)
    ∙ ap (λ b. status_with (Some s.state) b (worker_named (codes "worker-" ++ decimal s.worker)) (Some s.round)) (trace_again s.trace)
    ∙ ap (λ c. status_with (Some s.state) (Some s.trace) c (Some s.round)) (worker_again s.worker h)

-- a record is read again from its key and the text of its status
pub status_record_again : (i : Item) (s : StatusValue) (bytes text : List ℕ) → IsItem i → s.worker < 2 ^ 32 → bytes ≡ status_key i → reading text ≡ Some (status_data s) → status_of bytes text ≡ Ok (i, s)
status_record_again i s bytes text named small is tells =
    ap (λ b. status_of b text) is ∙ ap (λ o. with_item o (option_and_then status_value (reading text))) (status_item_again i named)
    ∙ ap (with_item (Some i)) (ap (option_and_then status_value) tells ∙ status_value_again s small)

state_name_utf8 : (s : State) → IsUtf8 (state_name s)
state_name_utf8 state.Unassigned = IsUtf8-are_ascii (codes "UNASSIGNED") refl
state_name_utf8 state.Running = IsUtf8-are_ascii (codes "RUNNING") refl
state_name_utf8 state.Paused = IsUtf8-are_ascii (codes "PAUSED") refl
state_name_utf8 state.Failed = IsUtf8-are_ascii (codes "FAILED") refl
state_name_utf8 state.Restarting = IsUtf8-are_ascii (codes "RESTARTING") refl
state_name_utf8 state.Stopped = IsUtf8-are_ascii (codes "STOPPED") refl

plain_trace : (t : Option (List ℕ)) → IsTrace t → IsPlain (trace_data t)
plain_trace None h = tt
plain_trace (Some text) h = h

plain_status : (s : StatusValue) → IsStatus s → IsPlain (status_data s)
plain_status s h =
    let small : s.worker < 2 ^ 32 = h.1 in (
      (
        IsUtf8-are_ascii (codes "generation") refl,
        h.2,
        (
          IsUtf8-are_ascii (codes "state") refl,
          state_name_utf8 s.state,
          (IsUtf8-are_ascii (codes "trace") refl, plain_trace s.trace h.0, (IsUtf8-are_ascii (codes "worker_id") refl, worker_utf8 s.worker (omega arith), tt)),
        ),
      ),
      refl,
    )

trace_depth : (t : Option (List ℕ)) → depth (trace_data t) ≡ 0
trace_depth None = refl
trace_depth (Some text) = refl

status_shallow : (s : StatusValue) → depth (status_data s) ≤ 127
status_shallow s = let one : depth (status_data s) ≡ 1 = rw (trace_depth s.trace) refl in omega arith

pub status_law : (i : Item) (s : StatusValue) → IsItem i → IsStatus s → status_of (status_key i) (status_text s) ≡ Ok (i, s)
status_law i s named h = status_record_again i s (status_key i) (status_text s) named h.1 refl (reading-compact_text (status_data s) (plain_status s h) (status_shallow s))

-- ---- values of the offset log

offset_name_utf8 : (p : PartKey) → IsUtf8 (offset_name p)
offset_name_utf8 (part.Raw n) = IsUtf8-are_ascii (codes "position") refl
offset_name_utf8 (part.File connector feed) = IsUtf8-are_ascii (codes "position") refl
offset_name_utf8 (part.Seq connector index) = IsUtf8-are_ascii (codes "position") refl
offset_name_utf8 (part.Sink connector topic) = IsUtf8-are_ascii (codes "kafka_offset") refl

offset_again : (p : PartKey) (n : ℕ) → u64_at (offset_name p) (count_data (offset_name p) n) ≡ Some n
offset_again (part.Raw n) at = refl
offset_again (part.File connector feed) at = refl
offset_again (part.Seq connector index) at = refl
offset_again (part.Sink connector topic) at = refl

-- an offset is read again from its text
pub offset_text_again : (p : PartKey) (n : ℕ) (text : List ℕ) → reading text ≡ Some (count_data (offset_name p) n) → offset_of p text ≡ Some n
offset_text_again p n text is = ap (option_and_then (u64_at (offset_name p))) is ∙ offset_again p n

pub offset_law : (p : PartKey) (n : ℕ) → n < 2 ^ 64 → offset_of p (offset_text p n) ≡ Some n
offset_law p n h =
    offset_text_again p n (offset_text p n) (reading-compact_text (count_data (offset_name p) n) ((offset_name_utf8 p, h, tt), refl) (omega arith))
