-- The values that are told have no number with a fraction, so that their compact texts are exact.
use Rattle.std.proofs.Common.{◌≡◌, Bool, false, ◌||◌, List, [], ◌∷◌, ℕ, map, refl, ap, subst, ◌∙◌, Option, Some, None}
use Rattle.std.specs.List.{filter_map, cons_option}
use Rattle.cw_status.specs.Statuses.{latest}
use Rattle.cw_types.specs.declared.ids.Item.TheVariants.{Task}
use Rattle.serde_json.specs.Data.{Data, string}
use Rattle.serde_json.specs.View.{items_of}
use Rattle.serde_json.specs.Written.{has_float, items_have_float}
use Rattle.cw_types.specs.declared.ids.PartKey.{PartKey}
use Rattle.cw_types.specs.declared.ids.PartKey.TheVariants.{Raw, File, Seq, Sink}
use Rattle.cw_types.specs.declared.ids.TaskId.{TaskId}
use Rattle.std.specs.Option.{unwrap_or, option_map}
use Rattle.cw_config.specs.View.{Properties, task_of}
use Rattle.cw_config.specs.declared.records.ConfigRecord.{ConfigRecord}
use Rattle.cw_keys.specs.Statuses.{trace_data}
use Rattle.cw_keys.specs.declared.state.State.{State}
use Rattle.cw_keys.specs.declared.state.State.TheVariants.{Unassigned, Running, Paused, Failed, Restarting, Stopped}
use Rattle.cw_keys.specs.declared.status.StatusValue.{StatusValue}
use Rattle.cw_json.proofs.Pairs.{no_float_at}
use Rattle.cw_rest.specs.Seen.{Seen, connectors_in}
use Rattle.cw_rest.specs.Pages as page

-- a list of whole values
pub list_whole : {A : Type 0} (f : A → Data) → ((x : A) → has_float (f x) ≡ false) → (xs : List A) → has_float (page.list_of (map f xs)) ≡ false
list_whole f each [] = refl
list_whole f each (x ∷ xs) = ap (λ (b : Bool). b || items_have_float (items_of (map f xs))) (each x) ∙ list_whole f each xs

pub props_whole : (props : Properties) → has_float (page.properties props) ≡ false
props_whole props = no_float_at props (page.properties props) refl

pub id_whole : (id : TaskId) → has_float (page.id_data id) ≡ false
id_whole id = refl

pub info_whole : (name : List ℕ) (config : Properties) (tasks : List TaskId) → has_float (page.info_with name config tasks) ≡ false
info_whole name config tasks =
    ap (λ (b : Bool). b || (has_float (page.list_of (map page.id_data tasks)) || false)) (props_whole config)
    ∙ ap (λ (b : Bool). b || false) (list_whole page.id_data id_whole tasks)

pub task_whole : (configs : List ConfigRecord) (id : TaskId) → has_float (page.task_data configs id) ≡ false
task_whole configs id = ap (λ (b : Bool). b || false) (props_whole (unwrap_or (task_of id configs) []))

pub tasks_whole : (name : List ℕ) (seen : Seen) → has_float (page.task_infos name seen) ≡ false
tasks_whole name seen = list_whole (page.task_data seen.configs) (task_whole seen.configs) (page.tasks_seen name seen)

pub names_whole : (seen : Seen) → has_float (page.names seen) ≡ false
names_whole seen = list_whole string (λ name. refl) (connectors_in seen)

-- each of the values, as it is told
pub config_told : (d : Data) (props : Properties) → d ≡ page.properties props → has_float d ≡ false
config_told d props is = ap has_float is ∙ props_whole props

pub info_told : (d : Data) (name : List ℕ) (config : Properties) (tasks : List TaskId) → d ≡ page.info_with name config tasks → has_float d ≡ false
info_told d name config tasks is = ap has_float is ∙ info_whole name config tasks

pub tasks_told : (d : Data) (name : List ℕ) (seen : Seen) → d ≡ page.task_infos name seen → has_float d ≡ false
tasks_told d name seen is = ap has_float is ∙ tasks_whole name seen

pub names_told : (d : Data) (seen : Seen) → d ≡ page.names seen → has_float d ≡ false
names_told d seen is = ap has_float is ∙ names_whole seen

trace_whole : (trace : Option (List ℕ)) → has_float (trace_data trace) ≡ false
trace_whole None = refl
trace_whole (Some text) = refl

-- a status, where it is one of a failure and where it isn't
members_whole : (status : StatusValue) (state : State) → status.state ≡ state → has_float (page.object_of (page.status_members status)) ≡ false
members_whole status Unassigned is = rw is refl
members_whole status Running is = rw is refl
members_whole status Paused is = rw is refl
members_whole status Failed is = rw is (ap (λ (b : Bool). b || false) (trace_whole status.trace))
members_whole status Restarting is = rw is refl
members_whole status Stopped is = rw is refl

task_members_whole : (index : ℕ) (status : StatusValue) (state : State) → status.state ≡ state → has_float (page.task_status index status) ≡ false
task_members_whole index status Unassigned is = rw is refl
task_members_whole index status Running is = rw is refl
task_members_whole index status Paused is = rw is refl
task_members_whole index status Failed is = rw is (ap (λ (b : Bool). b || false) (trace_whole status.trace))
task_members_whole index status Restarting is = rw is refl
task_members_whole index status Stopped is = rw is refl

pub task_status_whole : (index : ℕ) (status : StatusValue) → has_float (page.task_status index status) ≡ false
task_status_whole index status = task_members_whole index status status.state refl

pub task_status_told : (d : Data) (index : ℕ) (status : StatusValue) → d ≡ page.task_status index status → has_float d ≡ false
task_status_told d index status is = ap has_float is ∙ task_status_whole index status

some_whole : (seen : Seen) (o : Option Data) (ds : List Data) → ((d : Data) → o ≡ Some d → has_float d ≡ false) → has_float (page.list_of ds) ≡ false
    → has_float (page.list_of (cons_option o ds)) ≡ false
some_whole seen None ds each more = more
some_whole seen (Some d) ds each more = ap (λ (b : Bool). b || items_have_float (items_of ds)) (each d refl) ∙ more

status_of_task_whole : (id : TaskId) (o : Option StatusValue) (d : Data) → option_map (page.task_status id.index) o ≡ Some d → has_float d ≡ false
status_of_task_whole id None d is = absurd (cc)
status_of_task_whole id (Some status) d is = subst (λ (o : Option Data). has_float (unwrap_or o d) ≡ false) is (task_status_whole id.index status)

statuses_whole : (seen : Seen) (tasks : List TaskId) → has_float (page.list_of (filter_map (page.status_of_task seen) tasks)) ≡ false
statuses_whole seen [] = refl
statuses_whole seen (id ∷ tasks) =
    some_whole seen (page.status_of_task seen id) (filter_map (page.status_of_task seen) tasks)
    (λ d is. status_of_task_whole id (latest (Task id) seen.statuses) d is) (statuses_whole seen tasks)

pub connector_status_told : (d : Data) (name : List ℕ) (status : StatusValue) (seen : Seen) → d ≡ page.connector_status name status seen → has_float d ≡ false
connector_status_told d name status seen is =
    ap has_float is
    ∙ ap (λ (b : Bool). b || (has_float (page.task_statuses name seen) || false)) (members_whole status status.state refl)
    ∙ ap (λ (b : Bool). b || false) (statuses_whole seen (page.tasks_seen name seen))

offset_whole : (seen : Seen) (part : PartKey) → has_float (page.offset_info seen part) ≡ false
offset_whole seen (Raw n) = refl
offset_whole seen (File connector feed) = refl
offset_whole seen (Seq connector index) = refl
offset_whole seen (Sink connector topic) = refl

pub offsets_told : (d : Data) (name : List ℕ) (seen : Seen) → d ≡ page.offset_infos name seen → has_float d ≡ false
offsets_told d name seen is =
    ap has_float is ∙ ap (λ (b : Bool). b || false) (list_whole (page.offset_info seen) (offset_whole seen) (page.parts_seen name seen))
