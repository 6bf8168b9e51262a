-- What a call of the REST API that succeeds writes to the config log, or sets of offsets, may be written.
use Rattle.std.proofs.Common.{◌≡◌, ℕ, [], Bool, true, false, not, List, Option, Some, None, IsSome, Result, Ok, Err, is_some, unwrap_or, option_and_then, refl, sym, subst}
use Rattle.std.specs.Option.{option_map_or, is_none}
use Rattle.std.proofs.lemmas.List.Elements.{All-from_recursion}
use Rattle.cw_types.specs.Name.{IsName, name_fault}
use Rattle.cw_types.specs.Same.{connector_of}
use Rattle.cw_types.specs.declared.name.NameFault.{NameFault}
use Rattle.cw_config.specs.View.{Properties, config_of, target_of}
use Rattle.cw_keys.specs.declared.target.Target.{Target}
use Rattle.cw_keys.specs.declared.target.Target.TheVariants.{Started, Paused, Stopped}
use Rattle.cw_plugin.specs.declared.class.Class.{Class}
use Rattle.cw_plugin.specs.declared.fault.PluginFault.{PluginFault}
use Rattle.cw_plugin.specs.declared.fault.PluginFault.TheVariants as plugin
use Rattle.cw_plugin.specs.Checks.{checked, is_name, is_among}
use Rattle.cw_route.specs.declared.call.Call.{Call}
use Rattle.cw_route.specs.declared.call.Call.TheVariants.{Refused, Connectors, Create, Info, Delete, Config, PutConfig, Status, Tasks, TaskStatus, Pause, Resume, Stop, Restart, RestartTask, Offsets, Alter, Reset, Plugins}
use Rattle.cw_route.specs.declared.reply.Reply.{Reply}
use Rattle.cw_rest.specs.Bodies.{Asked, asked_in, config_in}
use Rattle.cw_rest.specs.Calls.{writes_configs, writes_offsets, deed_of}
use Rattle.cw_rest.specs.Messages.{bad_config, bad_name, rebalancing, no_connector, already_there, not_stopped, bad_offset, empty_reply}
use Rattle.cw_rest.specs.Offsets.{Alteration, parts_with_offsets, alterations_in}
use Rattle.cw_rest.specs.Operations.{config_values, removals}
use Rattle.cw_rest.specs.Pages.{config_seen, is_source, parts_seen}
use Rattle.cw_rest.specs.Replies.{unless, unless_bad, unless_faulty, if_taken, if_there, create_reply, put_reply, target_reply, is_stopped, if_stopped, sets_of, alter_reply, reset_reply, reply_to, values_of, connector_set, offsets_of}
use Rattle.cw_rest.specs.Seen.{Seen, is_connector}
use Rattle.cw_txn.specs.Body.{IsSet}
use Rattle.cw_txn.specs.declared.entry.SetOffset.{SetOffset}
use Rattle.cw_model.specs.State.{Setting, Cluster}
use Rattle.cw_model.specs.Lookups.{row_of}
use Rattle.cw_model.specs.EventsLeading.{MayAppendConfig, MaySetOffsets}
use Rattle.cw_model.specs.Facts.{AreFacts}
use Rattle.cw_model.specs.Journal.{is_success}
use Rattle.cw_laws.specs.Requests.{IsOfName, HasNamedFeeds}
use Rattle.cw_laws.proofs.AllowedTasks.{name-facts}
use Rattle.cw_laws.proofs.CallConfigs.{config-written, asked_in-written, taken-faultless}
use Rattle.cw_laws.proofs.CallOffsets.{MaySet, removals-may, alterations-may, alterations-listed}
use Rattle.cw_laws.proofs.Operations.{config-may, target-may, stop-may, delete-may}
use Rattle.cw_laws.proofs.TaskTexts.{AreWritable}
use Rattle.cw_laws.proofs.Ticks.{some-of}

-- ---- refusals are no successes

pub unless-done : (b : Bool) (lacking done : Reply) → is_success lacking ≡ false → is_success (unless b lacking done) ≡ true → (b ≡ true) × (is_success done ≡ true)
unless-done true lacking done fails ok = (refl, ok)
unless-done false lacking done fails ok = absurd (cc)

bad-config : (fault : PluginFault) → is_success (bad_config fault) ≡ false
bad-config plugin.NoClass = refl
bad-config plugin.UnknownClass = refl
bad-config (plugin.Missing key) = refl
bad-config (plugin.BadInt key) = refl
bad-config (plugin.NoFeed feed) = refl
bad-config (plugin.BadName key) = refl
bad-config plugin.Memory = refl

pub taken-done : (r : Result Class PluginFault) (done : Reply) → is_success (unless_faulty r done) ≡ true → (class : Class) × (r ≡ Ok class)
taken-done (Ok class) done ok = (class, refl)
taken-done (Err fault) done ok = let fails : is_success (bad_config fault) ≡ false = bad-config fault in absurd (cc)

pub name-passes : (name : List ℕ) → is_name name ≡ true → IsName name
name-passes name is = by (name_fault name) refl is where
  by : (o : Option NameFault) → name_fault name ≡ o → is_none o ≡ true → IsName name
  by None none is = none
  by (Some fault) some is = absurd (cc)

-- ---- what each call writes

module _ (setting : Setting) (s : Cluster) (leader : ℕ) (seen : Seen) (ready : Bool) (f : AreFacts setting s) (leads : IsSome (row_of leader s).lead)
    (feeds : HasNamedFeeds seen) (same : seen.configs ≡ s.configs) where
  configures : (name : List ℕ) (props : Properties) (done : Reply) → IsName name → AreWritable props → is_success (if_taken props seen done) ≡ true →
      MayAppendConfig leader (config_values name props) s
  configures name props done named writable ok =
      let class = taken-done (checked (is_among seen.feeds) props) done ok in
      config-may s leader name props leads record {
        named = named;
        faultless = taken-faultless seen.feeds props class.0 feeds class.1;
        rising = writable.0;
        texts = writable.1;
      }

  configured-name : (name : List ℕ) (code : ℕ) → is_success (target_reply ready seen name code) ≡ true → IsName name
  configured-name name code ok =
      let one = unless-done ready rebalancing (if_there name seen (empty_reply code)) refl ok in
      let two = unless-done (is_connector name seen) (no_connector name) (empty_reply code) refl one.1 in
      (name-facts name s.configs f.logs.configs.allowed).config
      (some-of (config_of name s.configs) (subst (λ l. is_some (config_of name l) ≡ true) same two.0))

  creates : (body : List ℕ) (o : Option Asked) → ((asked : Asked) → o ≡ Some asked → IsName asked.name → AreWritable asked.config) →
      is_success (unless_bad o (create_reply ready seen)) ≡ true →
      MayAppendConfig leader (option_map_or (λ asked. config_values asked.name asked.config) o []) s
  creates body None written-asked ok = absurd (let never : false ≡ true = ok in cc)
  creates body (Some asked) written-asked ok =
      let one = unless-done (is_name asked.name) bad_name _ refl ok in
      let two = unless-done ready rebalancing _ refl one.1 in
      let three = unless-done (not (is_connector asked.name seen)) (already_there asked.name) _ refl two.1 in
      let named : IsName asked.name = name-passes asked.name one.0 in
      configures asked.name asked.config _ named (written-asked asked refl named) three.1

  puts : (name : List ℕ) (o : Option Properties) → IsName name → ((props : Properties) → o ≡ Some props → AreWritable props) →
      is_success (unless_bad o (put_reply ready seen name)) ≡ true → MayAppendConfig leader (option_map_or (config_values name) o []) s
  puts name None named written-config ok = absurd (let never : false ≡ true = ok in cc)
  puts name (Some props) named written-config ok =
      let one = unless-done ready rebalancing _ refl ok in
      configures name props _ named (written-config props refl) one.1

  pub values-may : (call : Call) → IsOfName call → deed_of call ≡ writes_configs → is_success (reply_to ready seen call) ≡ true → MayAppendConfig leader (values_of call) s
  values-may (Create body) named deed ok = creates body (asked_in body) (λ asked there own. asked_in-written body asked own there) ok
  values-may (PutConfig name body) named deed ok = puts name (config_in name body) named (λ props there. config-written name body props named there) ok
  values-may (Delete name) named deed ok = delete-may s leader name leads (configured-name name 204 ok)
  values-may (Pause name) named deed ok = target-may s leader name Paused leads (configured-name name 202 ok) (λ e. cc)
  values-may (Resume name) named deed ok = target-may s leader name Started leads (configured-name name 202 ok) (λ e. cc)
  values-may (Stop name) named deed ok = stop-may s leader name leads (configured-name name 204 ok)
  values-may (Refused fault) named deed ok = absurd (cc)
  values-may Connectors named deed ok = absurd (cc)
  values-may (Info name) named deed ok = absurd (cc)
  values-may (Config name) named deed ok = absurd (cc)
  values-may (Status name) named deed ok = absurd (cc)
  values-may (Tasks name) named deed ok = absurd (cc)
  values-may (TaskStatus id) named deed ok = absurd (cc)
  values-may (Restart name) named deed ok = absurd (cc)
  values-may (RestartTask id) named deed ok = absurd (cc)
  values-may (Offsets name) named deed ok = absurd (cc)
  values-may (Alter name body) named deed ok = absurd (cc)
  values-may (Reset name) named deed ok = absurd (cc)
  values-may Plugins named deed ok = absurd (cc)

-- ---- what each call sets

stops : (target : Target) → is_stopped target ≡ true → target ≡ Stopped
stops Started is = absurd (let never : false ≡ true = is in cc)
stops Paused is = absurd (let never : false ≡ true = is in cc)
stops Stopped is = refl

module _ (setting : Setting) (s : Cluster) (leader : ℕ) (seen : Seen) (ready : Bool) (f : AreFacts setting s) (leads : IsSome (row_of leader s).lead)
    (same : seen.configs ≡ s.configs) (entries : seen.entries ≡ s.entries) where
  -- a connector whose offsets may be modified
  record IsModifiable (name : List ℕ) (done : Reply) : Type 0 where
    named : IsName name
    stopped : target_of name s.configs ≡ Stopped
    succeeds : is_success done ≡ true

  modifiable : (name : List ℕ) (done : Reply) → is_success (if_stopped ready seen name done) ≡ true → IsModifiable name done
  modifiable name done ok =
      let one = unless-done ready rebalancing _ refl ok in
      let two = unless-done (is_connector name seen) (no_connector name) _ refl one.1 in
      let three = unless-done (is_stopped (target_of name seen.configs)) not_stopped done refl two.1 in
      record {
        named = (name-facts name s.configs f.logs.configs.allowed).config
            (some-of (config_of name s.configs) (subst (λ l. is_some (config_of name l) ≡ true) same two.0));
        stopped = subst (λ l. target_of name l ≡ Stopped) same (stops (target_of name seen.configs) three.0);
        succeeds = three.1;
      }

  sets : (name : List ℕ) (list : List SetOffset) → target_of name s.configs ≡ Stopped → MaySet name list → MaySetOffsets leader name list s
  sets name list stopped may = record {
    leads = leads;
    stopped = stopped;
    own = All-from_recursion (λ (set : SetOffset). connector_of set.part ≡ Some name) list may.own;
    distinct = may.distinct;
    fit = All-from_recursion IsSet list may.fit;
  }

  alters : (name body : List ℕ) (o : Option (List Alteration)) → alterations_in name body ≡ o → is_success (unless_bad o (alter_reply ready seen name)) ≡ true →
      MaySetOffsets leader name (unwrap_or (option_and_then (sets_of name seen) o) []) s
  alters name body None none ok = absurd (let never : false ≡ true = ok in cc)
  alters name body (Some list) there ok =
      let may : IsModifiable name _ = modifiable name _ ok in
      let given = unless-done (is_some (sets_of name seen list)) bad_offset _ refl may.succeeds in
      of (sets_of name seen list) refl given.0 may.named may.stopped where
        of : (o : Option (List SetOffset)) → sets_of name seen list ≡ o → is_some o ≡ true → IsName name → target_of name s.configs ≡ Stopped → MaySetOffsets leader name (unwrap_or o []) s
        of None none some named stopped = absurd (let never : false ≡ true = some in cc)
        of (Some those) is some named stopped =
            sets name those stopped (alterations-may (is_source (config_seen name seen)) name list those named (alterations-listed name body list there) is)

  resets : (name : List ℕ) → is_success (reset_reply ready seen name) ≡ true → MaySetOffsets leader name (removals (parts_seen name seen)) s
  resets name ok =
      let may = modifiable name _ ok in
      sets name (removals (parts_seen name seen)) may.stopped
      (subst (λ l. MaySet name (removals (parts_with_offsets (is_source (config_seen name seen)) name l))) (sym entries)
      (removals-may setting s (is_source (config_seen name seen)) name f.logs))

  pub offsets-may : (call : Call) → deed_of call ≡ writes_offsets → is_success (reply_to ready seen call) ≡ true →
      MaySetOffsets leader (connector_set call) (offsets_of seen call) s
  offsets-may (Alter name body) deed ok = alters name body (alterations_in name body) refl ok
  offsets-may (Reset name) deed ok = resets name ok
  offsets-may (Create body) deed ok = absurd (cc)
  offsets-may (PutConfig name body) deed ok = absurd (cc)
  offsets-may (Delete name) deed ok = absurd (cc)
  offsets-may (Pause name) deed ok = absurd (cc)
  offsets-may (Resume name) deed ok = absurd (cc)
  offsets-may (Stop name) deed ok = absurd (cc)
  offsets-may (Refused fault) deed ok = absurd (cc)
  offsets-may Connectors deed ok = absurd (cc)
  offsets-may (Info name) deed ok = absurd (cc)
  offsets-may (Config name) deed ok = absurd (cc)
  offsets-may (Status name) deed ok = absurd (cc)
  offsets-may (Tasks name) deed ok = absurd (cc)
  offsets-may (TaskStatus id) deed ok = absurd (cc)
  offsets-may (Restart name) deed ok = absurd (cc)
  offsets-may (RestartTask id) deed ok = absurd (cc)
  offsets-may (Offsets name) deed ok = absurd (cc)
  offsets-may Plugins deed ok = absurd (cc)
