-- The logs of files that are read, and whose frames are allowed and safe, have the facts of logs.
use Rattle.std.proofs.Common.{◌≡◌, ℕ, ◌≤◌, List, [], ◌∷◌, ◌++◌, map, Option, Some, None, IsSome, Contains, refl, ap, sym, subst, ◌∙◌, arith}
use Rattle.std.specs.Option.{IsSomeAnd, option_map, option_and_then}
use Rattle.std.specs.List.{filter_map, AllByRecursion, AllZip}
use Rattle.std.proofs.lemmas.List.Elements.{All-contains_itself, recursion_from_All, filter_map-append}
use Rattle.cw_types.specs.declared.ids.Item.{Item}
use Rattle.cw_bytes.specs.declared.applied.Applied.{Applied}
use Rattle.cw_bytes.specs.Frames.{EachFrom, joined}
use Rattle.cw_bytes.specs.Unread.{Unread, AreBytes}
use Rattle.cw_bytes.specs.Reading.{Read, body_at}
use Rattle.cw_keys.specs.Statuses.{status_item, status_of, status_value, with_item, IsItem, IsStatus}
use Rattle.cw_keys.specs.declared.status.StatusValue.{StatusValue}
use Rattle.cw_keys.proofs.Keys.{status_item_only}
use Rattle.cw_json.specs.Reading.{reading}
use Rattle.cw_config.specs.declared.records.ConfigRecord.{ConfigRecord}
use Rattle.cw_config.specs.Compaction.{config_in, configs_in, AreConfigs, SaysTheSame}
use Rattle.cw_status.specs.declared.record.StatusRecord.{StatusRecord}
use Rattle.cw_status.specs.Compaction.{record_with, record_in, IsAllowedStatus}
use Rattle.cw_txn.specs.declared.entry.Entry.{Entry}
use Rattle.cw_model.specs.State.{StampedStatus}
use Rattle.cw_model.specs.Lookups.{list_end}
use Rattle.cw_model.specs.Bodies.{status_in, statuses_in}
use Rattle.cw_model.specs.ConfigsAllowed.{IsAllowedConfig, AreAllowedConfigs}
use Rattle.cw_model.specs.FactsLogs.{ConfigFacts, StatusFacts, FitsStatus}
use Rattle.cw_model.specs.StandsFor.{IsAllowedFrame, AreStamped}
use Rattle.cw_laws.proofs.Lists.{each-append}
use Rattle.cw_laws.proofs.CompactConfigs.{AreRead as AreConfigsRead, read-cons as read-config, config-reads, some_value}
use Rattle.cw_laws.proofs.CompactStatuses.{AreRead as AreStatusesRead, read-cons as read-status, stamped-reads, status-reads, end-read}
use Rattle.cw_laws.proofs.Framed.{each_from-append, any_from-each}
use Rattle.cw_laws.proofs.Reopens.{configs-push}

-- ---- bodies that are read

-- what is read of a body is spelled as the body is, and fits its fields
module _ {A : Type 0} (at : Unread → Read A) (bytes : A → List ℕ) (is : A → Type 0) (takes : (body : List ℕ) (a : A) → AreBytes body → body_at at body ≡ Some a → is a × (body ≡ bytes a)) where
  pub bodies-fit : (bodies : List (List ℕ)) (frames : List A) → AllByRecursion AreBytes bodies → AllZip (λ body frame. body_at at body ≡ Some frame) bodies frames → AllByRecursion is frames
  bodies-fit [] [] fit read = tt
  bodies-fit [] (frame ∷ frames) fit read = absurd read
  bodies-fit (body ∷ bodies) [] fit read = absurd read
  bodies-fit (body ∷ bodies) (frame ∷ frames) fit read = ((takes body frame fit.0 read.0).0, bodies-fit bodies frames fit.1 read.1)

  pub bodies-spelled : (bodies : List (List ℕ)) (frames : List A) → AllByRecursion AreBytes bodies → AllZip (λ body frame. body_at at body ≡ Some frame) bodies frames → bodies ≡ map bytes frames
  bodies-spelled [] [] fit read = refl
  bodies-spelled [] (frame ∷ frames) fit read = absurd read
  bodies-spelled (body ∷ bodies) [] fit read = absurd read
  bodies-spelled (body ∷ bodies) (frame ∷ frames) fit read =
      let here : body ≡ bytes frame = (takes body frame fit.0 read.0).1 in
      let rest : bodies ≡ map bytes frames = bodies-spelled bodies frames fit.1 read.1 in cc

-- ---- the config log

abbrev IsRead : List ConfigRecord → List Applied → Type 0
IsRead before xs = AreConfigsRead xs × AreAllowedConfigs before (filter_map config_in xs)

frame-read : (before : List ConfigRecord) (frame : List Applied) → IsAllowedFrame before frame → IsRead before frame
frame-read before [] allowed = (tt, tt)
frame-read before (a ∷ frame) allowed = by (config_in a) refl allowed (λ r rest. frame-read (before ++ r ∷ []) frame rest)
  where
    by : (o : Option ConfigRecord) → config_in a ≡ o → IsSomeAnd o (λ r. IsAllowedConfig before r × IsAllowedFrame (before ++ r ∷ []) frame)
        → ((r : ConfigRecord) → IsAllowedFrame (before ++ r ∷ []) frame → IsRead (before ++ r ∷ []) frame) → IsRead before (a ∷ frame)
    by None is allowed behind = absurd allowed
    by (Some r) is allowed behind =
        let rest : IsRead (before ++ r ∷ []) frame = behind r allowed.1 in
        let some : IsSome (config_in a) = subst (λ (o : Option ConfigRecord). IsSome o) (sym is) refl in
        ((some, rest.0), subst (AreAllowedConfigs before) (sym (read-config a r frame is)) (allowed.0, rest.1))

configs-unframed : (before frames : List (List Applied)) → EachFrom (λ b frame. IsAllowedFrame (configs_in b) frame) before frames → AreConfigs frames × AreAllowedConfigs (configs_in before) (configs_in frames)
configs-unframed before [] each = (tt, tt)
configs-unframed before (frame ∷ frames) each =
    let here : IsRead (configs_in before) frame = frame-read (configs_in before) frame each.0 in
    let rest : AreConfigs frames × AreAllowedConfigs (configs_in (before ++ frame ∷ [])) (configs_in frames) = configs-unframed (before ++ frame ∷ []) frames each.1 in (
      each-append _ frame (joined frames) here.0 rest.0,
      subst (AreAllowedConfigs (configs_in before)) (sym (filter_map-append config_in frame (joined frames)))
          (each_from-append IsAllowedConfig (configs_in before) (filter_map config_in frame) (configs_in frames) here.1
          (subst (λ l. AreAllowedConfigs l (configs_in frames)) (configs-push before frame) rest.1)),
    )

pub configs-read : (frames : List (List Applied)) → EachFrom (λ b frame. IsAllowedFrame (configs_in b) frame) [] frames → AreConfigs frames
configs-read frames each = (configs-unframed [] frames each).0

pub configs-allowed : (frames : List (List Applied)) → EachFrom (λ b frame. IsAllowedFrame (configs_in b) frame) [] frames → AreAllowedConfigs [] (configs_in frames)
configs-allowed frames each = (configs-unframed [] frames each).1

stamps-of : (end : ℕ) (xs : List Applied) → AreConfigsRead xs → AllByRecursion (λ (a : Applied). a.stamp ≤ end) xs → AllByRecursion (λ (r : ConfigRecord). r.stamp ≤ end) (filter_map config_in xs)
stamps-of end [] read each = tt
stamps-of end (a ∷ xs) read each =
    let found : (r : ConfigRecord) × (config_in a ≡ Some r) = some_value (config_in a) read.0 in
    let r : ConfigRecord = found.0 in
    let here : r.stamp ≤ end = subst (λ (n : ℕ). n ≤ end) (sym (config-reads a r found.1).stamp) each.0 in
    subst (AllByRecursion (λ (r : ConfigRecord). r.stamp ≤ end)) (sym (read-config a r xs found.1)) (here, stamps-of end xs read.1 each.1)

stamps-joined : (entries : List Entry) (frames : List (List Applied)) → AllByRecursion (AreStamped entries) frames → AllByRecursion (λ (a : Applied). a.stamp ≤ list_end entries) (joined frames)
stamps-joined entries [] each = tt
stamps-joined entries (frame ∷ frames) each = each-append _ frame (joined frames) each.0 (stamps-joined entries frames each.1)

pub configs-stamped : (entries : List Entry) (frames : List (List Applied)) → AreConfigs frames → EachFrom (λ b frame. AreStamped entries frame) [] frames →
    AllByRecursion (λ (r : ConfigRecord). r.stamp ≤ list_end entries) (configs_in frames)
configs-stamped entries frames read each = stamps-of (list_end entries) (joined frames) read (stamps-joined entries frames (any_from-each (AreStamped entries) [] frames each))

same-itself : (records : List ConfigRecord) → SaysTheSame records records
same-itself records = record {
  end = refl;
  config = λ name. refl;
  target = λ name. refl;
  generation = λ name. refl;
  task_count = λ name. refl;
  fenced_count = λ name. refl;
  task = λ id. refl;
  deferred = λ id. refl;
  pending = λ name. refl;
}

pub config-facts : (records : List ConfigRecord) (entries : List Entry) → AreAllowedConfigs [] records → AllByRecursion (λ (r : ConfigRecord). r.stamp ≤ list_end entries) records → ConfigFacts records records entries
config-facts records entries allowed stamped = record {
  allowed = allowed;
  stamped = stamped;
  same = same-itself records;
  among = recursion_from_All (Contains records) records (All-contains_itself records);
  standing_allowed = allowed;
  fences = λ name generation mark standing. standing;
}

-- ---- the status log

abbrev IsWritable : StampedStatus → Type 0
IsWritable r = IsStatus r.status.value

item-by : (a : Applied) (item : Option Item) (status : Option StatusValue) (r : StatusRecord) → record_with a (with_item item status) ≡ Some r → item ≡ Some r.item
item-by a None status r e = absurd (cc)
item-by a (Some item) None r e = absurd (cc)
item-by a (Some item) (Some status) r e = cc

item-in : (a : Applied) (value : Option (List ℕ)) (r : StatusRecord) → option_and_then (λ text. record_with a (status_of a.key text)) value ≡ Some r → status_item a.key ≡ Some r.item
item-in a None r e = absurd (cc)
item-in a (Some text) r e = item-by a (status_item a.key) (option_and_then status_value (reading text)) r e

-- the item of a status is one that a status can tell
item-is : (a : Applied) (r : StampedStatus) → status_in a ≡ Some r → IsItem r.status.item
item-is a r e = (status_item_only r.status.item a.key (item-in a a.value r.status (stamped-reads a (record_in a) r e))).1

read-of : (a : Applied) → IsSome (record_in a) → (r : StampedStatus) × (status_in a ≡ Some r)
read-of a some = by (record_in a) some
  where
    by : (o : Option StatusRecord) → IsSome o → (r : StampedStatus) × (option_map (λ status. record { stamp = a.stamp; status = status }) o ≡ Some r)
    by None some = absurd (cc)
    by (Some status) some = (record { stamp = a.stamp; status = status }, refl)

pub statuses-read : (before xs : List Applied) → EachFrom IsAllowedStatus before xs → AreStatusesRead xs
statuses-read before [] each = tt
statuses-read before (a ∷ xs) each =
    let found : (r : StampedStatus) × (status_in a ≡ Some r) = read-of a each.0.grammar in
    (subst (λ (o : Option StampedStatus). IsSome o) (sym found.1) refl, statuses-read (before ++ a ∷ []) xs each.1)

statuses-fit : (before xs : List Applied) → AreStatusesRead before → EachFrom IsAllowedStatus before xs → AllByRecursion IsWritable (filter_map status_in xs) →
    EachFrom FitsStatus (filter_map status_in before) (filter_map status_in xs)
statuses-fit before [] read each writable = tt
statuses-fit before (a ∷ xs) read each writable =
    let found : (r : StampedStatus) × (status_in a ≡ Some r) = read-of a each.0.grammar in
    let r : StampedStatus = found.0 in
    let parts : AllByRecursion IsWritable (r ∷ filter_map status_in xs) = subst (AllByRecursion IsWritable) (read-status a r xs found.1) writable in
    let some : IsSome (status_in a) = subst (λ (o : Option StampedStatus). IsSome o) (sym found.1) refl in
    let longer : AreStatusesRead (before ++ a ∷ []) = each-append _ before (a ∷ []) read (some, tt) in
    let pushed : filter_map status_in (before ++ a ∷ []) ≡ filter_map status_in before ++ r ∷ [] =
    filter_map-append status_in before (a ∷ []) ∙ ap (λ (l : List StampedStatus). filter_map status_in before ++ l) (read-status a r [] found.1) in
    let here : FitsStatus (filter_map status_in before) r = record {
      above = omega (arith, end-read before read, each.0.above, status-reads a r found.1);
      item = item-is a r found.1;
      value = parts.0;
    } in
    subst (EachFrom FitsStatus (filter_map status_in before)) (sym (read-status a r xs found.1))
    (here, subst (λ l. EachFrom FitsStatus l (filter_map status_in xs)) pushed (statuses-fit (before ++ a ∷ []) xs longer each.1 parts.1))

pub status-facts : (frames : List (List Applied)) → EachFrom IsAllowedStatus [] (joined frames) → AllByRecursion IsWritable (statuses_in frames) → StatusFacts (statuses_in frames) (statuses_in frames)
status-facts frames each writable =
    let fit : EachFrom FitsStatus [] (statuses_in frames) = statuses-fit [] (joined frames) tt each writable in
    record { allowed = fit; standing_allowed = fit; end = refl; latest = λ item. refl }
