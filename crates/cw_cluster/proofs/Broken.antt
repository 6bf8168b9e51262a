-- What a disk that failed in a directive leaves: of the log that was written to the list before its event or the one
-- behind it, and all else as it was.
use Rattle.std.proofs.Common.{◌≡◌, ◌≢◌, inl, ℕ, ◌&&◌, Bool, true, false, List, [], Option, Some, None, is_some, Result, refl, ◌∙◌}
use Rattle.cw_types.specs.declared.logs.LogName.{LogName}
use Rattle.cw_types.specs.declared.logs.LogName.TheVariants.{Config, Offsets, Status, Txn, Batches}
use Rattle.cw_disk.specs.declared.device.Disk.{Ghosts}
use Rattle.cw_io.specs.Shelf.{Files}
use Rattle.cw_script.specs.declared.directive.Directive.{Directive}
use Rattle.cw_script.specs.declared.directive.Directive.TheVariants as directive
use Rattle.cw_model.specs.declared.fault.WorldFault.{WorldFault}
use Rattle.cw_model.specs.State.{Setting, Cluster}
use Rattle.cw_model.specs.Answers.{Answer}
use Rattle.cw_model.specs.Reopening.{stored_of}
use Rattle.cw_model.specs.StandsFor.{Stored}
use Rattle.cw_world.specs.Logs.{LogsState, Holds, HoldAll, HaveSameOthers, KeepsOn, view_in, faults_in}
use Rattle.cw_world.specs.World.{WorldState, Breaks}
use Rattle.cw_run.specs.Directives.{does}
use Rattle.cw_run.specs.Flight.{IsInFlight, IsLastWord}
use Rattle.cw_run.specs.Ran.{Ran}
use Rattle.cw_cluster.specs.Breaking.{HaveKinds, IsBrokenWith, ran_with, tell_all}

module _ {D : Type 0} (G : Ghosts D) where
  -- ---- what each log tells

  -- each log keeps on
  abbrev pub KeepAll : (old new : LogsState D) → Type 0
  KeepAll old new = (any : LogName) → KeepsOn (view_in G any old) (view_in G any new) (faults_in G any old) (faults_in G any new)

  pub tells-same : (old new : LogsState D) → KeepAll old new → tell_all G new ≡ tell_all G old
  tells-same old new keeps = five (keeps Config).told (keeps Offsets).told (keeps Status).told (keeps Txn).told (keeps Batches).told where
    five : {a b c d e k l m n o : Bool} → a ≡ k → b ≡ l → c ≡ m → d ≡ n → e ≡ o → (a && b && c && d && e) ≡ (k && l && m && n && o)
    five p q r s t = cc

  pub kinds-same : (old new : LogsState D) → KeepAll old new → HaveKinds G old → HaveKinds G new
  kinds-same old new keeps kinds any = (keeps any).kind ∙ kinds any

  some-told : {A : Type 0} (o : Option A) → is_some o ≡ true → (x : A) × (o ≡ Some x)
  some-told None is = absurd (cc)
  some-told (Some x) is = (x, refl)

  each-tells : (any : LogName) (logs : LogsState D) → tell_all G logs ≡ true → is_some (view_in G any logs).bodies ≡ true
  each-tells any logs all = each any (five (is_some (view_in G Config logs).bodies) (is_some (view_in G Offsets logs).bodies) (is_some (view_in G Status logs).bodies) (is_some (view_in G Txn logs).bodies) (is_some (view_in G Batches logs).bodies) all) where
    five : (a b c d e : Bool) → (a && b && c && d && e) ≡ true → (a ≡ true) × (b ≡ true) × (c ≡ true) × (d ≡ true) × (e ≡ true)
    five true true true true true is = (refl, refl, refl, refl, refl)
    five true true true true false is = absurd (cc)
    five true true true false e is = absurd (cc)
    five true true false d e is = absurd (cc)
    five true false c d e is = absurd (cc)
    five false b c d e is = absurd (cc)

    each : (name : LogName) → (is_some (view_in G Config logs).bodies ≡ true) × (is_some (view_in G Offsets logs).bodies ≡ true) × (is_some (view_in G Status logs).bodies ≡ true) × (is_some (view_in G Txn logs).bodies ≡ true) ×
        (is_some (view_in G Batches logs).bodies ≡ true) → is_some (view_in G name logs).bodies ≡ true
    each Config parts = parts.0
    each Offsets parts = parts.1
    each Status parts = parts.2
    each Txn parts = parts.3
    each Batches parts = parts.4

  -- where all tell what they hold, each does
  pub told-in : (any : LogName) (logs : LogsState D) → tell_all G logs ≡ true → (told : List (List ℕ)) × ((view_in G any logs).bodies ≡ Some told)
  told-in any logs all = some-told (view_in G any logs).bodies (each-tells any logs all)

  -- the logs that weren't written to hold what they held
  pub others-hold : (log : LogName) (stored : Stored) (old new : LogsState D) → HaveSameOthers log old new → HoldAll G stored old →
      (any : LogName) → log ≢ any → Holds any stored (view_in G any new)
  others-hold log stored old new others holds Config n = rw (others.config n) (holds Config)
  others-hold log stored old new others holds Offsets n = rw (others.offsets n) (holds Offsets)
  others-hold log stored old new others holds Status n = rw (others.status n) (holds Status)
  others-hold log stored old new others holds Txn n = rw (others.txn n) (holds Txn)
  others-hold log stored old new others holds Batches n = rw (others.batches n) (holds Batches)

-- ---- directives

-- a directive that isn't settling
abbrev pub IsUnsettling : Directive → Type 0
IsUnsettling d = (most : ℕ) → d ≢ directive.Settle most

pub in-flight : (setting : Setting) (ran : Ran) (d : Directive) → IsUnsettling d → (next : Cluster) → next ≡ (does setting d ran.cluster).1 → IsInFlight setting d ran ran next
in-flight setting ran (directive.Init n) un next is = (refl, is)
in-flight setting ran (directive.Commit n epoch pairs) un next is = (refl, is)
in-flight setting ran directive.Spawn un next is = (refl, is)
in-flight setting ran (directive.Kill w) un next is = (refl, is)
in-flight setting ran (directive.Deaf w) un next is = (refl, is)
in-flight setting ran (directive.Hear w) un next is = (refl, is)
in-flight setting ran (directive.Expire w) un next is = (refl, is)
in-flight setting ran (directive.Clock to) un next is = (refl, is)
in-flight setting ran (directive.Tick w) un next is = (refl, is)
in-flight setting ran (directive.Step i) un next is = (refl, is)
in-flight setting ran (directive.Settle most) un next is = absurd (un most refl)
in-flight setting ran (directive.Rest w method target body) un next is = (refl, is)
in-flight setting ran (directive.Held w) un next is = (refl, is)
in-flight setting ran (directive.Member w) un next is = (refl, is)
in-flight setting ran (directive.Take topic from) un next is = (refl, is)
in-flight setting ran (directive.Compact log) un next is = (refl, is)

-- nothing may be said last
pub says-nothing : (d : Directive) → IsLastWord d []
says-nothing (directive.Init n) = refl
says-nothing (directive.Commit n epoch pairs) = refl
says-nothing directive.Spawn = refl
says-nothing (directive.Kill w) = refl
says-nothing (directive.Deaf w) = refl
says-nothing (directive.Hear w) = refl
says-nothing (directive.Expire w) = refl
says-nothing (directive.Clock to) = refl
says-nothing (directive.Tick w) = refl
says-nothing (directive.Step i) = refl
says-nothing (directive.Settle most) = refl
says-nothing (directive.Rest w method target body) = inl refl
says-nothing (directive.Held w) = refl
says-nothing (directive.Member w) = refl
says-nothing (directive.Take topic from) = refl
says-nothing (directive.Compact log) = refl

-- ---- what is left

pub is-broken : {D A : Type 0} (G : Ghosts D) (d : Directive) (event : Cluster → Answer A) (old new : WorldState D) (held left : Option Files) (done : Result A WorldFault) (log : LogName) (said : List ℕ) →
    IsUnsettling d → (event old.state).1 ≡ (does old.setting d old.state).1 → Breaks G log event old new done → HoldAll G (stored_of old.state) old.logs →
    HaveSameOthers log old.logs new.logs → KeepAll G old.logs new.logs → HaveKinds G old.logs → left ≡ held → IsLastWord d said →
    IsBrokenWith G old.setting d (ran_with G old held) new left said
is-broken G d event old new held left done log said un next breaks holds others keeps kinds same last = record {
  at = ran_with G old held;
  next = (event old.state).1;
  log = log;
  in_flight = in-flight old.setting (ran_with G old held) d un (event old.state).1 next;
  apart = breaks.apart;
  left = λ all. let own = told-in G log old.logs all in breaks.left own.0 own.1;
  others = others-hold G log (stored_of old.state) old.logs new.logs others holds;
  kinds = kinds-same G old.logs new.logs keeps kinds;
  tells = tells-same G old.logs new.logs keeps;
  same = same;
  last = last;
}
