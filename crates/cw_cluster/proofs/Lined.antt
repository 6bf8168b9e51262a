-- A line is played by what it says.
use Rattle.std.proofs.Common.{◌≡◌, ◌⊎◌, inl, inr, ⊎_elim, ℕ, ◌==◌, ◌≤◌, ◌++◌, Bool, true, false, List, [], Option, Some, None, is_some, Result, Ok, Err, OnOk, IfErr, MatchResult, if◌then◌else◌, refl, sym, ap, ◌∙◌, subst, arith, append-nil}
use Rattle.cw_types.specs.Faults.{Rose}
use Rattle.cw_types.specs.declared.logs.DiskName.{DiskName}
use Rattle.cw_types.specs.declared.logs.DiskName.TheVariants as disk
use Rattle.cw_types.specs.declared.logs.LogName.{LogName}
use Rattle.cw_types.specs.declared.logs.LogName.TheVariants.{Config, Offsets, Status, Txn, Batches}
use Rattle.cw_disk.specs.declared.device.Disk.{Ghosts}
use Rattle.cw_io.specs.declared.outlet.Outlet as outlet
use Rattle.cw_script.specs.declared.directive.Directive.{Directive}
use Rattle.cw_script.specs.declared.directive.Directive.TheVariants as directive
use Rattle.cw_script.specs.declared.fault.LineKind.{LineKind}
use Rattle.cw_model.specs.State.{Setting, Cluster}
use Rattle.cw_world.specs.Ending.{disks_of}
use Rattle.cw_world.specs.Logs.{LogsState, KeepsOn, disk_of, faults_in, view_in}
use Rattle.cw_world.specs.World.{WorldState}
use Rattle.cw_world.specs.Write.{FailsOn}
use Rattle.cw_open.specs.Reopened.{disk_in}
use Rattle.cw_lines.specs.declared.end.DriveEnd.{DriveEnd}
use Rattle.cw_lines.specs.declared.end.DriveEnd.TheVariants.{Done, BadScript, TooLong, ReadFault, WriteFault, StoreFault, OutletFault, Full, Memory}
use Rattle.cw_lines.specs.Players.{Playing, NoneFell, HasRisen, Caused, IsAt, is_own, is_amid}
use Rattle.cw_lines.specs.Players as players
use Rattle.cw_lines.specs.Players.HasStopped.{ended as stop_ended, left as stop_left, failed as stop_failed}
use Rattle.cw_lines.specs.Plays.{Played, passed, stopped}
use Rattle.cw_run.specs.Amid.{IsHalfSettled, IsRanAmid, files_behind, ran_behind}
use Rattle.cw_run.specs.Answers.{Told}
use Rattle.cw_run.specs.Directives.{does}
use Rattle.cw_run.specs.Ran.{Ran}
use Rattle.cw_run.specs.Rules.{IsSaidAmid, drive_said, files_unless}
use Rattle.cw_run.specs.Run.{missing, play_unless, played}
use Rattle.cw_run.proofs.Alone.{settles-behind}
use Rattle.cw_cluster.specs.Breaking.{IsAlive, IsBrokenIn, ran_of}
use Rattle.cw_cluster.specs.Driven.{faults_of}
use Rattle.cw_cluster.specs.Lined.{PlaysOver, PlaysSaid, IsSaidLeft, IsSaidBroken, playing_of}
use Rattle.cw_cluster.specs.Playing.{HasPlayed, HasEnded, HasLeft, HasFailed, HasStopped, IsLeftAmid, IsOutletKept, PlaysDirective, ran_played}
use Rattle.cw_cluster.specs.Playing.HasStopped.{ended, left, failed}
use Rattle.cw_cluster.proofs.Broken.{KeepAll}
use Rattle.cw_cluster.proofs.Played.{amid-behind}

-- ---- counts of faults

module _ {D : Type 0} (G : Ghosts D) where
  -- the disk of a log's side
  pub count-is : (log : LogName) (side : ℕ) (logs : LogsState D) → G.count (disk_in (disk_of log side) (disks_of logs)) ≡ faults_in G log logs side
  count-is Config side logs = at (side == 0) where
    at : (b : Bool) → G.count (disk_in (if b then disk.ConfigA else disk.ConfigB) (disks_of logs)) ≡ (if b then G.count (disks_of logs).config_a else G.count (disks_of logs).config_b)
    at true = refl
    at false = refl
  count-is Offsets side logs = at (side == 0) where
    at : (b : Bool) → G.count (disk_in (if b then disk.OffsetsA else disk.OffsetsB) (disks_of logs)) ≡ (if b then G.count (disks_of logs).offsets_a else G.count (disks_of logs).offsets_b)
    at true = refl
    at false = refl
  count-is Status side logs = at (side == 0) where
    at : (b : Bool) → G.count (disk_in (if b then disk.StatusA else disk.StatusB) (disks_of logs)) ≡ (if b then G.count (disks_of logs).status_a else G.count (disks_of logs).status_b)
    at true = refl
    at false = refl
  count-is Txn side logs = refl
  count-is Batches side logs = refl

  module _ (old new : LogsState D) where
    none-less : KeepAll G old new → (name : DiskName) → G.count (disk_in name (disks_of old)) ≤ G.count (disk_in name (disks_of new))
    none-less keeps disk.ConfigA = (keeps Config).later 0
    none-less keeps disk.ConfigB = (keeps Config).later 1
    none-less keeps disk.OffsetsA = (keeps Offsets).later 0
    none-less keeps disk.OffsetsB = (keeps Offsets).later 1
    none-less keeps disk.StatusA = (keeps Status).later 0
    none-less keeps disk.StatusB = (keeps Status).later 1
    none-less keeps disk.Txn = (keeps Txn).later 0
    none-less keeps disk.Batches = (keeps Batches).later 0

    -- a disk that failed in a log
    pub has-risen : (log : LogName) (name : DiskName) (count : ℕ) → FailsOn log (faults_in G log old) (faults_in G log new) name count →
        HasRisen (G.count (disk_in name (disks_of old))) (G.count (disk_in name (disks_of new))) count
    has-risen log name count fails = subst (λ (d : DiskName). HasRisen (G.count (disk_in d (disks_of old))) (G.count (disk_in d (disks_of new))) count) (sym fails.disk_is) (record {
      rose = subst (λ (n : ℕ). Rose n (G.count (disk_in (disk_of log fails.side) (disks_of new)))) (sym (count-is log fails.side old))
          (subst (λ (n : ℕ). Rose (faults_in G log old fails.side) n) (sym (count-is log fails.side new)) fails.rose);
      is = fails.count_is ∙ sym (count-is log fails.side new);
    })

    -- the log of a disk that failed
    pub fails-on : (name : DiskName) (count : ℕ) → HasRisen (G.count (disk_in name (disks_of old))) (G.count (disk_in name (disks_of new))) count →
        (log : LogName) × FailsOn log (faults_in G log old) (faults_in G log new) name count
    fails-on disk.ConfigA count risen = (Config, record { side = 0; disk_is = refl; count_is = risen.is; rose = risen.rose })
    fails-on disk.ConfigB count risen = (Config, record { side = 1; disk_is = refl; count_is = risen.is; rose = risen.rose })
    fails-on disk.OffsetsA count risen = (Offsets, record { side = 0; disk_is = refl; count_is = risen.is; rose = risen.rose })
    fails-on disk.OffsetsB count risen = (Offsets, record { side = 1; disk_is = refl; count_is = risen.is; rose = risen.rose })
    fails-on disk.StatusA count risen = (Status, record { side = 0; disk_is = refl; count_is = risen.is; rose = risen.rose })
    fails-on disk.StatusB count risen = (Status, record { side = 1; disk_is = refl; count_is = risen.is; rose = risen.rose })
    fails-on disk.Txn count risen = (Txn, record { side = 0; disk_is = refl; count_is = risen.is; rose = risen.rose })
    fails-on disk.Batches count risen = (Batches, record { side = 0; disk_is = refl; count_is = risen.is; rose = risen.rose })

module _ {D U : Type 0} (G : Ghosts D) (O : outlet.Ghosts U) (old new : WorldState D) (out_old out_new : U) where
  pub none-fell : KeepAll G old.logs new.logs → O.faults out_old ≤ O.faults out_new → NoneFell (faults_of G O old out_old) (faults_of G O new out_new)
  none-fell keeps later = record { disks = none-less G old.logs new.logs keeps; outlet = later }

-- the same count
pub same-counts : {D U : Type 0} (G : Ghosts D) (O : outlet.Ghosts U) (world : WorldState D) (out : U) → NoneFell (faults_of G O world out) (faults_of G O world out)
same-counts G O world out = record { disks = λ name. omega arith; outlet = omega arith }

-- ---- a directive over the outlet

pub over-directive : {D U : Type 0} (G : Ghosts D) (O : outlet.Ghosts U) (d : Directive) (old new : WorldState D) (out_old out_new : U) (before after : List ℕ)
    (result : Result (Unit {0}) DriveEnd) → PlaysDirective G d old new (O.files out_old) (O.files out_new) before after result → IsOutletKept O out_old out_new result →
    PlaysOver G O d old new out_old out_new before after result
over-directive G O d old new out_old out_new before after result plays kept = record {
  outcome = plays.outcome;
  setting = plays.setting;
  told = kept.told;
  later = none-fell G O old new out_old out_new plays.keeps kept.later;
  rose = kept.rose;
}

-- an outlet that isn't touched
pub untouched : {U : Type 0} (O : outlet.Ghosts U) (out : U) (result : Result (Unit {0}) DriveEnd) → (result ≡ Err OutletFault → ⊥) → IsOutletKept O out out result
untouched O out result other = record { told = refl; later = omega arith; rose = λ is. absurd (other is) }

-- ---- what a line says

-- a directive may be left behind itself
amid-any : (setting : Setting) (r : Ran) (d : Directive) → IsRanAmid setting d r (ran_behind setting d r)
amid-any setting r (directive.Init n) = refl
amid-any setting r (directive.Commit n epoch pairs) = refl
amid-any setting r directive.Spawn = refl
amid-any setting r (directive.Kill w) = refl
amid-any setting r (directive.Deaf w) = refl
amid-any setting r (directive.Hear w) = refl
amid-any setting r (directive.Expire w) = refl
amid-any setting r (directive.Clock to) = refl
amid-any setting r (directive.Tick w) = refl
amid-any setting r (directive.Step i) = inl refl
amid-any setting r (directive.Settle most) =
    let half : IsHalfSettled setting most r (ran_behind setting (directive.Settle most) r) = record { moved = most; fewer = omega arith; is = sym (settles-behind setting most r) } in inl half
amid-any setting r (directive.Rest w method target body) = record { cluster = inr (inr refl); same = refl }
amid-any setting r (directive.Held w) = refl
amid-any setting r (directive.Member w) = refl
amid-any setting r (directive.Take topic from) = refl
amid-any setting r (directive.Compact log) = refl

module _ (setting : Setting) (number : ℕ) (d : Directive) (r : Ran) where
  abbrev unless : Option LineKind → Played Ran
  unless kind =
      let p = play_unless setting number kind d r.cluster in
      record { text = p.text; store = record r { cluster = p.store; files = files_unless setting kind d r }; stop = p.stop }

  in-parts : (text : Result (List ℕ) DriveEnd) (s : Cluster) → (record {
    text = (played text s).text;
    store = record r { cluster = (played text s).store; files = files_behind setting d r };
    stop = (played text s).stop;
  }) ≡ played text (record r { cluster = s; files = files_behind setting d r })
  in-parts (Ok text) s = refl
  in-parts (Err end) s = refl

  pub said-is : missing d r.cluster ≡ None → drive_said setting number (Ok (Some d)) r ≡ ran_played setting d r
  said-is none = ap unless none ∙ in-parts (does setting d r.cluster).0 (does setting d r.cluster).1

  pub said-missing : (kind : LineKind) → missing d r.cluster ≡ Some kind → drive_said setting number (Ok (Some d)) r ≡ stopped (BadScript number kind) r
  said-missing kind is = ap unless is

played-store : {S : Type 0} (text : Result (List ℕ) DriveEnd) (s : S) → (played text s).store ≡ s
played-store (Ok text) s = refl
played-store (Err end) s = refl

-- ---- what caused it

caused-own : (read written : Type 0) (old new : players.Faults) (end : DriveEnd) → is_own end ≡ true → Caused read written old new end
caused-own read written old new Done own = tt
caused-own read written old new (BadScript line kind) own = tt
caused-own read written old new (TooLong count) own = tt
caused-own read written old new ReadFault own = absurd (cc)
caused-own read written old new WriteFault own = absurd (cc)
caused-own read written old new (StoreFault name count) own = absurd (cc)
caused-own read written old new OutletFault own = absurd (cc)
caused-own read written old new (Full log length frame) own = tt
caused-own read written old new Memory own = tt

caused-amid : (read written : Type 0) (old new : players.Faults) (end : DriveEnd) → is_amid end ≡ true → (end ≡ OutletFault → Rose old.outlet new.outlet) → Caused read written old new end
caused-amid read written old new Done amid rose = tt
caused-amid read written old new (BadScript line kind) amid rose = tt
caused-amid read written old new (TooLong count) amid rose = tt
caused-amid read written old new ReadFault amid rose = absurd (cc)
caused-amid read written old new WriteFault amid rose = absurd (cc)
caused-amid read written old new (StoreFault name count) amid rose = absurd (cc)
caused-amid read written old new OutletFault amid rose = rose refl
caused-amid read written old new (Full log length frame) amid rose = tt
caused-amid read written old new Memory amid rose = tt

-- ---- a directive as a line

module _ {D U : Type 0} (G : Ghosts D) (O : outlet.Ghosts U) (number : ℕ) (d : Directive) (old new : WorldState D) (out_old out_new : U) (before after : List ℕ)
    (none : missing d old.state ≡ None) where
  abbrev r : Ran
  r = ran_of G O old out_old

  abbrev t : Ran
  t = ran_of G O new out_new

  abbrev due : Played Ran
  due = ran_played old.setting d r

  abbrev Stopping : Played Ran → DriveEnd → Type 0
  Stopping p end = players.HasStopped end (IsSaidLeft old.setting (Ok (Some d))) (IsAt (IsAlive G new) (playing_of G O new out_new after)) (IsSaidBroken G O new out_new (Ok (Some d)))
      p (playing_of G O old out_old before) after

  abbrev Stops : DriveEnd → Type 0
  Stops end = HasStopped G due (IsLeftAmid old.setting d r) (IsBrokenIn G O old.setting d r new out_new) old new before after t end

  stops : new.setting ≡ old.setting → (end : DriveEnd) → Stops end → Stopping due end
  stops same end (ended e) =
      let store : due.store ≡ ran_behind old.setting d r = played-store (does old.setting d r.cluster).0 (ran_behind old.setting d r) in
      stop_ended (record {
        own = e.own;
        stop = e.stop;
        silent = e.silent;
        left = record { alive = e.lives; is = e.store };
        amid_it = inr (none, subst (IsRanAmid old.setting d r) (sym store) (amid-any old.setting r d));
        said = e.text;
      })
  stops same end (left l) = stop_left (record {
    because = l.because;
    to = t;
    left = record { alive = l.lives; is = refl };
    amid_it = ⊎_elim (λ (is : t ≡ r). inl is) (λ (amid : IsRanAmid old.setting d r t). inr (none, amid)) l.is_amid;
    said = l.text;
  })
  stops same end (failed f) = stop_failed (record {
    disk = f.disk;
    count = f.count;
    fault = f.fault;
    words = f.said;
    said = f.text;
    left = record { directive = d; says = refl; broken_in = subst (λ (s : Setting). IsBrokenIn G O s d r new out_new f.said) (sym same) f.left };
  })

  why : (end : DriveEnd) → (end ≡ OutletFault → Rose (O.faults out_old) (O.faults out_new)) → Stops end → Caused ⊥ ⊥ (faults_of G O old out_old) (faults_of G O new out_new) end
  why end rose (ended e) = caused-own ⊥ ⊥ (faults_of G O old out_old) (faults_of G O new out_new) end e.own
  why end rose (left l) = caused-amid ⊥ ⊥ (faults_of G O old out_old) (faults_of G O new out_new) end l.because rose
  why end rose (failed f) = subst (Caused ⊥ ⊥ (faults_of G O old out_old) (faults_of G O new out_new)) (sym f.fault) (has-risen G old.logs new.logs f.log f.disk f.count f.fails)

  abbrev said : Played Ran
  said = drive_said old.setting number (Ok (Some d)) r

  same-said : due ≡ said
  same-said = sym (said-is old.setting number d r none)

  pub over-said : (result : Result (Unit {0}) DriveEnd) → PlaysOver G O d old new out_old out_new before after result →
      PlaysSaid G O number (Ok (Some d)) old new out_old out_new before after result
  over-said (Ok done) over = record {
    go = subst (λ (p : Played Ran). players.HasPlayed p (playing_of G O old out_old before) (playing_of G O new out_new after)) same-said
        (record { goes_on = over.outcome.0.goes_on; setting = over.setting; state = over.outcome.0.store; text = over.outcome.0.text });
    alive = over.outcome.1;
    stop = tt;
    setting = over.setting;
    told = over.told;
    later = over.later;
    caused = tt;
  }
  over-said (Err end) over = record {
    go = tt;
    alive = tt;
    stop = subst (λ (p : Played Ran). Stopping p end) same-said (stops over.setting end over.outcome);
    setting = over.setting;
    told = over.told;
    later = over.later;
    caused = why end (λ is. over.rose (ap (λ (e : DriveEnd). Err e) is)) over.outcome;
  }

-- ---- a line that changes nothing

module _ {D U : Type 0} (G : Ghosts D) (O : outlet.Ghosts U) (number : ℕ) (world : WorldState D) (out : U) (text : List ℕ) (alive : IsAlive G world) where
  abbrev here : Ran
  here = ran_of G O world out

  abbrev Says : Result (Option Directive) LineKind → Result (Unit {0}) DriveEnd → Type 0
  Says said result = PlaysSaid G O number said world world out out text text result

  -- it ends the script
  pub ends-said : (said : Result (Option Directive) LineKind) (end : DriveEnd) → is_own end ≡ true → drive_said world.setting number said here ≡ stopped end here → Says said (Err end)
  ends-said said end own is = record {
    go = tt;
    alive = tt;
    stop = subst (λ (p : Played Ran). players.HasStopped end (IsSaidLeft world.setting said) (IsAt (IsAlive G world) (playing_of G O world out text)) (IsSaidBroken G O world out said)
        p (playing_of G O world out text) text) (sym is)
        (stop_ended (record { own = own; stop = refl; silent = refl; left = record { alive = alive; is = refl }; amid_it = inl refl; said = refl }));
    setting = refl;
    told = refl;
    later = same-counts G O world out;
    caused = caused-own ⊥ ⊥ (faults_of G O world out) (faults_of G O world out) end own;
  }

  pub missing-said : (d : Directive) (kind : LineKind) → missing d world.state ≡ Some kind → Says (Ok (Some d)) (Err (BadScript number kind))
  missing-said d kind is = ends-said (Ok (Some d)) (BadScript number kind) refl (said-missing world.setting number d here kind is)

  pub bad-said : (kind : LineKind) → Says (Err kind) (Err (BadScript number kind))
  bad-said kind = ends-said (Err kind) (BadScript number kind) refl refl

  -- it is passed over
  pub passed-said : Says (Ok None) (Ok tt)
  passed-said = record {
    go = record { goes_on = refl; setting = refl; state = refl; text = sym (append-nil text) };
    alive = alive;
    stop = tt;
    setting = refl;
    told = refl;
    later = same-counts G O world out;
    caused = tt;
  }

  -- memory is wanting
  pub wanted-said : (said : Result (Option Directive) LineKind) → Says said (Err Memory)
  wanted-said meant = record {
    go = tt;
    alive = tt;
    stop = stop_left (record { because = refl; to = here; left = record { alive = alive; is = refl }; amid_it = inl refl; said = refl });
    setting = refl;
    told = refl;
    later = same-counts G O world out;
    caused = tt;
  }
