-- What a stop leaves of the disks of a world that was given back, where a disk of one of its logs failed.
use Rattle.std.proofs.Common.{◌≡◌, ◌≢◌, ◌⊎◌, inl, inr, ⊎_elim, ℕ, Bool, true, false, ◌&&◌, List, Option, Some, None, is_some, IsSome, Ok, refl, sym, subst}
use Rattle.cw_types.specs.declared.logs.LogName.{LogName}
use Rattle.cw_types.specs.declared.logs.LogName.TheVariants.{Config, Offsets, Status, Txn, Batches}
use Rattle.cw_disk.specs.declared.device.Disk.{Ghosts}
use Rattle.cw_disk.specs.declared.disks.Disks.{Disks}
use Rattle.cw_io.specs.declared.outlet.Outlet as outlet
use Rattle.cw_log.specs.Log.{StandsFor, kind_of}
use Rattle.cw_pair.specs.Pair.{PairStandsFor}
use Rattle.cw_pair.specs.State.{MayLeave, bodies_of}
use Rattle.cw_model.specs.State.{Setting, Cluster}
use Rattle.cw_model.specs.StandsFor.{Stored}
use Rattle.cw_model.specs.Reopening.{stored_of}
use Rattle.cw_world.specs.Ending.{disks_of, LeaveTold}
use Rattle.cw_world.specs.Logs.{LogsState, Holds, IsApart, LeavesNow, view_in, list_in}
use Rattle.cw_world.specs.World.{WorldState}
use Rattle.cw_open.specs.Leaving.{HaveKinds as HasKinds, LeaveLists, MayLeaveAll, StandForLists}
use Rattle.cw_open.specs.Reopened.{DiskFiles}
use Rattle.cw_run.specs.Ran.{Ran}
use Rattle.cw_cluster.specs.Breaking.{HaveKinds, IsAlive, tell_all, ran_of}
use Rattle.cw_cluster.specs.Lined.{IsBrokenInLine}
use Rattle.cw_cluster.specs.Driven.{IsLeft, IsLeftBroken}

-- ---- one log and the others

same-log : (a b : LogName) → (a ≡ b) ⊎ (a ≢ b)
same-log Config Config = inl refl
same-log Config Offsets = inr (λ e. cc)
same-log Config Status = inr (λ e. cc)
same-log Config Txn = inr (λ e. cc)
same-log Config Batches = inr (λ e. cc)
same-log Offsets Config = inr (λ e. cc)
same-log Offsets Offsets = inl refl
same-log Offsets Status = inr (λ e. cc)
same-log Offsets Txn = inr (λ e. cc)
same-log Offsets Batches = inr (λ e. cc)
same-log Status Config = inr (λ e. cc)
same-log Status Offsets = inr (λ e. cc)
same-log Status Status = inl refl
same-log Status Txn = inr (λ e. cc)
same-log Status Batches = inr (λ e. cc)
same-log Txn Config = inr (λ e. cc)
same-log Txn Offsets = inr (λ e. cc)
same-log Txn Status = inr (λ e. cc)
same-log Txn Txn = inl refl
same-log Txn Batches = inr (λ e. cc)
same-log Batches Config = inr (λ e. cc)
same-log Batches Offsets = inr (λ e. cc)
same-log Batches Status = inr (λ e. cc)
same-log Batches Txn = inr (λ e. cc)
same-log Batches Batches = inl refl

-- ---- whether a log tells its list

all-five : (a b c d e : Bool) → (a && b && c && d && e) ≡ true → (a ≡ true) × (b ≡ true) × (c ≡ true) × (d ≡ true) × (e ≡ true)
all-five true true true true true is = (refl, refl, refl, refl, refl)
all-five true true true true false is = absurd (cc)
all-five true true true false e is = absurd (cc)
all-five true true false d e is = absurd (cc)
all-five true false c d e is = absurd (cc)
all-five false b c d e is = absurd (cc)

module _ {D : Type 0} (G : Ghosts D) (logs : LogsState D) where
  pub log-tells : tell_all G logs ≡ true → (any : LogName) → is_some (view_in G any logs).bodies ≡ true
  log-tells tells any = of any where
    five : (is_some (view_in G Config logs).bodies ≡ true) × (is_some (view_in G Offsets logs).bodies ≡ true) × (is_some (view_in G Status logs).bodies ≡ true) ×
        (is_some (view_in G Txn logs).bodies ≡ true) × (is_some (view_in G Batches logs).bodies ≡ true)
    five = all-five (is_some (view_in G Config logs).bodies) (is_some (view_in G Offsets logs).bodies) (is_some (view_in G Status logs).bodies)
        (is_some (view_in G Txn logs).bodies) (is_some (view_in G Batches logs).bodies) tells

    of : (any : LogName) → is_some (view_in G any logs).bodies ≡ true
    of Config = five.0
    of Offsets = five.1
    of Status = five.2
    of Txn = five.3
    of Batches = five.4

  -- its list
  told-some : {A : Type 0} (o : Option A) → is_some o ≡ true → (x : A) × (o ≡ Some x)
  told-some None is = absurd (cc)
  told-some (Some x) is = (x, refl)

  some-is : {A : Type 0} (o : Option A) → is_some o ≡ true → IsSome o
  some-is None is = absurd (cc)
  some-is (Some x) is = refl

  pub each-tells : tell_all G logs ≡ true → (any : LogName) → IsSome (view_in G any logs).bodies
  each-tells tells any = some-is (view_in G any logs).bodies (log-tells tells any)

  pub as-kinds : HaveKinds G logs → HasKinds logs
  as-kinds kinds = record { config = kinds Config; offsets = kinds Offsets; status = kinds Status; txn = kinds Txn; batches = kinds Batches }

-- ---- images that stand for a list

-- the images of a log stand for it
abbrev StandsIn : LogName → DiskFiles → List (List ℕ) → Type 0
StandsIn Config images list = PairStandsFor (kind_of Config) list images.config_a images.config_b
StandsIn Offsets images list = PairStandsFor (kind_of Offsets) list images.offsets_a images.offsets_b
StandsIn Status images list = PairStandsFor (kind_of Status) list images.status_a images.status_b
StandsIn Txn images list = StandsFor (kind_of Txn) list images.txn
StandsIn Batches images list = StandsFor (kind_of Batches) list images.batches

all-stand : (images : DiskFiles) (stored : Stored) → ((any : LogName) → StandsIn any images (list_in any stored)) → StandForLists images stored
all-stand images stored each = record { config = each Config; offsets = each Offsets; status = each Status; txn = each Txn; batches = each Batches }

module _ {D : Type 0} (G : Ghosts D) (logs : LogsState D) (given : Disks D) (images : DiskFiles) (may : MayLeaveAll G given images)
    (kinds : HaveKinds G logs) where
  pair-of : (kind own : ℕ) (told list : List (List ℕ)) (a b : List ℕ) → own ≡ kind → told ≡ list → PairStandsFor own told a b → PairStandsFor kind list a b
  pair-of kind own told list a b is same stands =
      subst (λ (k : ℕ). PairStandsFor k list a b) is (subst (λ (l : List (List ℕ)). PairStandsFor own l a b) same stands)

  one-of : (kind own : ℕ) (told list : List (List ℕ)) (a : List ℕ) → own ≡ kind → told ≡ list → StandsFor own told a → StandsFor kind list a
  one-of kind own told list a is same stands =
      subst (λ (k : ℕ). StandsFor k list a) is (subst (λ (l : List (List ℕ)). StandsFor own l a) same stands)

  -- a log that holds its list
  stands-held : LeaveTold G logs given → (any : LogName) (stored : Stored) → Holds any stored (view_in G any logs) →
      (told : List (List ℕ)) → (view_in G any logs).bodies ≡ Some told → StandsIn any images (list_in any stored)
  stands-held leave Config stored holds told is =
      pair-of (kind_of Config) logs.config.log.kind told stored.config.frames images.config_a images.config_b (kinds Config) (holds.told told is)
      (leave.config holds.ready.alive told is images.config_a images.config_b may.config_a may.config_b)
  stands-held leave Offsets stored holds told is =
      pair-of (kind_of Offsets) logs.offsets.log.kind told stored.offsets.frames images.offsets_a images.offsets_b (kinds Offsets) (holds.told told is)
      (leave.offsets holds.ready.alive told is images.offsets_a images.offsets_b may.offsets_a may.offsets_b)
  stands-held leave Status stored holds told is =
      pair-of (kind_of Status) logs.status.log.kind told stored.status.frames images.status_a images.status_b (kinds Status) (holds.told told is)
      (leave.status holds.ready.alive told is images.status_a images.status_b may.status_a may.status_b)
  stands-held leave Txn stored holds told is =
      one-of (kind_of Txn) logs.txn.kind told stored.txn images.txn (kinds Txn) (holds.told told is)
      (leave.txn holds.ready.alive told is images.txn may.txn)
  stands-held leave Batches stored holds told is =
      one-of (kind_of Batches) logs.batches.kind told stored.batches images.batches (kinds Batches) (holds.told told is)
      (leave.batches holds.ready.alive told is images.batches may.batches)

  -- one of two lists
  abbrev OneOf : (a b : List (List ℕ)) → List (List ℕ) → Type 0
  OneOf a b list = (list ≡ a) ⊎ (list ≡ b)

  pair-either : (kind own : ℕ) (a b : List (List ℕ)) (x y : List ℕ) → own ≡ kind →
      ((list : List (List ℕ)) × OneOf a b list × PairStandsFor own list x y) → PairStandsFor kind a x y ⊎ PairStandsFor kind b x y
  pair-either kind own a b x y is found =
      ⊎_elim (λ e. inl (pair-of kind own found.0 a x y is e found.2)) (λ e. inr (pair-of kind own found.0 b x y is e found.2)) found.1

  one-either : (kind own : ℕ) (a b : List (List ℕ)) (x : List ℕ) → own ≡ kind →
      ((list : List (List ℕ)) × OneOf a b list × StandsFor own list x) → StandsFor kind a x ⊎ StandsFor kind b x
  one-either kind own a b x is found =
      ⊎_elim (λ e. inl (one-of kind own found.0 a x is e found.2)) (λ e. inr (one-of kind own found.0 b x is e found.2)) found.1

  -- the log whose disk failed
  stands-broken : (given ≡ disks_of logs) → (log : LogName) (a b : List (List ℕ)) → LeavesNow G log logs (OneOf a b) →
      StandsIn log images a ⊎ StandsIn log images b
  stands-broken are log a b left = of log left (subst (λ (d : Disks D). MayLeaveAll G d images) are may) where
    of : (log : LogName) → LeavesNow G log logs (OneOf a b) → MayLeaveAll G (disks_of logs) images → StandsIn log images a ⊎ StandsIn log images b
    of Config now own = pair-either (kind_of Config) logs.config.log.kind a b images.config_a images.config_b (kinds Config)
        (now (images.config_a, images.config_b) (record { a = own.config_a; b = own.config_b }))
    of Offsets now own = pair-either (kind_of Offsets) logs.offsets.log.kind a b images.offsets_a images.offsets_b (kinds Offsets)
        (now (images.offsets_a, images.offsets_b) (record { a = own.offsets_a; b = own.offsets_b }))
    of Status now own = pair-either (kind_of Status) logs.status.log.kind a b images.status_a images.status_b (kinds Status)
        (now (images.status_a, images.status_b) (record { a = own.status_a; b = own.status_b }))
    of Txn now own = one-either (kind_of Txn) logs.txn.kind a b images.txn (kinds Txn) (now images.txn own.txn)
    of Batches now own = one-either (kind_of Batches) logs.batches.kind a b images.batches (kinds Batches) (now images.batches own.batches)

  -- all logs, of which one was written to
  pub stands-either : (given ≡ disks_of logs) → LeaveTold G logs given → tell_all G logs ≡ true → (log : LogName) (old new : Stored) → IsApart log old new →
      LeavesNow G log logs (OneOf (list_in log old) (list_in log new)) → ((any : LogName) → log ≢ any → Holds any old (view_in G any logs)) →
      StandForLists images old ⊎ StandForLists images new
  stands-either are leave tells log old new apart left others =
      ⊎_elim (λ own. inl (all-stand images old (λ any. at-old own any (same-log log any))))
      (λ own. inr (all-stand images new (λ any. at-new own any (same-log log any))))
      (stands-broken are log (list_in log old) (list_in log new) left) where
        other : (any : LogName) → log ≢ any → StandsIn any images (list_in any old)
        other any n = let told = told-some G logs (view_in G any logs).bodies (log-tells G logs tells any) in
            stands-held leave any old (others any n) told.0 told.1

        at-old : StandsIn log images (list_in log old) → (any : LogName) → (log ≡ any) ⊎ (log ≢ any) → StandsIn any images (list_in any old)
        at-old own any which = ⊎_elim (λ e. subst (λ (m : LogName). StandsIn m images (list_in m old)) e own) (λ n. other any n) which

        at-new : StandsIn log images (list_in log new) → (any : LogName) → (log ≡ any) ⊎ (log ≢ any) → StandsIn any images (list_in any new)
        at-new own any which = ⊎_elim (λ e. subst (λ (m : LogName). StandsIn m images (list_in m new)) e own)
            (λ n. subst (λ (l : List (List ℕ)). StandsIn any images l) (sym (apart any n)) (other any n)) which

-- ---- what is left

module _ {D U : Type 0} (G : Ghosts D) (O : outlet.Ghosts U) (world : WorldState D) (out : U) (given : Disks D) where
  pub left-alive : IsAlive G world → ((HasKinds world.logs) → ((any : LogName) → IsSome (view_in G any world.logs).bodies) → LeaveLists G given (stored_of world.state)) →
      IsLeft G O given out (ran_of G O world out)
  left-alive alive lists = record { disks = λ tells. lists (as-kinds G world.logs alive.kinds) (each-tells G world.logs tells); files = refl }

  pub left-broken : (given ≡ disks_of world.logs) → LeaveTold G world.logs given → (number : ℕ) (line : List ℕ) (ran : Ran) (said : List ℕ) →
      IsBrokenInLine G O world out number line ran said → IsLeftBroken G O world.setting given out number line ran said
  left-broken are leave number line ran said broken = let b = broken.broken_in in record {
    directive = broken.directive;
    line_is = broken.says;
    at = b.at;
    next = b.next;
    in_flight = b.in_flight;
    disks = λ tells images may. stands-either G world.logs given images may b.kinds are leave (subst (λ (x : Bool). x ≡ true) (sym b.tells) tells) b.log
        (stored_of b.at.cluster) (stored_of b.next) b.apart (b.left tells) b.others;
    files = b.same;
    last = b.last;
  }
