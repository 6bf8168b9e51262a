-- The logs hold what is stored, behind a write to one of them as before it.
use Rattle.std.proofs.Common.{◌≡◌, ◌≢◌, ℕ, ◌++◌, ◌∷◌, [], List, length, Option, Some, None, option_map, refl, sym, ◌∙◌, ap, arith, length-append}
use Rattle.cw_types.specs.declared.logs.LogName.{LogName}
use Rattle.cw_types.specs.declared.logs.LogName.TheVariants.{Config, Offsets, Status, Txn, Batches}
use Rattle.cw_disk.specs.declared.device.Disk.{Ghosts}
use Rattle.cw_disk.proofs.Moments.{adds_none, adds_weaker}
use Rattle.cw_log.specs.Log.{length_of}
use Rattle.cw_log.specs.State.{LogState, StandsSince}
use Rattle.cw_pair.specs.State.{PairState, StandsSince as PairLeaves}
use Rattle.cw_laws.proofs.Disks.{length_of-push}
use Rattle.cw_model.specs.State.{Cluster, Paired}
use Rattle.cw_model.specs.StandsFor.{Stored}
use Rattle.cw_model.specs.Reopening.{stored_of}
use Rattle.cw_rows.specs.Kept.{HasSameLogs}
use Rattle.cw_rows.specs.Writes.{bytes_in, with_body}
use Rattle.cw_world.specs.Logs.{LogsState, LogView, HoldsList, Holds, HoldAll, HaveSameOthers, HasSameBodies, IsApart, AddsTo, LeavesNow, view_in, list_in}
use Rattle.cw_world.specs.Write.{HasBody}

-- what is stored of all logs but this one is the same
pub record AreSameOthers (name : LogName) (old new : Stored) : Type 0 where
  pub config : name ≢ Config → new.config ≡ old.config
  pub offsets : name ≢ Offsets → new.offsets ≡ old.offsets
  pub status : name ≢ Status → new.status ≡ old.status
  pub txn : name ≢ Txn → new.txn ≡ old.txn
  pub batches : name ≢ Batches → new.batches ≡ old.batches

pub same-others : (name : LogName) (stored : Stored) → AreSameOthers name stored stored
same-others name stored = record { config = λ n. refl; offsets = λ n. refl; status = λ n. refl; txn = λ n. refl; batches = λ n. refl }

pub body-others : (name : LogName) (body : List ℕ) (stored : Stored) → AreSameOthers name stored (with_body name body stored)
body-others Config body stored = record { config = λ n. absurd (n refl); offsets = λ n. refl; status = λ n. refl; txn = λ n. refl; batches = λ n. refl }
body-others Offsets body stored = record { config = λ n. refl; offsets = λ n. absurd (n refl); status = λ n. refl; txn = λ n. refl; batches = λ n. refl }
body-others Status body stored = record { config = λ n. refl; offsets = λ n. refl; status = λ n. absurd (n refl); txn = λ n. refl; batches = λ n. refl }
body-others Txn body stored = record { config = λ n. refl; offsets = λ n. refl; status = λ n. refl; txn = λ n. absurd (n refl); batches = λ n. refl }
body-others Batches body stored = record { config = λ n. refl; offsets = λ n. refl; status = λ n. refl; txn = λ n. refl; batches = λ n. absurd (n refl) }

-- so their lists are the same
pub lists-apart : (name : LogName) (old new : Stored) → AreSameOthers name old new → IsApart name old new
lists-apart name old new same Config n = ap (λ (log : Paired (List ℕ)). log.frames) (same.config n)
lists-apart name old new same Offsets n = ap (λ (log : Paired (List ℕ)). log.frames) (same.offsets n)
lists-apart name old new same Status n = ap (λ (log : Paired (List ℕ)). log.frames) (same.status n)
lists-apart name old new same Txn n = same.txn n
lists-apart name old new same Batches n = same.batches n

-- a list and side of one log go over to another log that tells the same
module _ {D : Type 0} (G : Ghosts D) (s t : Stored) (old new : LogsState D) where
  go-config : t.config ≡ s.config → new.config ≡ old.config → Holds Config s (view_in G Config old) → Holds Config t (view_in G Config new)
  go-config list log h = rw (list, log) h

  go-offsets : t.offsets ≡ s.offsets → new.offsets ≡ old.offsets → Holds Offsets s (view_in G Offsets old) → Holds Offsets t (view_in G Offsets new)
  go-offsets list log h = rw (list, log) h

  go-status : t.status ≡ s.status → new.status ≡ old.status → Holds Status s (view_in G Status old) → Holds Status t (view_in G Status new)
  go-status list log h = rw (list, log) h

  go-txn : t.txn ≡ s.txn → new.txn ≡ old.txn → Holds Txn s (view_in G Txn old) → Holds Txn t (view_in G Txn new)
  go-txn list log h = rw (list, log) h

  go-batches : t.batches ≡ s.batches → new.batches ≡ old.batches → Holds Batches s (view_in G Batches old) → Holds Batches t (view_in G Batches new)
  go-batches list log h = rw (list, log) h

  behind : (name m : LogName) → AreSameOthers name s t → HaveSameOthers name old new → HoldAll G s old → Holds name t (view_in G name new) → Holds m t (view_in G m new)
  behind Config Config stored logs all here = here
  behind Config Offsets stored logs all here = go-offsets (stored.offsets (λ e. cc)) (logs.offsets (λ e. cc)) (all Offsets)
  behind Config Status stored logs all here = go-status (stored.status (λ e. cc)) (logs.status (λ e. cc)) (all Status)
  behind Config Txn stored logs all here = go-txn (stored.txn (λ e. cc)) (logs.txn (λ e. cc)) (all Txn)
  behind Config Batches stored logs all here = go-batches (stored.batches (λ e. cc)) (logs.batches (λ e. cc)) (all Batches)
  behind Offsets Config stored logs all here = go-config (stored.config (λ e. cc)) (logs.config (λ e. cc)) (all Config)
  behind Offsets Offsets stored logs all here = here
  behind Offsets Status stored logs all here = go-status (stored.status (λ e. cc)) (logs.status (λ e. cc)) (all Status)
  behind Offsets Txn stored logs all here = go-txn (stored.txn (λ e. cc)) (logs.txn (λ e. cc)) (all Txn)
  behind Offsets Batches stored logs all here = go-batches (stored.batches (λ e. cc)) (logs.batches (λ e. cc)) (all Batches)
  behind Status Config stored logs all here = go-config (stored.config (λ e. cc)) (logs.config (λ e. cc)) (all Config)
  behind Status Offsets stored logs all here = go-offsets (stored.offsets (λ e. cc)) (logs.offsets (λ e. cc)) (all Offsets)
  behind Status Status stored logs all here = here
  behind Status Txn stored logs all here = go-txn (stored.txn (λ e. cc)) (logs.txn (λ e. cc)) (all Txn)
  behind Status Batches stored logs all here = go-batches (stored.batches (λ e. cc)) (logs.batches (λ e. cc)) (all Batches)
  behind Txn Config stored logs all here = go-config (stored.config (λ e. cc)) (logs.config (λ e. cc)) (all Config)
  behind Txn Offsets stored logs all here = go-offsets (stored.offsets (λ e. cc)) (logs.offsets (λ e. cc)) (all Offsets)
  behind Txn Status stored logs all here = go-status (stored.status (λ e. cc)) (logs.status (λ e. cc)) (all Status)
  behind Txn Txn stored logs all here = here
  behind Txn Batches stored logs all here = go-batches (stored.batches (λ e. cc)) (logs.batches (λ e. cc)) (all Batches)
  behind Batches Config stored logs all here = go-config (stored.config (λ e. cc)) (logs.config (λ e. cc)) (all Config)
  behind Batches Offsets stored logs all here = go-offsets (stored.offsets (λ e. cc)) (logs.offsets (λ e. cc)) (all Offsets)
  behind Batches Status stored logs all here = go-status (stored.status (λ e. cc)) (logs.status (λ e. cc)) (all Status)
  behind Batches Txn stored logs all here = go-txn (stored.txn (λ e. cc)) (logs.txn (λ e. cc)) (all Txn)
  behind Batches Batches stored logs all here = here

  -- all logs hold what is stored where the one that was written to does
  pub hold-behind : (name : LogName) → AreSameOthers name s t → HaveSameOthers name old new → HoldAll G s old → Holds name t (view_in G name new) → HoldAll G t new
  hold-behind name stored logs all here = λ m. behind name m stored logs all here

-- ---- one log

told-body : (old : Option (List (List ℕ))) (list own : List (List ℕ)) (body : List ℕ) → ((known : List (List ℕ)) → old ≡ Some known → known ≡ list) →
    option_map (λ l. l ++ body ∷ []) old ≡ Some own → own ≡ list ++ body ∷ []
told-body None list own body told is = absurd (cc)
told-body (Some known) list own body told is =
    let same : known ++ body ∷ [] ≡ own = cc in
    sym same ∙ ap (λ (l : List (List ℕ)). l ++ body ∷ []) (told known refl)

-- with a body more
pub list-more : (list : List (List ℕ)) (body : List ℕ) (old new : LogView) → HoldsList list old → HasBody body old new → HoldsList (list ++ body ∷ []) new
list-more list body old new h has = record {
  told = λ own is. told-body old.bodies list own body h.told (sym has.bodies ∙ is);
  count = omega (arith, has.size, h.count, length-append list (body ∷ []));
  ready = record {
    bytes_are = omega (arith, has.bytes, h.ready.bytes_are, length_of-push list body);
    limit = has.limit ∙ h.ready.limit;
    alive = has.alive;
  };
}

-- with the same list
pub list-same : (list : List (List ℕ)) (old new : LogView) → HoldsList list old → HasSameBodies old new → new.shut ≡ old.shut → HoldsList list new
list-same list old new h same shut = record {
  told = λ own is. h.told own (sym same.bodies ∙ is);
  count = same.size ∙ h.count;
  ready = record { bytes_are = same.bytes ∙ h.ready.bytes_are; limit = same.limit ∙ h.ready.limit; alive = shut ∙ h.ready.alive };
}

pub holds-same : (name : LogName) (stored : Stored) (old new : LogView) → Holds name stored old → HasSameBodies old new → new.shut ≡ old.shut → Holds name stored new
holds-same Config stored old new h same shut = list-same _ old new h same shut
holds-same Offsets stored old new h same shut = list-same _ old new h same shut
holds-same Status stored old new h same shut = list-same _ old new h same shut
holds-same Txn stored old new h same shut = list-same _ old new h same shut
holds-same Batches stored old new h same shut = list-same _ old new h same shut

pub holds-more : (name : LogName) (stored : Stored) (body : List ℕ) (old new : LogView) → Holds name stored old → HasBody body old new → Holds name (with_body name body stored) new
holds-more Config stored body old new h has = list-more _ body old new h has
holds-more Offsets stored body old new h has = list-more _ body old new h has
holds-more Status stored body old new h has = list-more _ body old new h has
holds-more Txn stored body old new h has = list-more _ body old new h has
holds-more Batches stored body old new h has = list-more _ body old new h has

pub list-with : (name : LogName) (body : List ℕ) (stored : Stored) → list_in name (with_body name body stored) ≡ list_in name stored ++ body ∷ []
list-with Config body stored = refl
list-with Offsets body stored = refl
list-with Status body stored = refl
list-with Txn body stored = refl
list-with Batches body stored = refl

pub bytes-are : (name : LogName) (s : Cluster) → bytes_in name s ≡ length_of (list_in name (stored_of s))
bytes-are Config s = refl
bytes-are Offsets s = refl
bytes-are Status s = refl
bytes-are Txn s = refl
bytes-are Batches s = refl

-- what the logs hold of a state, they hold of one with the same logs
pub stored-same : (old new : Cluster) → HasSameLogs old new → stored_of new ≡ stored_of old
stored-same old new same = rw (same.config, same.offsets, same.status, same.txn, same.batches) refl

-- ---- one log that changes

module _ {D : Type 0} (logs : LogsState D) where
  pub only-config : (log : PairState D) → HaveSameOthers Config logs (record logs { config = log })
  only-config log = record { config = λ n. absurd (n refl); offsets = λ n. refl; status = λ n. refl; txn = λ n. refl; batches = λ n. refl }

  pub only-offsets : (log : PairState D) → HaveSameOthers Offsets logs (record logs { offsets = log })
  only-offsets log = record { config = λ n. refl; offsets = λ n. absurd (n refl); status = λ n. refl; txn = λ n. refl; batches = λ n. refl }

  pub only-status : (log : PairState D) → HaveSameOthers Status logs (record logs { status = log })
  only-status log = record { config = λ n. refl; offsets = λ n. refl; status = λ n. absurd (n refl); txn = λ n. refl; batches = λ n. refl }

  pub only-txn : (log : LogState D) → HaveSameOthers Txn logs (record logs { txn = log })
  only-txn log = record { config = λ n. refl; offsets = λ n. refl; status = λ n. refl; txn = λ n. absurd (n refl); batches = λ n. refl }

  pub only-batches : (log : LogState D) → HaveSameOthers Batches logs (record logs { batches = log })
  only-batches log = record { config = λ n. refl; offsets = λ n. refl; status = λ n. refl; txn = λ n. refl; batches = λ n. absurd (n refl) }

-- ---- what a stop adds

module _ {D : Type 0} (G : Ghosts D) where
  pub nothing-added : (name : LogName) (logs : LogsState D) (P : List (List ℕ) → Type 0) → AddsTo G name logs logs P
  nothing-added Config logs P = adds_none (λ (pair : PairState D). length pair.past) (PairLeaves G) logs.config P
  nothing-added Offsets logs P = adds_none (λ (pair : PairState D). length pair.past) (PairLeaves G) logs.offsets P
  nothing-added Status logs P = adds_none (λ (pair : PairState D). length pair.past) (PairLeaves G) logs.status P
  nothing-added Txn logs P = adds_none (λ (log : LogState D). G.moment log.disk) (λ (log : LogState D) t list. StandsSince log.kind (G.left_since log.disk t) list) logs.txn P
  nothing-added Batches logs P = adds_none (λ (log : LogState D). G.moment log.disk) (λ (log : LogState D) t list. StandsSince log.kind (G.left_since log.disk t) list) logs.batches P

  pub less-added : (name : LogName) (old new : LogsState D) (P Q : List (List ℕ) → Type 0) → AddsTo G name old new P → ((list : List (List ℕ)) → P list → Q list) → AddsTo G name old new Q
  less-added Config old new P Q adds weaker = adds_weaker (λ (pair : PairState D). length pair.past) (PairLeaves G) old.config new.config P Q adds weaker
  less-added Offsets old new P Q adds weaker = adds_weaker (λ (pair : PairState D). length pair.past) (PairLeaves G) old.offsets new.offsets P Q adds weaker
  less-added Status old new P Q adds weaker = adds_weaker (λ (pair : PairState D). length pair.past) (PairLeaves G) old.status new.status P Q adds weaker
  less-added Txn old new P Q adds weaker = adds_weaker (λ (log : LogState D). G.moment log.disk) (λ (log : LogState D) t list. StandsSince log.kind (G.left_since log.disk t) list) old.txn new.txn P Q adds weaker
  less-added Batches old new P Q adds weaker = adds_weaker (λ (log : LogState D). G.moment log.disk) (λ (log : LogState D) t list. StandsSince log.kind (G.left_since log.disk t) list) old.batches new.batches P Q adds weaker

  pub less-left : (name : LogName) (logs : LogsState D) (P Q : List (List ℕ) → Type 0) → LeavesNow G name logs P → ((list : List (List ℕ)) → P list → Q list) → LeavesNow G name logs Q
  less-left Config logs P Q leaves weaker = λ image may. let found = leaves image may in (found.0, weaker found.0 found.1, found.2)
  less-left Offsets logs P Q leaves weaker = λ image may. let found = leaves image may in (found.0, weaker found.0 found.1, found.2)
  less-left Status logs P Q leaves weaker = λ image may. let found = leaves image may in (found.0, weaker found.0 found.1, found.2)
  less-left Txn logs P Q leaves weaker = λ image may. let found = leaves image may in (found.0, weaker found.0 found.1, found.2)
  less-left Batches logs P Q leaves weaker = λ image may. let found = leaves image may in (found.0, weaker found.0 found.1, found.2)
