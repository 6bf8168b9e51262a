-- One entry more on a walk over a list.
use Rattle.std.proofs.Common.{◌≡◌, ℕ, suc, ◌+◌, ◌-◌, ◌<◌, ◌^◌, List, [], ◌∷◌, ◌++◌, length, replicate, get_or, slice_index_or, Option, Some, None, is_some, true, false, refl, ap, subst, ◌∙◌, arith, append_assoc, length-append}
use Rattle.std.proofs.lemmas.List.{get_or_append_left, get_or-append-add, replicate_more}
use Rattle.cw_types.specs.declared.ids.PartKey.{PartKey}
use Rattle.cw_bytes.specs.Unread.{Unread, AreBytes}
use Rattle.cw_bytes.specs.Reading.{many_at}
use Rattle.cw_bytes.proofs.Many.{with_front}
use Rattle.cw_txn.specs.BodyReading.{entry_at, body_at}
use Rattle.cw_txn.specs.Replayed.{Replayed, TakesBody}
use Rattle.cw_txn.specs.declared.entry.Entry.{Entry}
use Rattle.cw_txn.specs.declared.tables.Tables.{Tables}
use Rattle.cw_txn.specs.declared.replay.Walk.{Walk}
use Rattle.cw_txn.specs.Legal.{Chains, ChainsBehind}
use Rattle.cw_txn.specs.Allowed.{IsAllowedBehind, AreAllowed, IsFirstNotAllowed, IsFirstUnchained}
use Rattle.cw_txn.specs.Tables.{Keeps, IsCoordinator}
use Rattle.cw_txn.specs.Walk.{HasGate, ChainsUpTo, AreWalked, Found, Walked, Took}
use Rattle.cw_txn.proofs.Walks.{Each-push}
use Rattle.cw_txn.proofs.Bodies.{body_takes}
use Rattle.cw_txn.proofs.AllowedLemmas.{allowed_is_legal}

module _ (entries : List Entry) (gates : List ℕ) (entry : Entry) (gate : ℕ) (aligned : length gates ≡ length entries) where
  -- where every part chained so far
  pub still_chains : ((part : PartKey) → Chains part entries) → ((part : PartKey) → ChainsBehind part entries entry) → (part : PartKey) → Chains part (entries ++ entry ∷ [])
  still_chains each here part = Each-push (ChainsBehind part) entries entry (each part) (here part)

  -- the last gate is that of the last entry
  last_gate : (place : ℕ) → length entries ≡ place → get_or (gates ++ gate ∷ []) place gate ≡ gate
  last_gate place at =
      let is : length gates + 0 ≡ place = omega arith in
      subst (λ (n : ℕ). get_or (gates ++ gate ∷ []) n gate ≡ gate) is (get_or-append-add gates (gate ∷ []) 0 gate)

  -- the gates before it stay
  same_gate : (before behind : List Entry) (e : Entry) (place first : ℕ) → entries ≡ before ++ e ∷ behind → length before ≡ place → get_or gates place first ≡ first
      → get_or (gates ++ gate ∷ []) place first ≡ first
  same_gate before behind e place first split at is =
      let long : length entries ≡ length before + suc (length behind) = ap length split ∙ length-append before (e ∷ behind) in
      let within : place < length gates = omega arith in
      get_or_append_left gates (gate ∷ []) first place within ∙ is

  longer : (before behind : List Entry) (e : Entry) → entries ≡ before ++ e ∷ behind → entries ++ entry ∷ [] ≡ before ++ e ∷ (behind ++ entry ∷ [])
  longer before behind e split = ap (λ (l : List Entry). l ++ entry ∷ []) split ∙ append_assoc before (e ∷ behind) (entry ∷ [])

  -- the first that doesn't chain stays the first
  pub still_first : (first : ℕ) → HasGate (IsFirstUnchained entries) gates first → HasGate (IsFirstUnchained (entries ++ entry ∷ [])) (gates ++ gate ∷ []) first
  still_first first (place, one, is) = (
    place,
    record {
      before = one.before;
      entry = one.entry;
      behind = one.behind ++ entry ∷ [];
      split = longer one.before one.behind one.entry one.split;
      at = one.at;
      chains = one.chains;
      broken = one.broken;
    },
    same_gate one.before one.behind one.entry place first one.split one.at is,
  )

  -- it is this one
  pub first_here : ((part : PartKey) → Chains part entries) → ((part : PartKey) × (¬ ChainsBehind part entries entry)) → HasGate (IsFirstUnchained (entries ++ entry ∷ [])) (gates ++ gate ∷ []) gate
  first_here chains broken = (length entries, record { before = entries; entry = entry; behind = []; split = refl; at = refl; chains = chains; broken = broken }, last_gate (length entries) refl)

  -- so does the first that isn't allowed
  still_not_allowed : (first : ℕ) → HasGate (IsFirstNotAllowed entries) gates first → HasGate (IsFirstNotAllowed (entries ++ entry ∷ [])) (gates ++ gate ∷ []) first
  still_not_allowed first (place, one, is) = (
    place,
    record {
      before = one.before;
      entry = one.entry;
      behind = one.behind ++ entry ∷ [];
      split = longer one.before one.behind one.entry one.split;
      at = one.at;
      allowed = one.allowed;
      not_allowed = one.not_allowed;
    },
    same_gate one.before one.behind one.entry place first one.split one.at is,
  )

  -- behind an entry that isn't allowed
  pub stays_found : (not_allowed unchained : Option ℕ) (tables : Tables) → is_some not_allowed ≡ true → Found not_allowed tables entries gates unchained
      → Found not_allowed tables (entries ++ entry ∷ []) (gates ++ gate ∷ []) unchained
  stays_found None unchained tables some found = absurd cc
  stays_found (Some first) unchained tables some found = still_not_allowed first found

  -- this one isn't allowed
  pub not_allowed_here : AreAllowed entries → ¬ IsAllowedBehind entries entry → HasGate (IsFirstNotAllowed (entries ++ entry ∷ [])) (gates ++ gate ∷ []) gate
  not_allowed_here allowed never = (
    length entries,
    record {
      before = entries;
      entry = entry;
      behind = [];
      split = refl;
      at = refl;
      allowed = allowed;
      not_allowed = never;
    },
    last_gate (length entries) refl,
  )

  -- this one is allowed
  pub walked_on : (old new : Tables) (first after not_allowed : Option ℕ) → AreWalked old entries gates first → is_some not_allowed ≡ false → IsAllowedBehind entries entry
      → ((l : List Entry) → Keeps old l → Keeps new (l ++ entry ∷ []))
      → (ChainsUpTo entries gates first → ChainsUpTo (entries ++ entry ∷ []) (gates ++ gate ∷ []) after) → Found not_allowed new (entries ++ entry ∷ []) (gates ++ gate ∷ []) after
  walked_on old new first after None walked none allowed added later = record {
    allowed = Each-push IsAllowedBehind entries entry walked.allowed allowed;
    kept = added entries walked.kept;
    chained = later walked.chained;
  }
  walked_on old new first after (Some gate) walked none allowed added later = absurd cc

-- where all are allowed so far
pub so_far : (not_allowed unchained : Option ℕ) (tables : Tables) (entries : List Entry) (gates : List ℕ) → is_some not_allowed ≡ false
    → Found not_allowed tables entries gates unchained → AreWalked tables entries gates unchained
so_far None unchained tables entries gates none found = found
so_far (Some first) unchained tables entries gates none found = absurd cc

-- one entry more than those taken
pub took_more : (group : List Entry) (entry : Entry) (gate : ℕ) (old mid new : Walk) → Took group gate old mid → Took (entry ∷ []) gate mid new → Took (group ++ entry ∷ []) gate old new
took_more group entry gate old mid new took one = record {
  entries = one.entries ∙ ap (λ (l : List Entry). l ++ entry ∷ []) took.entries ∙ append_assoc old.entries.items group (entry ∷ []);
  gates = one.gates ∙ ap (λ (l : List ℕ). l ++ gate ∷ []) took.gates ∙ append_assoc old.gates.items (replicate (length group) gate) (gate ∷ [])
      ∙ ap (λ (l : List ℕ). old.gates.items ++ l) (replicate_more (length group) gate ∙ ap (λ (n : ℕ). replicate n gate) (simp length-append));
  walked = one.walked;
}

-- of so many entries these were taken, and others are still read
pub record TakesMany (group : List Entry) (gate count i : ℕ) (first from : Unread) (old walk : Walk) : Type 0 where
  pub reads : with_front entry_at group (many_at entry_at (count - i) from) ≡ many_at entry_at count first
  pub took : Took group gate old walk

-- a body's entries were taken
pub takes_body : (body : List ℕ) (gate : ℕ) (group : List Entry) (old new : Walk) → AreBytes body → body_at body ≡ Some group → Took group gate old new
    → TakesBody body gate (record { entries = old.entries.items; gates = old.gates.items }) (record { entries = new.entries.items; gates = new.gates.items })
takes_body body gate group old new fits read took =
    let is = body_takes body group fits read in
    record { group = group; are = is.0; spelled = is.1; entries = took.entries; gates = took.gates }

-- what a walk found, by cases
module _ (tables : Tables) (entries : List Entry) (gates : List ℕ) where
  found_not_allowed : (not_allowed unchained : Option ℕ) (gate : ℕ) → Found not_allowed tables entries gates unchained → not_allowed ≡ Some gate
      → HasGate (IsFirstNotAllowed entries) gates gate
  found_not_allowed None unchained gate found is = absurd cc
  found_not_allowed (Some first) unchained gate found is = let same : first ≡ gate = cc in subst (HasGate (IsFirstNotAllowed entries) gates) same found

  found_unchained : (not_allowed unchained : Option ℕ) (gate : ℕ) → Found not_allowed tables entries gates unchained → not_allowed ≡ None → unchained ≡ Some gate
      → AreAllowed entries × HasGate (IsFirstUnchained entries) gates gate
  found_unchained None None gate found allowed is = absurd cc
  found_unchained None (Some first) gate found allowed is = let same : first ≡ gate = cc in (found.allowed, subst (HasGate (IsFirstUnchained entries) gates) same found.chained)
  found_unchained (Some other) unchained gate found allowed is = absurd cc

-- what the faults of a replay say of its meaning
module _ (walk : Walk) (was : Replayed) (walked : Walked walk) (is : record { entries = walk.entries.items; gates = walk.gates.items } ≡ was) where
  pub names_not_allowed : (gate : ℕ) → walk.not_allowed ≡ Some gate → (place : ℕ) × IsFirstNotAllowed was.entries place × (slice_index_or was.gates place gate ≡ gate)
  names_not_allowed gate found = subst (λ (r : Replayed). HasGate (IsFirstNotAllowed r.entries) r.gates gate) is
      (found_not_allowed walk.tables walk.entries.items walk.gates.items walk.not_allowed walk.unchained gate walked.found found)

  pub names_unchained : (gate : ℕ) → walk.not_allowed ≡ None → walk.unchained ≡ Some gate
      → (place : ℕ) × AreAllowed was.entries × IsFirstUnchained was.entries place × (slice_index_or was.gates place gate ≡ gate)
  names_unchained gate allowed found =
      let (each, (place, first, at)) = subst (λ (r : Replayed). AreAllowed r.entries × HasGate (IsFirstUnchained r.entries) r.gates gate) is
      (found_unchained walk.tables walk.entries.items walk.gates.items walk.not_allowed walk.unchained gate walked.found allowed found) in
      (place, each, first, at)

-- a walk that found no fault is a coordinator's
coordinates : (not_allowed unchained : Option ℕ) (tables : Tables) (entries : List Entry) (gates : List ℕ) (count : ℕ) → Found not_allowed tables entries gates unchained
    → not_allowed ≡ None → unchained ≡ None → count ≡ length entries → count < 2 ^ 64 → IsCoordinator tables entries [] count
coordinates None None tables entries gates count found allowed chained counted few = record {
  legal = allowed_is_legal entries found.allowed;
  chains = found.chained;
  kept = found.kept;
  rows = λ entry there. absurd (omega arith);
  counted = counted;
  few = omega arith;
}
coordinates None (Some gate) tables entries gates count found allowed chained counted few = absurd cc
coordinates (Some gate) unchained tables entries gates count found allowed chained counted few = absurd cc

pub is_coordinator : (walk : Walk) → Walked walk → walk.not_allowed ≡ None → walk.unchained ≡ None → IsCoordinator walk.tables walk.entries.items [] walk.length
is_coordinator walk walked allowed chained =
    coordinates walk.not_allowed walk.unchained walk.tables walk.entries.items walk.gates.items walk.length walked.found allowed chained walked.counted walked.few
