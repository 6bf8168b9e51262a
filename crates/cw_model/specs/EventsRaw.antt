-- Producers of a script: they bump their epochs and commit spans of parts that no connector has, judged by their epoch
-- alone (KIP-98). Such producers and parts are this project's own.
use Rattle.std.specs.Prelude.{ℕ, ◌≤◌, ◌<◌, ◌^◌, ◌==◌, Bool, All, List, [], ◌∷◌, map, length, nat_le, Option, Some, None}
use Rattle.std.specs.List.{find, IsDistinct}
use Rattle.cw_types.specs.declared.ids.Epoch.{Epoch}
use Rattle.cw_types.specs.declared.ids.PartKey.TheVariants.{Raw}
use Rattle.cw_types.specs.declared.ids.Span.{Span}
use Rattle.cw_types.specs.declared.ids.Tid.TheVariants.{Raw as RawTid}
use Rattle.cw_txn.specs.declared.entry.Entry.{Entry}
use Rattle.cw_txn.specs.declared.entry.Entry.TheVariants.{Commit}
use Rattle.cw_model.specs.declared.fault.WorldFault.TheVariants.{Fenced, BadCut}
use Rattle.cw_model.specs.State.{Cluster}
use Rattle.cw_model.specs.Lookups.{last_epoch, end_or_start, list_end}
use Rattle.cw_model.specs.Answers.{Answer, refused, at_open}
use Rattle.cw_model.specs.Updates.{appends_entries, bumps, next_epoch, unless_fenced}

-- a script's producer gets the next epoch
abbrev pub raw_init : ℕ → Cluster → Answer Epoch
raw_init n = at_open (λ s. bumps (RawTid n) (λ t. t) (next_epoch (RawTid n) s) s)

-- its number fits its field
abbrev pub MayRawInit : ℕ → Type 0
MayRawInit n = n < 2 ^ 32

-- the span of a part up to a new end
abbrev pub raw_span : List Entry → ℕ × ℕ → Span
raw_span entries pair = record { part = Raw pair.0; from = end_or_start (Raw pair.0) entries; to = pair.1 }

-- a span that doesn't grow its part
abbrev pub is_bad_span : Span → Bool
is_bad_span span = nat_le span.to span.from

-- what is done with spans, unless one of them doesn't grow its part
abbrev pub unless_bad : {A : Type 0} → Option Span → Answer A → Cluster → Answer A
unless_bad None done s = done
unless_bad (Some span) done s = refused (BadCut span.from span.to) s

-- a transaction of a script's producer, numbered by its place in the list
abbrev pub raw_commit_of : ℕ → Epoch → List Span → List Entry → Entry
raw_commit_of n epoch spans entries =
    Commit (record { number = list_end entries; epoch = epoch; tid = RawTid n }) 0 spans

-- a script's producer commits parts up to new ends: the answer is the spans
abbrev pub raw_commit : ℕ → Epoch → List (ℕ × ℕ) → Cluster → Answer (List Span)
raw_commit n epoch list = at_open (λ s. let spans = map (raw_span s.entries) list in
    let last = last_epoch (RawTid n) s in
    unless_fenced epoch.0 last (unless_bad (find is_bad_span spans)
    (appends_entries (raw_commit_of n epoch spans s.entries ∷ []) (λ t. t) spans s) s)
    (refused (Fenced epoch.0 last) s))

-- 1 to 16 parts, none named twice, whose numbers and ends fit their fields, of a producer whose number does
pub record MayRawCommit (n : ℕ) (list : List (ℕ × ℕ)) : Type 0 where
  pub some : 1 ≤ length list
  pub few : length list ≤ 16
  pub distinct : IsDistinct (λ a b. a == b) (map (λ (pair : ℕ × ℕ). pair.0) list)
  pub producer : n < 2 ^ 32
  pub parts : All (λ (pair : ℕ × ℕ). pair.0 < 2 ^ 32) list
  pub ends : All (λ (pair : ℕ × ℕ). pair.1 < 2 ^ 64) list
