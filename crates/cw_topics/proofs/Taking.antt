-- Entries of a log that is opened are taken one by one, frame by frame.
use Rattle.std.proofs.Common.{◌≡◌, inl, inr, ℕ, ◌+◌, ◌<◌, ◌≤◌, ◌^◌, List, [], ◌∷◌, ◌++◌, length, map, take, drop, get_or, sym, ◌∙◌, ap, subst, arith, append_assoc}
use Rattle.std.proofs.lemmas.List.{append-nil, take_all, take_more, map-append, take-append-drop}
use Rattle.std.specs.List.{filter_map, cons_option}
use Rattle.std.proofs.lemmas.List.Elements.{filter_map-append}
use Rattle.std.proofs.lemmas.List.Concat.{flat_map-append}
use Rattle.cw_bytes.specs.declared.applied.Applied.{Applied}
use Rattle.cw_bytes.specs.Frames.{joined}
use Rattle.cw_config.specs.declared.records.ConfigRecord.{ConfigRecord}
use Rattle.cw_config.specs.Compaction.{config_in, configs_in}
use Rattle.cw_data.specs.Body.{entry_bytes}
use Rattle.cw_data.specs.DataLog.{DataLog, Adds, UsesUp as UsesRoom}
use Rattle.cw_data.specs.Log.{records}
use Rattle.cw_data.specs.declared.entry.Batch.{Batch}
use Rattle.cw_data.specs.declared.entry.DataEntry.{DataEntry}
use Rattle.cw_data.specs.declared.entry.DataEntry.TheVariants.{Batch as InBatch}
use Rattle.cw_log.specs.Log.{length_of}
use Rattle.cw_txn.specs.declared.entry.Entry.{Entry}
use Rattle.cw_txn.specs.Legal.{EachFrom}
use Rattle.cw_txn.specs.Transactions.{Transactions, Appends, UsesUp}
use Rattle.cw_topics.specs.Entries.{with_entry}
use Rattle.cw_topics.proofs.Counts.{all_records-few, values-few}
use Rattle.cw_topics.proofs.Putting.{each-at, each-behind}
use Rattle.cw_log.proofs.Replaced.{length_of-some}

-- ---- one entry

abbrev pub listed : List Entry → Transactions
listed entries = record { entries = entries; reserved = [] }

uses-none : (entry : Entry) (new : List Entry) → UsesUp entry [] new → new ≡ []
uses-none entry new (inr none) = none.1
uses-none entry new (inl used) = never used.front used.split
  where
    never : (front : List Entry) → [] ≡ front ++ entry ∷ used.back → new ≡ []
    never [] e = absurd (cc)
    never (x ∷ xs) e = absurd (cc)

-- with no memory taken, an entry that is appended is the last of the list
pub taken-entry : (entry : Entry) (old new : Transactions) → old.reserved ≡ [] → Appends entry old new → new ≡ with_entry entry old.entries
taken-entry entry old new free put =
    let none : new.reserved ≡ [] = uses-none entry new.reserved (subst (λ (l : List Entry). UsesUp entry l new.reserved) free put.reserved) in
    λ i. record { entries = put.entries i; reserved = none i }

-- ---- a frame

pub none-taken : (now : Transactions) (frame : List Entry) → now.reserved ≡ [] → now ≡ listed (now.entries ++ take 0 frame)
none-taken now frame free = λ i. record { entries = sym (append-nil now.entries) i; reserved = free i }

module _ (before frame : List Entry) (k : ℕ) (now : Transactions) (so_far : now ≡ listed (before ++ take k frame)) (d : Entry) (within : k < length frame) where
  pub next-fits : (P : List Entry → Entry → Type 0) → EachFrom P before frame → P now.entries (get_or frame k d)
  next-fits P each = subst (λ (l : List Entry). P l (get_or frame k d)) (sym (ap (λ (t : Transactions). t.entries) so_far)) (each-at P before frame k d each within)

  pub next-taken : (x : Entry) → x ≡ get_or frame k d → (new : Transactions) → new ≡ with_entry x now.entries → new ≡ listed (before ++ take (k + 1) frame)
  next-taken x is new added =
      let longer : now.entries ++ x ∷ [] ≡ before ++ take (k + 1) frame =
      ap (λ (t : Transactions). t.entries ++ x ∷ []) so_far ∙ append_assoc before (take k frame) (x ∷ [])
      ∙ ap (λ (y : Entry). before ++ (take k frame ++ y ∷ [])) is
      ∙ ap (λ (l : List Entry). before ++ l) (sym (take_more frame k d within)) in
      added ∙ ap listed longer

pub all-taken : (before frame : List Entry) (k : ℕ) (now : Transactions) → now ≡ listed (before ++ take k frame) → length frame ≤ k → now ≡ listed (before ++ frame)
all-taken before frame k now so_far all = so_far ∙ ap (λ (l : List Entry). listed (before ++ l)) (take_all k frame all)

-- ---- all frames

each-first : (P : List Entry → Entry → Type 0) (before xs ys : List Entry) → EachFrom P before (xs ++ ys) → EachFrom P before xs
each-first P before [] ys each = tt
each-first P before (x ∷ xs) ys each = (each.0, each-first P (before ++ x ∷ []) xs ys each.1)

joined-push : (frames : List (List Entry)) (frame : List Entry) → joined (frames ++ frame ∷ []) ≡ joined frames ++ frame
joined-push frames frame = flat_map-append (λ (f : List Entry). f) frames (frame ∷ []) ∙ ap (λ (l : List Entry). joined frames ++ l) (append-nil frame)

module _ (frames : List (List Entry)) (k : ℕ) (now : Transactions) (so_far : now ≡ listed (joined (take k frames))) (frame : List Entry) (within : k < length frames) (is : frame ≡ get_or frames k frame) where
  more : take (k + 1) frames ≡ take k frames ++ frame ∷ []
  more = take_more frames k frame within ∙ ap (λ (f : List Entry). take k frames ++ f ∷ []) (sym is)

  parts : joined frames ≡ joined (take k frames) ++ (frame ++ joined (drop (k + 1) frames))
  parts = ap joined (sym (take-append-drop (k + 1) frames)) ∙ flat_map-append (λ (f : List Entry). f) (take (k + 1) frames) (drop (k + 1) frames)
      ∙ ap (λ (l : List (List Entry)). joined l ++ joined (drop (k + 1) frames)) more
      ∙ ap (λ (l : List Entry). l ++ joined (drop (k + 1) frames)) (joined-push (take k frames) frame)
      ∙ append_assoc (joined (take k frames)) frame (joined (drop (k + 1) frames))

  pub frame-fits : (P : List Entry → Entry → Type 0) → EachFrom P [] (joined frames) → EachFrom P now.entries frame
  frame-fits P each = subst (λ (l : List Entry). EachFrom P l frame) (sym (ap (λ (t : Transactions). t.entries) so_far))
      (each-first P (joined (take k frames)) frame (joined (drop (k + 1) frames))
      (each-behind P [] (joined (take k frames)) (frame ++ joined (drop (k + 1) frames)) (subst (EachFrom P []) parts each)))

  pub frame-taken : (new : Transactions) → new ≡ listed (now.entries ++ frame) → new ≡ listed (joined (take (k + 1) frames))
  frame-taken new added = added ∙ ap (λ (t : Transactions). listed (t.entries ++ frame)) so_far ∙ ap listed (sym (joined-push (take k frames) frame))
      ∙ ap (λ (l : List (List Entry)). listed (joined l)) (sym more)

pub frames-taken : (frames : List (List Entry)) (k : ℕ) (now : Transactions) → now ≡ listed (joined (take k frames)) → length frames ≤ k → now ≡ listed (joined frames)
frames-taken frames k now so_far all = so_far ∙ ap (λ (l : List (List Entry)). listed (joined l)) (take_all k frames all)

-- ---- the data log

abbrev pub logged : List DataEntry → DataLog
logged entries = record { entries = entries; reserved = [] }

uses-no_room : (entry : DataEntry) (new : List DataEntry) → UsesRoom entry [] new → new ≡ []
uses-no_room entry new (inr none) = none.1
uses-no_room entry new (inl used) = never used.front used.split
  where
    never : (front : List DataEntry) → [] ≡ front ++ entry ∷ used.back → new ≡ []
    never [] e = absurd (cc)
    never (x ∷ xs) e = absurd (cc)

pub added-entry : (entry : DataEntry) (old new : DataLog) → old.reserved ≡ [] → Adds entry old new → new ≡ logged (old.entries ++ entry ∷ [])
added-entry entry old new free adds =
    let none : new.reserved ≡ [] = uses-no_room entry new.reserved (subst (λ (l : List DataEntry). UsesRoom entry l new.reserved) free adds.reserved) in
    λ i. record { entries = adds.entries i; reserved = none i }

-- what was added so far of all, and what is left
pub record IsAdded (whole rest : List DataEntry) (now : DataLog) : Type 0 where
  pub split : whole ≡ now.entries ++ rest
  pub free : now.reserved ≡ []

pub added-more : (whole rest : List DataEntry) (now : DataLog) (x : DataEntry) (left : List DataEntry) → IsAdded whole rest now → rest ≡ x ∷ left → (new : DataLog) → new ≡ logged (now.entries ++ x ∷ []) → IsAdded whole left new
added-more whole rest now x left so_far next new added = record {
  split = so_far.split ∙ ap (λ (l : List DataEntry). now.entries ++ l) next ∙ sym (append_assoc now.entries (x ∷ []) left)
      ∙ ap (λ (l : DataLog). l.entries ++ left) (sym added);
  free = ap (λ (l : DataLog). l.reserved) added;
}

pub added-all : (whole rest : List DataEntry) (now : DataLog) → IsAdded whole rest now → rest ≡ [] → now ≡ logged whole
added-all whole rest now so_far none =
    let all : now.entries ≡ whole = sym (so_far.split ∙ ap (λ (l : List DataEntry). now.entries ++ l) none ∙ append-nil now.entries) in
    λ i. record { entries = all i; reserved = so_far.free i }

length_of-append : (xs ys : List (List ℕ)) → length_of (xs ++ ys) + 17 ≡ length_of xs + length_of ys
length_of-append [] ys = omega arith
length_of-append (x ∷ xs) ys = omega (arith, length_of-append xs ys)

-- where a disk can hold the log with a batch, the records of its topic can be counted
pub records-countable : (batch : Batch) (log : List DataEntry) → length_of (map entry_bytes (log ++ InBatch batch ∷ [])) < 2 ^ 64 →
    length (records batch.topic log) + length batch.values < 2 ^ 64
records-countable batch log fits =
    let split : map entry_bytes (log ++ InBatch batch ∷ []) ≡ map entry_bytes log ++ entry_bytes (InBatch batch) ∷ [] = map-append entry_bytes log (InBatch batch ∷ []) in
    omega (arith, fits, ap length_of split, length_of-append (map entry_bytes log) (entry_bytes (InBatch batch) ∷ []), all_records-few batch.topic log, values-few batch)

-- the first part of a log is no longer than the whole
pub part-fits : (log : List DataEntry) (behind whole : List DataEntry) → whole ≡ log ++ behind → length_of (map entry_bytes whole) < 2 ^ 64 → length_of (map entry_bytes log) < 2 ^ 64
part-fits log behind whole split fits =
    let parts : map entry_bytes whole ≡ map entry_bytes log ++ map entry_bytes behind = ap (map entry_bytes) split ∙ map-append entry_bytes log behind in
    omega (arith, fits, ap length_of parts, length_of-append (map entry_bytes log) (map entry_bytes behind), length_of-some (map entry_bytes behind))

-- the next one to be added, with those before it, is a part of all
pub next-within : (whole rest : List DataEntry) (now : DataLog) (x : DataEntry) (left : List DataEntry) → IsAdded whole rest now → rest ≡ x ∷ left →
    length_of (map entry_bytes whole) < 2 ^ 64 → length_of (map entry_bytes (now.entries ++ x ∷ [])) < 2 ^ 64
next-within whole rest now x left so_far next fits =
    let split : whole ≡ (now.entries ++ x ∷ []) ++ left =
    so_far.split ∙ ap (λ (l : List DataEntry). now.entries ++ l) next ∙ sym (append_assoc now.entries (x ∷ []) left) in
    part-fits (now.entries ++ x ∷ []) left whole split fits

-- ---- the config log

pub none-read : (old : List ConfigRecord) (frame : List Applied) → old ≡ old ++ filter_map config_in (take 0 frame)
none-read old frame = sym (append-nil old)

-- one record more of a frame
pub record-read : (old : List ConfigRecord) (frame : List Applied) (k : ℕ) (now : List ConfigRecord) → now ≡ old ++ filter_map config_in (take k frame) → (x : Applied) → k < length frame → x ≡ get_or frame k x →
    (new : List ConfigRecord) → new ≡ now ++ cons_option (config_in x) [] → new ≡ old ++ filter_map config_in (take (k + 1) frame)
record-read old frame k now so_far x within is new added =
    added ∙ ap (λ (l : List ConfigRecord). l ++ cons_option (config_in x) []) so_far
    ∙ append_assoc old (filter_map config_in (take k frame)) (cons_option (config_in x) [])
    ∙ ap (λ (l : List ConfigRecord). old ++ l) (sym (filter_map-append config_in (take k frame) (x ∷ [])))
    ∙ ap (λ (l : List Applied). old ++ filter_map config_in l) (sym (take_more frame k x within ∙ ap (λ (y : Applied). take k frame ++ y ∷ []) (sym is)))

pub all-read : (old : List ConfigRecord) (frame : List Applied) (k : ℕ) (now : List ConfigRecord) → now ≡ old ++ filter_map config_in (take k frame) → length frame ≤ k → now ≡ old ++ filter_map config_in frame
all-read old frame k now so_far all = so_far ∙ ap (λ (l : List Applied). old ++ filter_map config_in l) (take_all k frame all)

configs-push : (frames : List (List Applied)) (frame : List Applied) → configs_in (frames ++ frame ∷ []) ≡ configs_in frames ++ filter_map config_in frame
configs-push frames frame =
    ap (filter_map config_in) (flat_map-append (λ (f : List Applied). f) frames (frame ∷ []) ∙ ap (λ (l : List Applied). joined frames ++ l) (append-nil frame))
    ∙ filter_map-append config_in (joined frames) frame

-- one frame more of the log
pub frame-read : (frames : List (List Applied)) (k : ℕ) (now : List ConfigRecord) → now ≡ configs_in (take k frames) → (frame : List Applied) → k < length frames → frame ≡ get_or frames k frame →
    (new : List ConfigRecord) → new ≡ now ++ filter_map config_in frame → new ≡ configs_in (take (k + 1) frames)
frame-read frames k now so_far frame within is new added =
    added ∙ ap (λ (l : List ConfigRecord). l ++ filter_map config_in frame) so_far ∙ sym (configs-push (take k frames) frame)
    ∙ ap configs_in (sym (take_more frames k frame within ∙ ap (λ (f : List Applied). take k frames ++ f ∷ []) (sym is)))

pub frames-read : (frames : List (List Applied)) (k : ℕ) (now : List ConfigRecord) → now ≡ configs_in (take k frames) → length frames ≤ k → now ≡ configs_in frames
frames-read frames k now so_far all = so_far ∙ ap configs_in (take_all k frames all)
