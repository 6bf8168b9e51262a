-- What a worker's tick does as the leader, or through it, is an operation of that leader.
use Rattle.std.proofs.Common.{◌≡◌, ◌<◌, ℕ, Bool, true, false, cond, List, [], ◌∷◌, length, nat_lt, Option, Some, None, IsSome, is_some, unwrap_or, option_map, Result, Ok, Err, refl, sym, ◌∙◌, ap, subst, if◌then◌else◌}
use Rattle.std.specs.Option.{option_map_or}
use Rattle.std.specs.List.{find, filter_map}
use Rattle.cw_types.specs.declared.logs.DiskName.{DiskName}
use Rattle.cw_types.specs.declared.logs.LogName.{LogName}
use Rattle.cw_types.specs.declared.logs.LogName.TheVariants.{Config, Offsets, Status, Txn, Batches}
use Rattle.cw_types.specs.declared.ids.Tag.{Tag}
use Rattle.cw_types.specs.declared.ids.Tid.TheVariants.{Lead}
use Rattle.cw_types.specs.declared.ids.Epoch.{Epoch}
use Rattle.cw_config.specs.declared.records.ConfigRecord.{ConfigRecord}
use Rattle.cw_txn.specs.declared.entry.Entry.{Entry}
use Rattle.cw_txn.specs.declared.entry.Entry.TheVariants.{Bump}
use Rattle.cw_txn.specs.Body.{entries_bytes}
use Rattle.cw_txn.specs.Legal.{is_committed}
use Rattle.cw_offset.specs.declared.body.OffsetEntry.{OffsetEntry}
use Rattle.cw_offset.specs.declared.body.OffsetEntry.TheVariants.{Mark}
use Rattle.cw_offset.specs.Body.{entry_bytes as offset_body}
use Rattle.cw_data.specs.declared.entry.DataEntry.{DataEntry}
use Rattle.cw_data.specs.declared.entry.DataEntry.TheVariants.{Mark as DataMark}
use Rattle.cw_data.specs.Body.{entry_bytes as data_body}
use Rattle.cw_rest.specs.Seen.{KeyedValues}
use Rattle.cw_laws.proofs.Proposed.{ready-leads}
use Rattle.cw_laws.proofs.Ticks.{fence-parts, read-all}
use Rattle.cw_laws.proofs.Workers.{sound_at}
use Rattle.cw_model.specs.declared.fault.WorldFault.{WorldFault}
use Rattle.cw_model.specs.declared.fault.WorldFault.TheVariants.{Fenced, StaleGeneration, PendingFence, BadCut, Gone, Full, StoreFault, Closed, Dead, Group, TooMany, Memory}
use Rattle.cw_model.specs.declared.tick.Tick.{Tick}
use Rattle.cw_model.specs.declared.tick.Tick.TheVariants as outcome
use Rattle.cw_model.specs.State.{Setting, Cluster}
use Rattle.cw_model.specs.Answers.{Answer, answered, refused, unless_closed}
use Rattle.cw_model.specs.Bodies.{txn_length, offsets_length, data_length, frame_of}
use Rattle.cw_model.specs.EventsLeading.{claim_lead, append_config, fence_one, append_fence, fencing_of, leading}
use Rattle.cw_model.specs.EventsMarking.{mark, marks, no_tag, unmarked_in}
use Rattle.cw_model.specs.Facts.{AreFacts}
use Rattle.cw_model.specs.Lookups.{row_of, seen, held}
use Rattle.cw_model.specs.Proposals.{proposal_of, needs_tasks, are_deferred, task_records}
use Rattle.cw_model.specs.Ready.{ready, connector_in}
use Rattle.cw_model.specs.TickRules.{Rule, Proposing, tells, unless_lost}
use Rattle.cw_model.specs.Updates.{next_epoch, changes_row, with_entries, with_offset, with_data, fits_entries, fits_offset, fits_data}
use Rattle.cw_ticks.specs.declared.turn.Turn.TheVariants as turn
use Rattle.cw_ticks.specs.Turns.{IsTurn}
use Rattle.cw_herder.specs.declared.op.Op.TheVariants as op
use Rattle.cw_herder.specs.declared.op.OpDone.{OpDone}
use Rattle.cw_herder.specs.declared.op.OpDone.TheVariants as done
use Rattle.cw_herder.specs.Operations as operation
use Rattle.cw_herder.specs.Operations.{done_as, op_event, MayOp, tick_of, IsAsked}
use Rattle.cw_herder.proofs.Asked.{lead-there}
use Rattle.cw_rest.specs.Operations.{commit_values}

-- ---- an operation tells what the tick tells

abbrev answer : {A : Type 0} → Result A WorldFault → Cluster → Answer A
answer r t = (r, t)

retold-at : {A : Type 0} (r : Result A WorldFault) (t : Cluster) (tell : A → OpDone) (say : OpDone → Tick) →
    tells (answer r t) (λ x _. say (tell x)) ≡ tells (done_as (answer r t) tell) (λ did _. say did)
retold-at (Ok x) t tell say = refl
retold-at (Err fault) t tell say = refl

retold : {A : Type 0} (did : Answer A) (tell : A → OpDone) (say : OpDone → Tick) →
    tells did (λ x _. say (tell x)) ≡ tells (done_as did tell) (λ x _. say x)
retold did tell say = retold-at did.0 did.1 tell say

-- ---- an event that isn't one under a lead epoch is never fenced

abbrev IsUnfenced : {A : Type 0} → Answer A → Type 0
IsUnfenced did = (own current : ℕ) → did.0 ≡ Err (Fenced own current) → ⊥

closed-unfenced : {A : Type 0} (o : Option (DiskName × ℕ)) (did : Answer A) (s : Cluster) → IsUnfenced did → IsUnfenced (unless_closed o did s)
closed-unfenced None did s is = is
closed-unfenced (Some fault) did s is = λ own current e. cc

if-unfenced : {A : Type 0} (b : Bool) (did other : Answer A) → IsUnfenced did → IsUnfenced other → IsUnfenced (if b then did else other)
if-unfenced true did other is else_is = is
if-unfenced false did other is else_is = else_is

kept-at : {A : Type 0} (r : Result A WorldFault) (t : Cluster) (tell : A → Cluster → Tick) → IsUnfenced (answer r t) →
    tells (answer r t) tell ≡ unless_lost (tells (answer r t) tell)
kept-at (Ok x) t tell is = refl
kept-at (Err (Fenced own current)) t tell is = absurd (is own current refl)
kept-at (Err (StaleGeneration own current)) t tell is = refl
kept-at (Err PendingFence) t tell is = refl
kept-at (Err (BadCut from to)) t tell is = refl
kept-at (Err (Gone i)) t tell is = refl
kept-at (Err (Full log length frame)) t tell is = refl
kept-at (Err (StoreFault disk count)) t tell is = refl
kept-at (Err (Closed disk count)) t tell is = refl
kept-at (Err (Dead w)) t tell is = refl
kept-at (Err (Group cause)) t tell is = refl
kept-at (Err TooMany) t tell is = refl
kept-at (Err Memory) t tell is = refl

done-unfenced : {A : Type 0} (x : A) (t : Cluster) → IsUnfenced (answered x t)
done-unfenced x t = λ own current e. cc

full-unfenced : {A : Type 0} (log : LogName) (length frame : ℕ) (t : Cluster) → IsUnfenced {A = A} (refused (Full log length frame) t)
full-unfenced log length frame t = λ own current e. cc

dead-unfenced : {A : Type 0} (w : ℕ) (t : Cluster) → IsUnfenced {A = A} (refused (Dead w) t)
dead-unfenced w t = λ own current e. cc

claim-unfenced : (w : ℕ) (s : Cluster) → IsUnfenced (claim_lead w s)
claim-unfenced w s =
    let frame : List Entry = Bump Lead ∷ [] in
    let led : Answer Epoch = answered (next_epoch Lead s) (changes_row w (leading (next_epoch Lead s)) (with_entries frame s)) in
    let full : Answer Epoch = refused (Full Txn (txn_length s) (frame_of (entries_bytes frame))) s in
    let claimed : Answer Epoch = if fits_entries frame s then led else full in
    closed-unfenced s.closed (if (row_of w s).live then claimed else refused (Dead w) s) s
    (if-unfenced (row_of w s).live claimed (refused (Dead w) s)
    (if-unfenced (fits_entries frame s) led full
    (done-unfenced (next_epoch Lead s) (changes_row w (leading (next_epoch Lead s)) (with_entries frame s)))
    (full-unfenced Txn (txn_length s) (frame_of (entries_bytes frame)) s))
    (dead-unfenced w s))

marks-unfenced : (log : LogName) (tag : Tag) (committed : Bool) (s : Cluster) → IsUnfenced (marks log tag committed s)
marks-unfenced Config tag committed s = done-unfenced (tag, committed) s
marks-unfenced Offsets tag committed s =
    let entry : OffsetEntry = Mark (record { tag = tag; committed = committed }) in
    let full : Answer (Tag × Bool) = refused (Full Offsets (offsets_length s) (frame_of (offset_body entry))) s in
    if-unfenced (fits_offset entry s) (answered (tag, committed) (with_offset entry s)) full
    (done-unfenced (tag, committed) (with_offset entry s)) (full-unfenced Offsets (offsets_length s) (frame_of (offset_body entry)) s)
marks-unfenced Status tag committed s = done-unfenced (tag, committed) s
marks-unfenced Txn tag committed s = done-unfenced (tag, committed) s
marks-unfenced Batches tag committed s =
    let entry : DataEntry = DataMark tag committed in
    let full : Answer (Tag × Bool) = refused (Full Batches (data_length s) (frame_of (data_body entry))) s in
    if-unfenced (fits_data entry s) (answered (tag, committed) (with_data entry s)) full
    (done-unfenced (tag, committed) (with_data entry s)) (full-unfenced Batches (data_length s) (frame_of (data_body entry)) s)

mark-unfenced : (log : LogName) (s : Cluster) → IsUnfenced (mark log s)
mark-unfenced log s =
    let tag : Tag = unwrap_or (unmarked_in log s) no_tag in
    closed-unfenced s.closed (marks log tag (is_committed tag s.entries) s) s (marks-unfenced log tag (is_committed tag s.entries) s)

-- ---- what a proposal finds

found-needs : (o : Option ℕ) (found : Option (List ℕ)) (p : Proposing) →
    option_map_or (λ leader. option_map (λ name. record { leader = leader; connector = name }) found) o None ≡ Some p →
    (o ≡ Some p.leader) × (found ≡ Some p.connector)
found-needs None found p is = absurd (cc)
found-needs (Some leader) None p is = absurd (cc)
found-needs (Some leader) (Some name) p is =
    let same : record { leader = leader; connector = name } ≡ p = cc in
    (ap (λ (q : Proposing). Some q.leader) same, ap (λ (q : Proposing). Some q.connector) same)

passes : {X : Type 0} (test : X → Bool) (xs : List X) (x : X) → find test xs ≡ Some x → test x ≡ true
passes test [] x found = absurd (cc)
passes test (y ∷ ys) x found = at (test y) refl found (passes test ys x) where
  at : (b : Bool) → test y ≡ b → cond b (Some y) (find test ys) ≡ Some x → (find test ys ≡ Some x → test x ≡ true) → test x ≡ true
  at true does is later = let same : y ≡ x = cc in subst (λ z. test z ≡ true) same does
  at false fails is later = later is

-- ---- the operation of each turn

abbrev rule_of : Answer Tick → Rule
rule_of does = Some (λ (_ : Unit {0}). does)

module _ (w : ℕ) (s : Cluster) where
  pub lead-asked : w < length s.rows → IsTurn turn.Lead w s → IsAsked w op.Lead w s
  unfolding op_event MayOp tick_of
  lead-asked there is = record {
    there = there;
    may = tt;
    rule = is.follows ∙ ap rule_of (
        kept-at (claim_lead w s).0 (claim_lead w s).1 (λ epoch _. outcome.Lead epoch.0) (claim-unfenced w s) ∙
        ap unless_lost (retold (claim_lead w s) done.Lead (tick_of op.Lead)));
  }

  pub mark-asked : (log : LogName) → w < length s.rows → IsTurn (turn.Mark log) w s → IsAsked w op.Mark w s
  unfolding op_event MayOp tick_of
  mark-asked log there is =
      let same : operation.log_to_mark w s ≡ log = ap (λ (o : Option LogName). unwrap_or o Batches) is.may in
      record {
        there = there;
        may = ap is_some is.may;
        rule = is.follows ∙ ap rule_of (
            kept-at (mark log s).0 (mark log s).1 (λ did _. outcome.Mark log did.0 did.1) (mark-unfenced log s) ∙
            ap unless_lost (retold (mark log s) (λ did. done.Marked log did.0 did.1) (tick_of op.Mark)) ∙
            ap (λ (l : LogName). unless_lost (tells (done_as (mark l s) (λ did. done.Marked l did.0 did.1)) (λ did _. tick_of op.Mark did))) (sym same));
      }

  module _ (name : List ℕ) where
    fenced-as : (b : Bool) →
        unless_lost (if b then tells (fence_one w name s) (λ did _. outcome.Fence (record { connector = name; index = did.0 }) did.1.0)
        else tells (append_fence w name s) (λ offset _. outcome.FenceRecord name offset)) ≡
        unless_lost (tells (if b then done_as (fence_one w name s) (λ did. done.Fenced did.0 did.1) else done_as (append_fence w name s) done.Recorded)
        (λ did _. tick_of (op.Fence name) did))
    unfolding tick_of
    fenced-as true = ap unless_lost (retold (fence_one w name s) (λ did. done.Fenced did.0 did.1) (tick_of (op.Fence name)))
    fenced-as false = ap unless_lost (retold (append_fence w name s) done.Recorded (tick_of (op.Fence name)))

    pub fence-asked : (producer : Bool) → IsTurn (turn.Fence name producer) w s → IsAsked w (op.Fence name) w s
    unfolding op_event MayOp tick_of
    fence-asked producer is =
        let parts = fence-parts w name s is.may in
        record {
          there = lead-there w s parts.0;
          may = record { leads = parts.0; pending = parts.1 };
          rule = is.follows ∙ ap rule_of (fenced-as (nat_lt (fencing_of w name s).next (fencing_of w name s).count));
        }

    module _ (leader : ℕ) where
      proposed-as : (b : Bool) (tasks commit : KeyedValues) (count : ℕ) →
          unless_lost (if b then tells (append_config leader commit s) (λ offset _. outcome.Commit name offset)
          else tells (append_config leader tasks s) (λ _ _. outcome.Propose name count)) ≡
          unless_lost (tells (done_as (append_config leader (if b then commit else tasks) s) (λ offset. if b then done.Committed offset else done.Proposed count))
          (λ did _. tick_of (op.Propose name) did))
      unfolding tick_of
      proposed-as true tasks commit count = ap unless_lost (retold (append_config leader commit s) done.Committed (tick_of (op.Propose name)))
      proposed-as false tasks commit count = ap unless_lost (retold (append_config leader tasks s) (λ _. done.Proposed count) (tick_of (op.Propose name)))

      abbrev proposed_over : List ConfigRecord → Answer Tick
      proposed_over l = unless_lost (
          if are_deferred l name
          then tells (append_config leader (commit_values name (length (proposal_of name l))) s) (λ offset _. outcome.Commit name offset)
          else tells (append_config leader (task_records name (proposal_of name l)) s) (λ _ _. outcome.Propose name (length (proposal_of name l))))

      pub propose-asked : (setting : Setting) (commits : Bool) → AreFacts setting s → IsTurn (turn.Propose leader name commits) w s →
          IsAsked leader (op.Propose name) w s
      unfolding op_event MayOp tick_of
      propose-asked setting commits f is =
          let all : seen w s ≡ s.configs = read-all w s (sound_at s f.rows w) is.may.read in
          let found = found-needs (ready w s) (find (needs_tasks (seen w s)) (filter_map connector_in (held w s))) (record { leader = leader; connector = name }) is.may.first in
          let leads : IsSome (row_of leader s).lead = ready-leads w leader s found.0 in
          let needs : needs_tasks (seen w s) name ≡ true = passes (needs_tasks (seen w s)) (filter_map connector_in (held w s)) name found.1 in
          record {
            there = lead-there leader s leads;
            may = record { leads = leads; needs = subst (λ (l : List ConfigRecord). needs_tasks l name ≡ true) all needs };
            rule = is.follows ∙ ap rule_of (ap proposed_over all ∙
                proposed-as (are_deferred s.configs name) (task_records name (proposal_of name s.configs))
                (commit_values name (length (proposal_of name s.configs))) (length (proposal_of name s.configs)));
          }
