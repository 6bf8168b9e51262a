-- A status that is read can be written: its trace is UTF-8, and its numbers fit.
use Rattle.std.proofs.Common.{◌≡◌, ℕ, ◌-◌, ◌≤◌, ◌<◌, ◌^◌, ◌&&◌, Bool, true, false, cond, nat_eq, nat_le, codes, List, [], ◌∷◌, drop, Option, Some, None, refl, subst, ap, arith}
use Rattle.std.specs.Option.{option_and_then}
use Rattle.std.specs.List.{AllByRecursion, filter_map, cons_option, starts_with}
use Rattle.std.specs.Ordering.{nat_cmp, match_ordering}
use Rattle.std.specs.declared.cmp.Ordering.{Ordering}
use Rattle.std.specs.declared.cmp.Ordering.TheVariants.{Less, Equal, Greater}
use Rattle.std.specs.Cmp.Lexicographic.{slice_cmp}
use Rattle.std.proofs.lemmas.Bool.Decides.{nat_tests}
use Rattle.std.proofs.lemmas.Option.{option_and_then_some}
use Rattle.serde_json.specs.Data.{Num, unsigned, negative, float, Data, Members}
use Rattle.serde_json.specs.Data as found
use Rattle.serde_json.specs.Find.{get, get_member, as_number, as_u64}
use Rattle.cw_types.specs.declared.ids.Item.{Item}
use Rattle.cw_types.specs.Decimal.{is_numeral, read_on, number_of}
use Rattle.cw_bytes.specs.declared.applied.Applied.{Applied}
use Rattle.cw_json.specs.Reading.{reading}
use Rattle.cw_keys.specs.Counts.{u64_at}
use Rattle.cw_keys.specs.Statuses.{state_named, worker_named, trace_in, text_at, status_with, status_value, with_item, status_item, status_of, IsTrace, IsStatus}
use Rattle.cw_keys.specs.declared.state.State.{State}
use Rattle.cw_keys.specs.declared.status.StatusValue.{StatusValue}
use Rattle.cw_status.specs.declared.record.StatusRecord.{StatusRecord}
use Rattle.cw_status.specs.Compaction.{record_with, record_in}
use Rattle.cw_model.specs.State.{StampedStatus}
use Rattle.cw_model.specs.Bodies.{status_in}
use Rattle.cw_laws.proofs.CompactStatuses.{stamped-reads}
use Rattle.cw_laws.proofs.ReadValues.{IsTextData, MembersAreTexts, reading-text}

-- ---- what stands at a key

member-at : (k : List ℕ) (ms : Members) (e : Data) → MembersAreTexts ms → get_member k ms ≡ Some e → IsTextData e
member-at k found.no_members e each is = absurd (cc)
member-at k (found.member l d ms) e each is = by (slice_cmp nat_cmp k l) is (member-at k ms e each.2)
  where
    by : (o : Ordering) → match_ordering o (get_member k ms) (Some d) (get_member k ms) ≡ Some e → (get_member k ms ≡ Some e → IsTextData e) → IsTextData e
    by Less is rest = rest is
    by Equal is rest = let same : d ≡ e = cc in subst IsTextData same each.1
    by Greater is rest = rest is

pub at-key : (k : List ℕ) (d e : Data) → IsTextData d → get k d ≡ Some e → IsTextData e
at-key k found.null e text is = absurd (cc)
at-key k (found.boolean b) e text is = absurd (cc)
at-key k (found.number n) e text is = absurd (cc)
at-key k (found.string s) e text is = absurd (cc)
at-key k (found.array ds) e text is = absurd (cc)
at-key k (found.object ms) e text is = member-at k ms e text is

trace-text : (d : Data) (trace : Option (List ℕ)) → IsTextData d → trace_in d ≡ Some trace → IsTrace trace
trace-text found.null trace text is = let none : None ≡ trace = cc in subst IsTrace none tt
trace-text (found.string s) trace text is = let some : Some s ≡ trace = cc in subst IsTrace some text
trace-text (found.boolean b) trace text is = absurd (cc)
trace-text (found.number n) trace text is = absurd (cc)
trace-text (found.array ds) trace text is = absurd (cc)
trace-text (found.object ms) trace text is = absurd (cc)

decimal-below : (most : ℕ) (text : List ℕ) (n : ℕ) → number_of most text ≡ Some n → n ≤ most
decimal-below most text n e = by (is_numeral text) (nat_le (read_on 0 text) most) refl e
  where
    by : (a b : Bool) → nat_le (read_on 0 text) most ≡ b → cond (a && b) (Some (read_on 0 text)) None ≡ Some n → n ≤ most
    by true true below e = let same : read_on 0 text ≡ n = cc in let least : read_on 0 text ≤ most = grind (arith, nat_tests) in omega (arith, same, least)
    by true false below e = absurd (cc)
    by false b below e = absurd (cc)

worker-below : (id : List ℕ) (n : ℕ) → worker_named id ≡ Some n → n < 2 ^ 32
worker-below id n e = by (starts_with nat_eq id (codes "worker-")) e
  where
    by : (b : Bool) → cond b (number_of (2 ^ 32 - 1) (drop 7 id)) None ≡ Some n → n < 2 ^ 32
    by true e = omega (arith, decimal-below (2 ^ 32 - 1) (drop 7 id) n e)
    by false e = absurd (cc)

number-below : (num : Num) (n : ℕ) → IsTextData (found.number num) → as_u64 num ≡ Some n → n < 2 ^ 64
number-below (unsigned m) n text e = let same : m ≡ n = cc in omega (arith, same, text)
number-below (negative z) n text e = absurd (cc)
number-below (float x) n text e = absurd (cc)

as-number : (d : Data) (num : Num) → IsTextData d → as_number d ≡ Some num → IsTextData (found.number num)
as-number (found.number m) num text e = let same : m ≡ num = cc in subst (λ (n : Num). IsTextData (found.number n)) same text
as-number found.null num text e = absurd (cc)
as-number (found.boolean b) num text e = absurd (cc)
as-number (found.string s) num text e = absurd (cc)
as-number (found.array ds) num text e = absurd (cc)
as-number (found.object ms) num text e = absurd (cc)

-- ---- a status

record IsMade (trace : Option (Option (List ℕ))) (worker round : Option ℕ) (v : StatusValue) : Type 0 where
  trace_is : trace ≡ Some v.trace
  worker_is : worker ≡ Some v.worker
  round_is : round ≡ Some v.round

made : (state : Option State) (trace : Option (Option (List ℕ))) (worker round : Option ℕ) (v : StatusValue) → status_with state trace worker round ≡ Some v → IsMade trace worker round v
made (Some state) (Some trace) (Some worker) (Some round) v e =
    let same : record { state = state; trace = trace; worker = worker; round = round } ≡ v = cc in
    record { trace_is = ap (λ (u : StatusValue). Some u.trace) same; worker_is = ap (λ (u : StatusValue). Some u.worker) same; round_is = ap (λ (u : StatusValue). Some u.round) same }
made state trace worker round v e = absurd (cc)

value-written : (d : Data) (v : StatusValue) → IsTextData d → status_value d ≡ Some v → IsStatus v
value-written d v text e =
    let parts : IsMade (option_and_then trace_in (get (codes "trace") d)) (option_and_then worker_named (text_at (codes "worker_id") d)) (u64_at (codes "generation") d) v =
    made (option_and_then state_named (text_at (codes "state") d)) (option_and_then trace_in (get (codes "trace") d)) (option_and_then worker_named (text_at (codes "worker_id") d))
    (u64_at (codes "generation") d) v e in (
      option_and_then_some trace_in (get (codes "trace") d) v.trace parts.trace_is (λ x there is. trace-text x v.trace (at-key (codes "trace") d x text there) is),
      option_and_then_some worker_named (text_at (codes "worker_id") d) v.worker parts.worker_is (λ id there is. worker-below id v.worker is),
      option_and_then_some as_u64 (option_and_then as_number (get (codes "generation") d)) v.round parts.round_is (λ num there is.
          number-below num v.round
          (option_and_then_some as_number (get (codes "generation") d) num there (λ x at is_number. as-number x num (at-key (codes "generation") d x text at) is_number)) is),
    )

item-written : (a : Applied) (item : Option Item) (value : Option StatusValue) (r : StatusRecord) → ((v : StatusValue) → value ≡ Some v → IsStatus v) → record_with a (with_item item value) ≡ Some r → IsStatus r.value
item-written a None value r each e = absurd (cc)
item-written a (Some item) None r each e = absurd (cc)
item-written a (Some item) (Some v) r each e = let same : v ≡ r.value = cc in subst IsStatus same (each v refl)

record-written : (a : Applied) (r : StatusRecord) → record_in a ≡ Some r → IsStatus r.value
record-written a r e =
    option_and_then_some (λ text. record_with a (status_of a.key text)) a.value r e (λ text there is.
    item-written a (status_item a.key) (option_and_then status_value (reading text)) r (λ v told.
    option_and_then_some status_value (reading text) v told (λ d read valued. value-written d v (reading-text text d read) valued)) is)

-- each status that is read can be written
pub statuses-written : (xs : List Applied) → AllByRecursion (λ (r : StampedStatus). IsStatus r.status.value) (filter_map status_in xs)
statuses-written [] = tt
statuses-written (a ∷ xs) = by (status_in a) refl (statuses-written xs)
  where
    by : (o : Option StampedStatus) → status_in a ≡ o → AllByRecursion (λ (r : StampedStatus). IsStatus r.status.value) (filter_map status_in xs) →
        AllByRecursion (λ (r : StampedStatus). IsStatus r.status.value) (cons_option o (filter_map status_in xs))
    by None is rest = rest
    by (Some r) is rest = (record-written a r.status (stamped-reads a (record_in a) r is), rest)
