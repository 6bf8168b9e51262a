-- What was seen on the board stands in the config log, and the entry of a call that was answered from it is true.
use Rattle.std.proofs.Common.{◌≡◌, ℕ, ◌<◌, ◌≤◌, Bool, true, false, List, [], ◌∷◌, ◌++◌, length, take, drop, slice_index, IsTrue, leb, Option, Some, refl, ap, sym, ◌∙◌, inl, subst, arith, append_assoc}
use Rattle.std.specs.List.{AllByRecursion}
use Rattle.std.proofs.lemmas.List.{take-append-drop, take-take, length-take, length-take-le}
use Rattle.std.proofs.lemmas.Bool.Decides.{nat_tests}
use Rattle.std.proofs.lemmas.List.Elements.{filter_map-append}
use mathlib.Core.List.{IsPrefix}
use Rattle.cw_board.specs.declared.posted.Posted.{Posted}
use Rattle.cw_board.specs.Records.{config_for, configs_of, IsFirstPart}
use Rattle.cw_board.specs.Sides.{Writing}
use Rattle.cw_board.proofs.Fronts.{shorter_part, prefix_part}
use Rattle.cw_config.specs.declared.records.ConfigRecord.{ConfigRecord}
use Rattle.cw_model.specs.declared.journal.JournalEntry.{JournalEntry}
use Rattle.cw_model.specs.Journal.{IsTrueEntry, GoesOnBehind, seen_by}
use Rattle.cw_model.specs.Lookups.{row_of}
use Rattle.cw_model.specs.State.{Setting, Cluster}
use Rattle.cw_rest.specs.Calls.{Deed, reads, reads_configs, writes_configs, writes_offsets, restarts, deed_of, is_of_board}
use Rattle.cw_rest.specs.Replies.{reply_to}
use Rattle.cw_rest.specs.Seen as rest
use Rattle.cw_route.specs.declared.call.Call.{Call}
use Rattle.cw_route.specs.declared.call.Call.TheVariants as call
use Rattle.cw_serve.specs.declared.seeing.Seen.{Seen}
use Rattle.cw_serve.specs.Boarding.{IsBoarded, IsReadFrom, IsStanding, configs_alone, entry_seen, known_of}

-- ---- what a reader saw

part-prefix : {A : Type 0} (xs ys : List A) → IsFirstPart xs ys → IsPrefix xs ys
part-prefix {A} xs ys part = (drop (length xs) ys, ap (λ (l : List A). l ++ drop (length xs) ys) (sym part) ∙ take-append-drop (length xs) ys)

pub parts-trans : {A : Type 0} (xs ys zs : List A) → IsFirstPart xs ys → IsFirstPart ys zs → IsFirstPart xs zs
parts-trans xs ys zs p q =
    let first = part-prefix xs ys p in
    let next = part-prefix ys zs q in
    let whole : xs ++ (first.0 ++ next.0) ≡ zs = sym (append_assoc xs first.0 next.0) ∙ (ap (λ l. l ++ next.0) first.1 ∙ next.1) in
    prefix_part xs zs (first.0 ++ next.0, whole)

configs-prefix : (w : ℕ) (xs ys : List Posted) → IsPrefix xs ys → IsPrefix (configs_of w xs) (configs_of w ys)
configs-prefix w xs ys p = (configs_of w p.0, sym (filter_map-append (config_for w) xs p.0) ∙ ap (configs_of w) p.1)

-- it stands, where its reader was told of all that was given
pub stands : {workers : ℕ} {board : Writing} {given : List ℕ} {lacks : Bool} {s : Cluster} → IsBoarded workers board given lacks s → (w : ℕ) → w < workers
    → lacks ≡ false → (known told : List Posted) → IsFirstPart known told → IsFirstPart board.published told
    → length (configs_of w known) ≤ slice_index given w → IsStanding (configs_of w known) w s
stands {board = board} {given = given} {s = s} was w low all known told saw knew le =
    let n = slice_index given w in
    let ks = configs_of w known in
    let shown : configs_of w board.published ≡ take n s.configs = ap (configs_of w) (was.shown all) ∙ was.first w low in
    let count : length (configs_of w board.published) ≡ n = ap (λ (l : List ConfigRecord). length l) shown ∙ length-take-le n s.configs (was.there w low) in
    let front : IsFirstPart ks (configs_of w board.published) = shorter_part ks (configs_of w board.published) (configs_of w told)
    (configs-prefix w known told (part-prefix known told saw)) (configs-prefix w board.published told (part-prefix board.published told knew)) (omega (arith, count, le)) in
    let read = was.read w low in
    record {
      first = sym (take-take (length ks) n s.configs le) ∙ (ap (λ (l : List ConfigRecord). take (length ks) l) (sym shown) ∙ front);
      read = omega (arith, le, read);
    }

pub passed : (m n : ℕ) → IsTrue (leb m n) → m ≤ n
passed m n test = grind (arith, nat_tests)

-- the same of a reader that was told of what is published
pub stands-told : {workers : ℕ} {board : Writing} {given : List ℕ} {lacks : Bool} {s : Cluster} → IsBoarded workers board given lacks s → (w : ℕ) → w < workers
    → lacks ≡ false → (reader : Option (List Posted)) (known told note : List Posted) → reader ≡ Some known → IsFirstPart known told → note ≡ board.published
    → IsFirstPart note told → (prefix shown : ℕ) → prefix ≡ length (known_of w reader) → shown ≡ slice_index given w → prefix ≤ shown
    → IsStanding (known_of w reader) w s
stands-told {given = given} {s = s} was w low all reader known told note is saw published knew prefix shown count at le =
    let long : prefix ≡ length (configs_of w known) = count ∙ ap (λ (o : Option (List Posted)). length (known_of w o)) is in
    let fits : length (configs_of w known) ≤ slice_index given w = omega (arith, long, at, le) in
    subst (λ (o : Option (List Posted)). IsStanding (known_of w o) w s) (sym is)
    (stands was w low all known told saw (subst (λ (l : List Posted). IsFirstPart l told) published knew) fits)

-- ---- its entry

-- a call of the board reads configs
pub of-board : (d : Deed) → is_of_board d ≡ true → d ≡ reads_configs
of-board reads is = absurd (let no : false ≡ true = is in cc)
of-board reads_configs is = refl
of-board writes_configs is = absurd (let no : false ≡ true = is in cc)
of-board writes_offsets is = absurd (let no : false ≡ true = is in cc)
of-board restarts is = absurd (let no : false ≡ true = is in cc)

-- a call that reads configs is answered by configs alone
pub replies-alone : (c : Call) → deed_of c ≡ reads_configs → (seen : rest.Seen) → reply_to false seen c ≡ reply_to false (configs_alone seen.configs) c
replies-alone (call.Refused fault) deed seen = absurd (let no : reads ≡ reads_configs = deed in cc)
replies-alone call.Connectors deed seen = refl
replies-alone (call.Create body) deed seen = absurd (let no : writes_configs ≡ reads_configs = deed in cc)
replies-alone (call.Info name) deed seen = refl
replies-alone (call.Delete name) deed seen = absurd (let no : writes_configs ≡ reads_configs = deed in cc)
replies-alone (call.Config name) deed seen = refl
replies-alone (call.PutConfig name body) deed seen = absurd (let no : writes_configs ≡ reads_configs = deed in cc)
replies-alone (call.Status name) deed seen = absurd (let no : reads ≡ reads_configs = deed in cc)
replies-alone (call.Tasks name) deed seen = refl
replies-alone (call.TaskStatus id) deed seen = absurd (let no : reads ≡ reads_configs = deed in cc)
replies-alone (call.Pause name) deed seen = absurd (let no : writes_configs ≡ reads_configs = deed in cc)
replies-alone (call.Resume name) deed seen = absurd (let no : writes_configs ≡ reads_configs = deed in cc)
replies-alone (call.Stop name) deed seen = absurd (let no : writes_configs ≡ reads_configs = deed in cc)
replies-alone (call.Restart name) deed seen = absurd (let no : restarts ≡ reads_configs = deed in cc)
replies-alone (call.RestartTask id) deed seen = absurd (let no : restarts ≡ reads_configs = deed in cc)
replies-alone (call.Offsets name) deed seen = absurd (let no : reads ≡ reads_configs = deed in cc)
replies-alone (call.Alter name body) deed seen = absurd (let no : writes_offsets ≡ reads_configs = deed in cc)
replies-alone (call.Reset name) deed seen = absurd (let no : writes_offsets ≡ reads_configs = deed in cc)
replies-alone call.Plugins deed seen = absurd (let no : reads ≡ reads_configs = deed in cc)

apart : (b : Bool) → b ≡ true → b ≡ false → ⊥
apart b one other = let e : true ≡ false = sym one ∙ other in cc

-- nothing binds it to earlier ones
free-behind : (e earlier : JournalEntry) → e.board ≡ true → GoesOnBehind e earlier
free-behind e earlier board = record {
  prefix = λ was reads. absurd (apart e.board board reads.locked);
  statuses = λ was reads. absurd (apart e.board board reads.locked);
  entries = λ was reads. absurd (apart e.board board reads.locked);
  configs = λ was locked. absurd (apart e.board board locked);
  offsets = λ was locked. absurd (apart e.board board locked);
}

free-of-all : (e : JournalEntry) → e.board ≡ true → (before : List JournalEntry) → AllByRecursion (λ b. b.worker ≡ e.worker → GoesOnBehind e b) before
free-of-all e board [] = tt
free-of-all e board (b ∷ before) = (λ _. free-behind e b board, free-of-all e board before)

no-configs : (deed : Deed) → deed ≡ reads_configs → deed ≡ writes_configs → ⊥
no-configs deed one other = let e : reads_configs ≡ writes_configs = sym one ∙ other in cc

no-offsets : (deed : Deed) → deed ≡ reads_configs → deed ≡ writes_offsets → ⊥
no-offsets deed one other = let e : reads_configs ≡ writes_offsets = sym one ∙ other in cc

pub seen-true : (setting : Setting) (s : Cluster) (w : ℕ) (c : Call) (seen : Seen) (configs : List ConfigRecord) → IsReadFrom configs c seen → IsStanding configs w s
    → IsTrueEntry setting s s.journal (entry_seen w c seen)
seen-true setting s w c seen configs from standing =
    let e : JournalEntry = entry_seen w c seen in
    let first : take seen.prefix s.configs ≡ configs = ap (λ (n : ℕ). take n s.configs) from.prefix ∙ standing.first in
    let long : length (take (length configs) s.configs) ≡ length configs = ap (λ (l : List ConfigRecord). length l) standing.first in
    record {
      reply = inl (record {
        ready = false;
        is = from.reply ∙ (ap (λ (l : List ConfigRecord). reply_to false (configs_alone l) c) (sym first) ∙ sym (replies-alone c from.deed (seen_by setting s e)));
      });
      prefix = subst (λ (n : ℕ). n ≤ length s.configs) (sym from.prefix) (let part = length-take (length configs) s.configs in omega (arith, long, part));
      statuses = omega arith;
      entries = omega arith;
      reader = λ _. subst (λ (n : ℕ). n ≤ (row_of w s).prefix) (sym from.prefix) standing.read;
      board = λ _. record { deed = from.deed; statuses = refl; entries = refl };
      values = λ wrote. absurd (no-configs (deed_of c) from.deed wrote.deed);
      offsets = λ wrote. absurd (no-offsets (deed_of c) from.deed wrote.deed);
      reread = λ wrote. absurd (no-configs (deed_of c) from.deed wrote.deed);
      relisted = λ wrote. absurd (no-offsets (deed_of c) from.deed wrote.deed);
      behind = free-of-all e refl s.journal;
    }
