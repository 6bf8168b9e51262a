-- What properties without a fault have.
use Rattle.std.proofs.Common.{◌≡◌, ℕ, List, [], ◌∷◌, Bool, true, false, not, cond, Option, Some, None, option_map, IsOk, codes, option_and_then, refl, sym, ap, ◌∙◌}
use Rattle.std.specs.List.{list_any, AllByRecursion}
use Rattle.std.specs.Option.{is_none}
use Rattle.std.specs.Result.{is_ok}
use Rattle.std.proofs.lemmas.Bool.{both_ways, or_parts, not-false}
use Rattle.cw_json.specs.Pairs.{value_in}
use Rattle.cw_plugin.specs.declared.class.Class.{Class}
use Rattle.cw_plugin.specs.declared.class.Field.{Field}
use Rattle.cw_plugin.specs.declared.fault.PluginFault.{PluginFault}
use Rattle.cw_plugin.specs.declared.fault.PluginFault.TheVariants.{Missing, BadInt, NoFeed, BadName}
use Rattle.cw_plugin.specs.Classes.{ClassRow, row_of, class_of, key_of}
use Rattle.cw_plugin.specs.Checks.{is_name, first_failing, is_lacking, missing_key, is_bad_number, is_value_bad, bad_key, bad_number, or_text, value_feed_lacking, feed_lacking, is_bad_name, or_fault, fault_of_class, unless_faulty, class_unless, class_called}
use Rattle.cw_plugin.specs.Numbers.{batch_size, tasks_max}
use Rattle.cw_plugin.specs.Tasks.{IsFaultless, class_in}

abbrev pub Props : Type 0
Props = List (List ℕ × List ℕ)

pub record Faultless (props : Props) (row : ClassRow) : Type 0 where
  pub none_missing : missing_key props row.fields ≡ None
  pub no_bad_number : bad_number props row ≡ None
  pub feeds_loaded : feed_lacking is_name props row.fields ≡ None
  pub names_good : bad_key is_bad_name props row.fields ≡ None

four : (a b c d : Option (List ℕ)) → or_fault (option_map Missing a) (or_fault (option_map BadInt b) (or_fault (option_map NoFeed c) (option_map BadName d))) ≡ None → (a ≡ None) × (b ≡ None) × (c ≡ None) × (d ≡ None)
four (Some x) b c d e = cc
four None (Some x) c d e = cc
four None None (Some x) d e = cc
four None None None (Some x) e = cc
four None None None None e = (refl, refl, refl, refl)

faultless_row : (props : Props) (row : ClassRow) → fault_of_class is_name props row ≡ None → Faultless props row
faultless_row props row e =
    let parts = four (missing_key props row.fields) (bad_number props row) (feed_lacking is_name props row.fields) (bad_key is_bad_name props row.fields) e in
    record { none_missing = parts.0; no_bad_number = parts.1; feeds_loaded = parts.2; names_good = parts.3 }

no_fault : (class : Class) (fault : Option PluginFault) → IsOk (unless_faulty class fault) → fault ≡ None
no_fault class None e = refl
no_fault class (Some fault) e = cc

of_class : (props : Props) (found : Option Class) → IsOk (class_unless is_name props found) → (class : Class) × (found ≡ Some class) × Faultless props (row_of class)
of_class props None e = cc
of_class props (Some class) e = (class, refl, faultless_row props (row_of class) (no_fault class (fault_of_class is_name props (row_of class)) e))

of_text : (props : Props) (text : Option (List ℕ)) → IsOk (class_called is_name props text)
    → (class : Class) × (found : List ℕ) × (text ≡ Some found) × (class_of found ≡ Some class) × Faultless props (row_of class)
of_text props None e = cc
of_text props (Some found) e = let it = of_class props (class_of found) e in (it.0, found, refl, it.1, it.2)

-- properties without a fault have a class, whose row they meet
pub faultless : (props : Props) → IsFaultless props → (class : Class) × (class_in props ≡ Some class) × Faultless props (row_of class)
unfolding IsFaultless
faultless props e =
    let it = of_text props (value_in props (codes "connector.class")) e in
    (it.0, ap (λ t. option_and_then class_of t) it.2 ∙ it.3, it.4)

there : (field : Field) (value : Option (List ℕ)) (b : Bool) → is_lacking field value ≡ b → b ≡ false → (text : List ℕ) × (value ≡ Some text)
there field None b e no_lack = absurd (both_ways b no_lack (sym e))
there field (Some text) b e no_lack = (text, refl)

step_missing : (b : Bool) (key : List ℕ) (rest : Option (List ℕ)) → cond b (Some key) rest ≡ None → (b ≡ false) × (rest ≡ None)
step_missing true key rest e = cc
step_missing false key rest e = (refl, e)

pub next_there : (props : Props) (field : Field) (more : List Field) → missing_key props (field ∷ more) ≡ None → ((text : List ℕ) × (value_in props (key_of field) ≡ Some text)) × (missing_key props more ≡ None)
next_there props field more e =
    let it = step_missing (is_lacking field (value_in props (key_of field))) (key_of field) (missing_key props more) e in
    (there field (value_in props (key_of field)) _ refl it.0, it.1)

pub next_good : (test : Field → List ℕ → Bool) (props : Props) (field : Field) (more : List Field) (text : List ℕ) → value_in props (key_of field) ≡ Some text → bad_key test props (field ∷ more) ≡ None
    → (test field text ≡ false) × (bad_key test props more ≡ None)
next_good test props field more text is e =
    let it = step_missing (is_value_bad (test field) (value_in props (key_of field))) (key_of field) (bad_key test props more) e in
    (sym (ap (is_value_bad (test field)) is) ∙ it.0, it.1)

step_loaded : (a b : Option (List ℕ)) → or_text a b ≡ None → (a ≡ None) × (b ≡ None)
step_loaded (Some x) b e = cc
step_loaded None b e = (refl, e)

pub next_loaded : (props : Props) (field : Field) (more : List Field) (text : List ℕ) → value_in props (key_of field) ≡ Some text → feed_lacking is_name props (field ∷ more) ≡ None
    → (value_feed_lacking is_name field (Some text) ≡ None) × (feed_lacking is_name props more ≡ None)
next_loaded props field more text is e =
    let it = step_loaded (value_feed_lacking is_name field (value_in props (key_of field))) (feed_lacking is_name props more) e in
    (sym (ap (value_feed_lacking is_name field) is) ∙ it.0, it.1)

pub loaded_one : (test : List ℕ → Bool) (text : List ℕ) (b : Bool) → test text ≡ b → cond b None (Some text) ≡ None → test text ≡ true
loaded_one test text true is e = is
loaded_one test text false is e = cc

pub loaded_all : (test : List ℕ → Bool) (es : List (List ℕ)) → first_failing test es ≡ None → AllByRecursion (λ e. test e ≡ true) es
loaded_all test [] e = tt
loaded_all test (x ∷ es) e = more (test x) refl e (loaded_all test es) where
  more : (b : Bool) → test x ≡ b → cond b (first_failing test es) (Some x) ≡ None → (first_failing test es ≡ None → AllByRecursion (λ y. test y ≡ true) es) → AllByRecursion (λ y. test y ≡ true) (x ∷ es)
  more true is rest others = (is, others rest)
  more false is rest others = cc

pub all_named : (es : List (List ℕ)) → list_any (λ e. not (is_name e)) es ≡ false → AllByRecursion (λ e. is_name e ≡ true) es
all_named [] e = tt
all_named (x ∷ es) e =
    let both = or_parts (not (is_name x)) (list_any (λ y. not (is_name y)) es) e in
    (not-false (is_name x) both.0, all_named es both.1)

pub some_of : (value : Option ℕ) → is_none value ≡ false → (n : ℕ) × (value ≡ Some n)
some_of None e = cc
some_of (Some n) e = (n, refl)

-- a source has a batch size, and its required numbers are good
pub source_numbers : (props : Props) (row : ClassRow) → row.is_source ≡ true → bad_number props row ≡ None
    → ((n : ℕ) × (batch_size props ≡ Some n)) × (bad_key is_bad_number props row.fields ≡ None)
source_numbers props row source e =
    let most = step_missing (is_none (tasks_max props)) (codes "tasks.max") _ e in
    let rest : cond (is_none (batch_size props)) (Some (codes "batch.size")) (bad_key is_bad_number props row.fields) ≡ None
    = sym (ap (λ b. cond (not b) (bad_key is_bad_number props row.fields) (cond (is_none (batch_size props)) (Some (codes "batch.size")) (bad_key is_bad_number props row.fields))) source) ∙ most.1 in
    let size = step_missing (is_none (batch_size props)) (codes "batch.size") _ rest in
    (some_of (batch_size props) size.0, size.1)

-- properties of a class whose row finds no fault have none
pub faultless_from : (props : Props) (text : List ℕ) (class : Class) → value_in props (codes "connector.class") ≡ Some text → class_of text ≡ Some class → fault_of_class is_name props (row_of class) ≡ None → IsFaultless props
unfolding IsFaultless
faultless_from props text class called own none =
    ap (λ o. is_ok (class_called is_name props o)) called
    ∙ ap (λ o. is_ok (class_unless is_name props o)) own
    ∙ ap (λ o. is_ok (unless_faulty class o)) none
