-- Properties as an object's members, and back.
use Rattle.std.proofs.Common.{◌≡◌, ℕ, suc, ◌<◌, ◌≤◌, List, [], ◌∷◌, ◌++◌, ◌+◌, length, drop, get_or, add-one, drop-cons, Option, Some, None, Result, Ok, Err, false, refl, sym, ap, ◌∙◌, append_assoc, append-nil, arith, String, Global, string_bytes, string_cmp, subst}
use Rattle.std.specs.declared.cmp.Ordering.TheVariants.{Less, Greater}
use Rattle.std.specs.Ordering.{nat_cmp, ordering_reverse}
use Rattle.std.specs.Cmp.Lexicographic.{slice_cmp}
use Rattle.std.specs.List.{AllByRecursion}
use Rattle.std.specs.List.Sorted.{IsStrictlySortedBy}
use Rattle.std.specs.Map.{keys_of}
use Rattle.std.proofs.lemmas.Cmp.{nat_list_cmp_total}
use Rattle.std.proofs.lemmas.List.{drop_all}
use Rattle.serde_json.specs.Data.{Data, string, object, Members, no_members, member, put, depth, members_depth}
use Rattle.serde_json.specs.Written.{has_float, members_have_float}
use Rattle.serde_json.specs.View.{view, members_view}
use Rattle.serde_json.specs.declared.value.Value.{Value}
use Rattle.cw_json.specs.declared.fault.JsonFault.{JsonFault}
use Rattle.cw_json.specs.Props.{property, member_props, with_front, add_property}
use Rattle.cw_json.specs.Reading.{reading, props_of_reading, props_of_text}
use Rattle.cw_json.specs.Writing.{members_of_props, props_text}
use Rattle.cw_json.specs.Plain.{IsPlain, MembersArePlain, AreTexts, put_all}
use Rattle.cw_json.proofs.Written.{reading-compact_text}
use Rattle.cw_json.specs.Rising.{IsRising}

abbrev pub Pairs : Type 0
Pairs = List (List ℕ × List ℕ)

-- the members that stand after properties were put in, one after another
abbrev pub puts : Pairs → Members → Members
puts [] ms = ms
puts (p ∷ ps) ms = puts ps (put p.0 (string p.1) ms)

abbrev pub Entries : Type 0
Entries = List (String Global × Value)

abbrev AllBelow : Pairs → List ℕ → Type 0
AllBelow done key = AllByRecursion (λ (q : List ℕ × List ℕ). slice_cmp nat_cmp q.0 key ≡ Less) done

-- a property whose key is above those before it goes last
put_last : (done : Pairs) (key text : List ℕ) → AllBelow done key → put key (string text) (members_of_props done) ≡ members_of_props (done ++ (key, text) ∷ [])
put_last [] key text below = refl
put_last (p ∷ done) key text below =
    let above : slice_cmp nat_cmp key p.0 ≡ Greater = nat_list_cmp_total.antisymm key p.0 ∙ ap ordering_reverse below.0 in
    rw above (ap (member p.0 (string p.1)) (put_last done key text below.1))

middle : (P : List ℕ × List ℕ → Type 0) (done : Pairs) (p : List ℕ × List ℕ) (more : Pairs) → AllByRecursion P (done ++ p ∷ more) → P p
middle P [] p more all = all.0
middle P (q ∷ done) p more all = middle P done p more all.1

below_middle : (done : Pairs) (p : List ℕ × List ℕ) (more : Pairs) → IsRising (done ++ p ∷ more) → AllBelow done p.0
below_middle [] p more rising = tt
below_middle (q ∷ done) p more rising = (middle (λ r. slice_cmp nat_cmp q.0 r.0 ≡ Less) done p more rising.0, below_middle done p more rising.1)

pub puts_rising : (done more : Pairs) → IsRising (done ++ more) → puts more (members_of_props done) ≡ members_of_props (done ++ more)
puts_rising done [] rising = rw append-nil refl
puts_rising done (p ∷ more) rising =
    let whole : (done ++ p ∷ []) ++ more ≡ done ++ p ∷ more = append_assoc done (p ∷ []) more in
    ap (puts more) (put_last done p.0 p.1 (below_middle done p more rising))
    ∙ puts_rising (done ++ p ∷ []) more (subst IsRising (sym whole) rising)
    ∙ ap members_of_props whole

-- a property that was added, and those behind it
added_to : (key : List ℕ) (d : Option (List ℕ)) (rest : Result Pairs JsonFault) (ps : Pairs) → add_property key d rest ≡ Ok ps → (v : List ℕ) × (more : Pairs) × (rest ≡ Ok more) × (ps ≡ (key, v) ∷ more)
added_to key None rest ps e = cc
added_to key (Some v) (Ok more) ps e = (v, more, refl, cc)
added_to key (Some v) (Err fault) ps e = cc

below_all : (key : String Global) (es : Entries) (ps : Pairs) → AllByRecursion (λ y. string_cmp key y ≡ Less) (keys_of es) → member_props (members_view es) ≡ Ok ps
    → AllByRecursion (λ (q : List ℕ × List ℕ). slice_cmp nat_cmp (string_bytes key) q.0 ≡ Less) ps
below_all key [] ps all e = let none : [] ≡ ps = cc in subst (λ (qs : Pairs). AllByRecursion (λ (q : List ℕ × List ℕ). slice_cmp nat_cmp (string_bytes key) q.0 ≡ Less) qs) none tt
below_all key (f ∷ es) ps all e =
    let parts = added_to (string_bytes f.0) (property (view f.1)) (member_props (members_view es)) ps e in
    subst (λ (qs : Pairs). AllByRecursion (λ (q : List ℕ × List ℕ). slice_cmp nat_cmp (string_bytes key) q.0 ≡ Less) qs) (sym parts.3) (all.0, below_all key es parts.1 all.1 parts.2)

-- the properties of a map's members rise
pub rising : (es : Entries) (ps : Pairs) → IsStrictlySortedBy string_cmp (keys_of es) → member_props (members_view es) ≡ Ok ps → IsRising ps
unfolding IsStrictlySortedBy
rising [] ps sorted e = let none : [] ≡ ps = cc in subst IsRising none tt
rising (f ∷ es) ps sorted e =
    let parts = added_to (string_bytes f.0) (property (view f.1)) (member_props (members_view es)) ps e in
    subst IsRising (sym parts.3) (below_all f.0 es parts.1 sorted.0 parts.2, rising es parts.1 sorted.1 parts.2)

-- the properties of the members that properties make are these
pub props_again : (ps : Pairs) → member_props (members_of_props ps) ≡ Ok ps
props_again [] = refl
props_again (p ∷ ps) = ap (with_front (p ∷ [])) (props_again ps)

pub no_float : (ps : Pairs) → members_have_float (members_of_props ps) ≡ false
no_float [] = refl
no_float (p ∷ ps) = no_float ps

pub flat : (ps : Pairs) → members_depth (members_of_props ps) ≡ 0
flat [] = refl
flat (p ∷ ps) = rw (flat ps) refl

abbrev pub data_of : Pairs → Data
data_of ps = object (members_of_props ps)

pub no_float_at : (ps : Pairs) (d : Data) → d ≡ data_of ps → has_float d ≡ false
no_float_at ps d is = ap has_float is ∙ no_float ps

pub shallow_at : (ps : Pairs) (d : Data) → d ≡ data_of ps → depth d ≤ 127
shallow_at ps d is =
    let one : depth (data_of ps) ≡ 1 = ap suc (flat ps) in
    let deep : depth d ≡ 1 = ap depth is ∙ one in omega arith

pub reading_at : (ps : Pairs) (d : Data) (read : Option Data) → d ≡ data_of ps → read ≡ Some d → props_of_reading read ≡ Ok ps
reading_at ps d read is found = ap props_of_reading (found ∙ ap Some is) ∙ props_again ps

-- one more is put in
pub put_next : (ps : Pairs) (i : ℕ) (key text : List ℕ) (ms : Members) → i < length ps → (d : List ℕ × List ℕ) → get_or ps i d ≡ (key, text) → puts (drop (i + 1) ps) (put key (string text) ms) ≡ puts (drop i ps) ms
put_next ps i key text ms within d is = rw (add-one, drop-cons ps i d, is) refl

pub puts_done : (ps : Pairs) (i : ℕ) (ms : Members) → length ps ≤ i → IsRising ps → puts (drop i ps) ms ≡ puts ps no_members → ms ≡ members_of_props ps
puts_done ps i ms past rising e = sym (ap (λ (left : Pairs). puts left ms) (drop_all i ps past)) ∙ e ∙ puts_rising [] ps rising

put_all_props : (ps : Pairs) (found : Members) → put_all (members_of_props ps) found ≡ puts ps found
put_all_props [] found = refl
put_all_props (p ∷ ps) found = put_all_props ps (put p.0 (string p.1) found)

plain_members : (ps : Pairs) → AreTexts ps → MembersArePlain (members_of_props ps)
plain_members [] h = tt
plain_members (p ∷ ps) h = (h.0, h.1, plain_members ps h.2)

-- an object of properties whose texts are UTF-8 is plain
pub plain_props : (ps : Pairs) → IsRising ps → AreTexts ps → IsPlain (data_of ps)
plain_props ps rising texts = (plain_members ps texts, put_all_props ps no_members ∙ puts_rising [] ps rising)

-- properties whose texts are UTF-8 are read again
pub props_of_text-props_text : (ps : Pairs) → IsRising ps → AreTexts ps → props_of_text (props_text ps) ≡ Ok ps
props_of_text-props_text ps rising texts =
    reading_at ps (data_of ps) (reading (props_text ps)) refl (reading-compact_text (data_of ps) (plain_props ps rising texts) (shallow_at ps (data_of ps) refl))
