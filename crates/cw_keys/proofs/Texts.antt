-- Members that are all texts.
use Rattle.std.proofs.Common.{◌≡◌, ℕ, List, [], ◌∷◌, ◌++◌, Option, Some, None, Result, Ok, refl, sym, ap, ◌∙◌, append_assoc, append-nil}
use Rattle.serde_json.specs.Data.{Data, null, boolean, number, string, array, object, Members, no_members, member}
use Rattle.serde_json.specs.Find.{as_str}
use Rattle.cw_json.specs.declared.fault.JsonFault.{JsonFault}
use Rattle.cw_json.specs.Props.{member_props, property, add_property}
use Rattle.cw_json.specs.Writing.{members_of_props}
use Rattle.cw_json.proofs.Pairs.{Pairs}
use Rattle.cw_keys.specs.Properties.{add_text, member_texts}

-- pairs in front of what the others give
abbrev pub texts_before : Pairs → Option Pairs → Option Pairs
texts_before front None = None
texts_before front (Some pairs) = Some (front ++ pairs)

none_before : (front : Pairs) → texts_before front None ≡ None
none_before front = refl

before-more : (front : Pairs) (key text : List ℕ) (rest : Option Pairs) → texts_before (front ++ (key, text) ∷ []) rest ≡ texts_before front (add_text key (Some text) rest)
before-more front key text None = refl
before-more front key text (Some more) = ap Some (append_assoc front ((key, text) ∷ []) more)

-- one more text stands behind the pairs so far
pub added : (front after : Pairs) (key text : List ℕ) (d : Option (List ℕ)) (rest : Option Pairs) → after ≡ front ++ (key, text) ∷ [] → Some text ≡ d
    → texts_before after rest ≡ texts_before front (add_text key d rest)
added front after key text d rest is found = ap (λ ps. texts_before ps rest) is ∙ before-more front key text rest ∙ ap (λ o. texts_before front (add_text key o rest)) found

-- a member that is no text leaves no pairs
pub refused : (front : Pairs) (key : List ℕ) (d : Option (List ℕ)) (rest : Option Pairs) → None ≡ d → None ≡ texts_before front (add_text key d rest)
refused front key d rest none = ap (λ o. texts_before front (add_text key o rest)) none

pub all_texts : (pairs : Pairs) → Some pairs ≡ texts_before pairs (Some [])
all_texts pairs = ap Some (sym (append-nil pairs))

as_property : (d : Data) (text : List ℕ) → as_str d ≡ Some text → property d ≡ Some text
as_property null text e = cc
as_property (boolean b) text e = cc
as_property (number n) text e = cc
as_property (string s) text e = e
as_property (array ds) text e = cc
as_property (object ms) text e = cc

as_props_step : (key : List ℕ) (d : Data) (o : Option (List ℕ)) (rest : Option Pairs) (props : Result Pairs JsonFault) (ps : Pairs) → as_str d ≡ o
    → ((more : Pairs) → rest ≡ Some more → props ≡ Ok more) → add_text key o rest ≡ Some ps → add_property key (property d) props ≡ Ok ps
as_props_step key d None rest props ps is later e = cc
as_props_step key d (Some text) None props ps is later e = cc
as_props_step key d (Some text) (Some more) props ps is later e =
    let same : (key, text) ∷ more ≡ ps = cc in
    rw (as_property d text is, later more refl) (ap Ok same)

-- texts are properties
pub as_props : (ms : Members) (ps : Pairs) → member_texts ms ≡ Some ps → member_props ms ≡ Ok ps
as_props no_members ps e = let same : [] ≡ ps = cc in ap Ok same
as_props (member key d ms) ps e = as_props_step key d (as_str d) (member_texts ms) (member_props ms) ps refl (λ more is. as_props ms more is) e

-- what is written for properties is read again
pub texts_again : (ps : Pairs) → member_texts (members_of_props ps) ≡ Some ps
texts_again [] = refl
texts_again (p ∷ ps) = ap (add_text p.0 (Some p.1)) (texts_again ps)
