-- Properties that are read from JSON can be written: their keys rise, and their keys and values are UTF-8.
use Rattle.std.proofs.Common.{◌≡◌, ℕ, suc, ◌∷◌, [], Bool, true, false, List, Option, Some, None, Result, Ok, Err, codes, decimal, if◌then◌else◌, refl, subst}
use Rattle.std.specs.List.{AllByRecursion}
use Rattle.std.specs.Fmt.{signed_decimal}
use Rattle.std.specs.Ordering.{nat_cmp}
use Rattle.std.specs.Cmp.Lexicographic.{slice_cmp}
use Rattle.std.specs.declared.cmp.Ordering.TheVariants.{Less}
use Rattle.std.specs.Str.{IsUtf8}
use Rattle.std.proofs.lemmas.Str.{IsUtf8-append}
use Rattle.std.proofs.Math.IntN.{ℤ, pos, negsuc}
use Rattle.serde_json.specs.Data.{unsigned, negative, float, Data, Members}
use Rattle.serde_json.specs.Data as found
use Rattle.cw_json.specs.Props.{property, add_property, member_props, props_of_data}
use Rattle.cw_json.specs.Reading.{reading}
use Rattle.cw_json.specs.declared.fault.JsonFault.{JsonFault}
use Rattle.cw_laws.proofs.ReadValues.{IsTextData, MembersAreTexts, AreAbove, reading-text}
use Rattle.cw_laws.proofs.Reports.{literal-utf8, decimal-utf8}
use Rattle.cw_laws.proofs.TaskTexts.{AreWritable}

signed-utf8 : (z : ℤ) → IsUtf8 (signed_decimal z)
signed-utf8 (pos n) = decimal-utf8 n
signed-utf8 (negsuc n) = IsUtf8-append (45 ∷ []) (decimal (suc n)) (literal-utf8 (45 ∷ []) refl) (decimal-utf8 (suc n))

truth-utf8 : (b : Bool) → IsUtf8 (if b then codes "true" else codes "false")
truth-utf8 true = literal-utf8 (codes "true") refl
truth-utf8 false = literal-utf8 (codes "false") refl

property-utf8 : (d : Data) (v : List ℕ) → IsTextData d → property d ≡ Some v → IsUtf8 v
property-utf8 (found.string s) v text is = let same : s ≡ v = cc in subst IsUtf8 same text
property-utf8 (found.boolean b) v text is =
    let same : (if b then codes "true" else codes "false") ≡ v = cc in subst IsUtf8 same (truth-utf8 b)
property-utf8 (found.number (unsigned n)) v text is = let same : decimal n ≡ v = cc in subst IsUtf8 same (decimal-utf8 n)
property-utf8 (found.number (negative z)) v text is = let same : signed_decimal z ≡ v = cc in subst IsUtf8 same (signed-utf8 z)
property-utf8 (found.number (float x)) v text is = absurd (cc)
property-utf8 found.null v text is = absurd (cc)
property-utf8 (found.array ds) v text is = absurd (cc)
property-utf8 (found.object ms) v text is = absurd (cc)

abbrev Props : Type 0
Props = List (List ℕ × List ℕ)

-- what properties of members have
record AreOf (ms : Members) (ps : Props) : Type 0 where
  writable : AreWritable ps
  above : (k : List ℕ) → AreAbove k ms → AllByRecursion (λ (q : List ℕ × List ℕ). slice_cmp nat_cmp k q.0 ≡ Less) ps

member-added : (k : List ℕ) (d : Data) (ms : Members) (ps : Props) (o : Option (List ℕ)) (rest : Result Props JsonFault) → MembersAreTexts (found.member k d ms) →
    ((v : List ℕ) → o ≡ Some v → IsUtf8 v) → ((qs : Props) → rest ≡ Ok qs → AreOf ms qs) → add_property k o rest ≡ Ok ps → AreOf (found.member k d ms) ps
member-added k d ms ps None rest text value others is = absurd (cc)
member-added k d ms ps (Some v) (Err fault) text value others is = absurd (cc)
member-added k d ms ps (Some v) (Ok qs) text value others is =
    let those : AreOf ms qs = others qs refl in
    let same : (k, v) ∷ qs ≡ ps = cc in
    subst (AreOf (found.member k d ms)) same record {
      writable = ((those.above k text.3, those.writable.0), (text.0, value v refl, those.writable.1));
      above = λ l above. (above.0, those.above l above.1);
    }

members-written : (ms : Members) (ps : Props) → MembersAreTexts ms → member_props ms ≡ Ok ps → AreOf ms ps
members-written found.no_members ps text is =
    let same : [] ≡ ps = cc in subst (AreOf found.no_members) same record { writable = (tt, tt); above = λ k above. tt }
members-written (found.member k d ms) ps text is =
    member-added k d ms ps (property d) (member_props ms) text (λ v there. property-utf8 d v text.1 there) (λ qs there. members-written ms qs text.2 there) is

-- the properties of a value that was read
pub props-written : (d : Data) (ps : Props) → IsTextData d → props_of_data d ≡ Ok ps → AreWritable ps
props-written (found.object ms) ps text is = (members-written ms ps text is).writable
props-written found.null ps text is = absurd (cc)
props-written (found.boolean b) ps text is = absurd (cc)
props-written (found.number n) ps text is = absurd (cc)
props-written (found.string s) ps text is = absurd (cc)
props-written (found.array ds) ps text is = absurd (cc)

pub read_props-written : (text : List ℕ) (d : Data) (ps : Props) → reading text ≡ Some d → props_of_data d ≡ Ok ps → AreWritable ps
read_props-written text d ps read is = props-written d ps (reading-text text d read) is
