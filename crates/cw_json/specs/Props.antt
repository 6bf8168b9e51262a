-- Which properties a JSON value stands for. Connect's REST API sends a connector's config as an object; that whole
-- numbers and truth values are taken as their JSON text is this project's own rule.
use Rattle.std.specs.Prelude.{ℕ, List, [], ◌∷◌, ◌++◌, Option, Some, None, Result, Ok, Err, codes, decimal}
use Rattle.std.specs.Prelude.{if◌then◌else◌}
use Rattle.std.specs.Fmt.{signed_decimal}
use Rattle.serde_json.specs.Data.{Num, unsigned, negative, float, Data, null, boolean, number, string, array, object}
use Rattle.serde_json.specs.Data.{Members, no_members, member}
use Rattle.cw_json.specs.declared.fault.JsonFault.{JsonFault}
use Rattle.cw_json.specs.declared.fault.JsonFault.TheVariants.{NotObject, BadValue}

-- a number from -2^63 to 2^64 - 1 that is written without a point and an exponent is whole, all others are floats
abbrev pub number_property : Num → Option (List ℕ)
number_property (unsigned n) = Some (decimal n)
number_property (negative z) = Some (signed_decimal z)
number_property (float x) = None

-- a property's value: a text as it is, a truth value or a whole number as its JSON text
abbrev pub property : Data → Option (List ℕ)
property (string s) = Some s
property (boolean b) = Some (if b then codes "true" else codes "false")
property (number n) = number_property n
property null = None
property (array ds) = None
property (object ms) = None

-- pairs in front of what the others give
abbrev pub with_front : List (List ℕ × List ℕ) → Result (List (List ℕ × List ℕ)) JsonFault →
    Result (List (List ℕ × List ℕ)) JsonFault
with_front front (Ok pairs) = Ok (front ++ pairs)
with_front front (Err fault) = Err fault

-- a property in front of those behind it
abbrev pub add_property : List ℕ → Option (List ℕ) → Result (List (List ℕ × List ℕ)) JsonFault →
    Result (List (List ℕ × List ℕ)) JsonFault
add_property key None rest = Err (BadValue key)
add_property key (Some value) rest = with_front ((key, value) ∷ []) rest

-- the properties of members, or the first key whose value is no property's
abbrev pub member_props : Members → Result (List (List ℕ × List ℕ)) JsonFault
member_props no_members = Ok []
member_props (member key d ms) = add_property key (property d) (member_props ms)

-- the properties of an object, whose members stand in byte order of their keys
abbrev pub props_of_data : Data → Result (List (List ℕ × List ℕ)) JsonFault
props_of_data (object members) = member_props members
props_of_data null = Err NotObject
props_of_data (boolean b) = Err NotObject
props_of_data (number n) = Err NotObject
props_of_data (string s) = Err NotObject
props_of_data (array ds) = Err NotObject
