-- Properties as a JSON object: compact, the keys in byte order, each value a text.
use Rattle.std.specs.Prelude.{ℕ, List, [], ◌∷◌}
use Rattle.serde_json.specs.Data.{string, object, Members, no_members, member}
use Rattle.serde_json.specs.Written.{compact_text}

-- the members of the object
abbrev pub members_of_props : List (List ℕ × List ℕ) → Members
members_of_props [] = no_members
members_of_props (p ∷ ps) = member p.0 (string p.1) (members_of_props ps)

-- the text of the object
abbrev pub props_text : List (List ℕ × List ℕ) → List ℕ
props_text ps = compact_text (object (members_of_props ps))
