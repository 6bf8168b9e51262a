-- The config of a connector or a task: `{"properties":{..}}`, each property a text (Connect's config topic).
use Rattle.std.specs.Prelude.{ℕ, List, [], ◌∷◌, Option, Some, None, option_and_then, codes}
use Rattle.serde_json.specs.Data.{Data, object, Members, member, no_members}
use Rattle.serde_json.specs.Find.{get, as_str, as_object}
use Rattle.cw_json.specs.Writing.{members_of_props}

-- a property in front of those behind it
abbrev pub add_text : List ℕ → Option (List ℕ) → Option (List (List ℕ × List ℕ)) → Option (List (List ℕ × List ℕ))
add_text key None rest = None
add_text key (Some text) None = None
add_text key (Some text) (Some rest) = Some ((key, text) ∷ rest)

-- members that are all texts
abbrev pub member_texts : Members → Option (List (List ℕ × List ℕ))
member_texts no_members = Some []
member_texts (member key d ms) = add_text key (as_str d) (member_texts ms)

-- the properties of a config
abbrev pub properties_of : Data → Option (List (List ℕ × List ℕ))
properties_of d = option_and_then member_texts (option_and_then as_object (get (codes "properties") d))

-- a config as it is written
abbrev pub properties_data : List (List ℕ × List ℕ) → Data
properties_data ps = object (member (codes "properties") (object (members_of_props ps)) no_members)
