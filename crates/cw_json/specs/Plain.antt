-- The JSON values that are written here: texts in UTF-8, whole numbers from 0 to 2^64 - 1, and objects whose keys
-- stand in byte order, each once.
use Rattle.std.specs.Prelude.{◌≡◌, ◌<◌, ◌^◌, ℕ, List, [], ◌∷◌}
use Rattle.std.specs.Str.{IsUtf8}
use Rattle.serde_json.specs.Data.{Num, unsigned, negative, float, Data, null, boolean, number, string, array, object}
use Rattle.serde_json.specs.Data.{Items, no_items, item, Members, no_members, member, put}

-- a whole number from 0 to 2^64 - 1
abbrev pub IsPlainNumber : Num → Type 0
IsPlainNumber (unsigned n) = n < 2 ^ 64
IsPlainNumber (negative z) = ⊥
IsPlainNumber (float x) = ⊥

-- the members that stand after some were put in, one after another
abbrev pub put_all : Members → Members → Members
put_all no_members found = found
put_all (member key d ms) found = put_all ms (put key d found)

abbrev mutual
  pub IsPlain : Data → Type 0
  IsPlain null = Unit {0}
  IsPlain (boolean b) = Unit {0}
  IsPlain (number n) = IsPlainNumber n
  IsPlain (string s) = IsUtf8 s
  IsPlain (array ds) = ItemsArePlain ds
  IsPlain (object ms) = MembersArePlain ms × (put_all ms no_members ≡ ms)

  pub ItemsArePlain : Items → Type 0
  ItemsArePlain no_items = Unit {0}
  ItemsArePlain (item d ds) = IsPlain d × ItemsArePlain ds

  pub MembersArePlain : Members → Type 0
  MembersArePlain no_members = Unit {0}
  MembersArePlain (member key d ms) = IsUtf8 key × IsPlain d × MembersArePlain ms

-- pairs whose keys and values are UTF-8
abbrev pub AreTexts : List (List ℕ × List ℕ) → Type 0
AreTexts [] = Unit {0}
AreTexts (p ∷ ps) = IsUtf8 p.0 × IsUtf8 p.1 × AreTexts ps
